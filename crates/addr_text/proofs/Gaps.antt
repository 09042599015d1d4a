-- Two colons side by side.
use Rattle.std.proofs.Common.{◌≡◌, ℕ, ◌+◌, ◌<◌, ◌||◌, ◌&&◌, Bool, true, false, eqb, List, [], ◌∷◌, ◌++◌, length, get_or, refl, ap, sym, ◌∙◌, append_assoc, length-append, arith}
use Rattle.std.proofs.lemmas.List.{append-nil, get_or_at}
use Rattle.std.proofs.lemmas.Bool.{or_parts, or_right}
use Rattle.addr_text.specs.Forms.{has_byte, SpellsParts}
use Rattle.addr_text.specs.declared.form.Form.TheVariants as form
use Rattle.addr_text.proofs.Parts.{SpellsPart-clean, SpellsPart-some}

-- where the two stand
pub gap_at : (text left right : List ℕ) → text ≡ left ++ 58 ∷ 58 ∷ right →
    (length left + 1 < length text) × (get_or text (length left) 0 ≡ 58) × (get_or text (length left + 1) 0 ≡ 58)
gap_at text left right e = (
  omega (arith, ap length e, length-append left (58 ∷ 58 ∷ right)),
  ap (λ (t : List ℕ). get_or t (length left) 0) e ∙ get_or_at left 58 (58 ∷ right) 0 (length left) refl,
  ap (λ (t : List ℕ). get_or t (length left + 1) 0) (e ∙ sym (append_assoc left (58 ∷ []) (58 ∷ right)))
      ∙ get_or_at (left ++ 58 ∷ []) 58 right 0 (length left + 1) (length-append left (58 ∷ [])),
)

abbrev pub has_gap : List ℕ → Bool
has_gap [] = false
has_gap (x ∷ []) = false
has_gap (x ∷ y ∷ zs) = (eqb x 58 && eqb y 58) || has_gap (y ∷ zs)

has_gap-tail : (x : ℕ) (xs : List ℕ) → has_gap (x ∷ xs) ≡ false → has_gap xs ≡ false
has_gap-tail x [] e = refl
has_gap-tail x (y ∷ ys) e = (or_parts (eqb x 58 && eqb y 58) (has_gap (y ∷ ys)) e).1

-- a byte that is no colon before a text makes no gap
has_gap-cons : (x : ℕ) (xs : List ℕ) → eqb x 58 ≡ false → has_gap (x ∷ xs) ≡ has_gap xs
has_gap-cons x [] e = refl
has_gap-cons x (y ∷ ys) e = ap (λ (b : Bool). (b && eqb y 58) || has_gap (y ∷ ys)) e

has_gap-append : (xs ys : List ℕ) → has_byte 58 xs ≡ false → has_gap (xs ++ ys) ≡ has_gap ys
has_gap-append [] ys lacks = refl
has_gap-append (x ∷ xs) ys lacks =
    let two = or_parts (eqb x 58) (has_byte 58 xs) lacks in has_gap-cons x (xs ++ ys) two.0 ∙ has_gap-append xs ys two.1

-- nor does a colon before a byte that is none
has_gap-colon : (x : ℕ) (xs : List ℕ) → eqb x 58 ≡ false → has_gap (58 ∷ x ∷ xs) ≡ has_gap (x ∷ xs)
has_gap-colon x xs e = ap (λ (b : Bool). b || has_gap (x ∷ xs)) e

pub has_gap-here : (left right : List ℕ) → has_gap (left ++ 58 ∷ 58 ∷ right) ≡ true
has_gap-here [] right = refl
has_gap-here (x ∷ left) right = by (left ++ 58 ∷ 58 ∷ right) (has_gap-here left right)
  where
    by : (xs : List ℕ) → has_gap xs ≡ true → has_gap (x ∷ xs) ≡ true
    by [] e = cc
    by (y ∷ ys) e = ap (λ (b : Bool). (eqb x 58 && eqb y 58) || b) e ∙ or_right (eqb x 58 && eqb y 58) true refl

-- a text is cut at a gap in one way, where there is no other
pub cut_gap : (l m r s : List ℕ) → l ++ 58 ∷ 58 ∷ r ≡ m ++ 58 ∷ 58 ∷ s → has_gap (m ++ 58 ∷ []) ≡ false → has_gap (58 ∷ s) ≡ false → (l ≡ m) × (r ≡ s)
cut_gap [] [] r s e left right = (refl, cc)
cut_gap [] (x ∷ []) r s e left right = absurd (let head : x ≡ 58 = cc in let no : true ≡ false = ap (λ (y : ℕ). has_gap (y ∷ 58 ∷ [])) (sym head) ∙ left in cc)
cut_gap [] (x ∷ y ∷ m) r s e left right =
    absurd (let head : x ≡ 58 = cc in let next : y ≡ 58 = cc in
    let no : true ≡ false = ap (λ (z : ℕ). has_gap (z ∷ 58 ∷ (m ++ 58 ∷ []))) (sym head) ∙ ap (λ (z : ℕ). has_gap (x ∷ z ∷ (m ++ 58 ∷ []))) (sym next) ∙ left in cc)
cut_gap (x ∷ l) [] r s e left right =
    absurd (let tail : l ++ 58 ∷ 58 ∷ r ≡ 58 ∷ s = cc in let no : true ≡ false = sym (has_gap-here l r) ∙ ap has_gap tail ∙ right in cc)
cut_gap (x ∷ l) (y ∷ m) r s e left right =
    let head : x ≡ y = cc in
    let tail : l ++ 58 ∷ 58 ∷ r ≡ m ++ 58 ∷ 58 ∷ s = cc in
    let rest = cut_gap l m r s tail (has_gap-tail y (m ++ 58 ∷ []) left) right in
    (let front : l ≡ m = rest.0 in cc, rest.1)

-- a row of groups begins with no colon
pub row_head : (text : List ℕ) (x : ℕ) (xs : List ℕ) → SpellsParts form.Groups text (x ∷ xs) → (y : ℕ) × (ys : List ℕ) × (text ≡ y ∷ ys) × (eqb y 58 ≡ false)
row_head text x [] spells = head_of text (SpellsPart-some form.Groups text x spells) (SpellsPart-clean form.Groups 58 text x (omega arith) spells)
  where
    head_of : (text : List ℕ) → 0 < length text → has_byte 58 text ≡ false → (y : ℕ) × (ys : List ℕ) × (text ≡ y ∷ ys) × (eqb y 58 ≡ false)
    head_of [] some lacks = absurd (omega arith)
    head_of (y ∷ ys) some lacks = (y, ys, refl, (or_parts (eqb y 58) (has_byte 58 ys) lacks).0)
row_head text x (y ∷ ys) spells = first spells.0 (SpellsPart-some form.Groups spells.0 x spells.3) (SpellsPart-clean form.Groups 58 spells.0 x (omega arith) spells.3) spells.2
  where
    first : (one : List ℕ) → 0 < length one → has_byte 58 one ≡ false → text ≡ one ++ 58 ∷ spells.1 → (z : ℕ) × (zs : List ℕ) × (text ≡ z ∷ zs) × (eqb z 58 ≡ false)
    first [] some lacks cut = absurd (omega arith)
    first (z ∷ one) some lacks cut = (z, one ++ 58 ∷ spells.1, cut, (or_parts (eqb z 58) (has_byte 58 one) lacks).0)

after_colon : (text more : List ℕ) (x : ℕ) (xs : List ℕ) → SpellsParts form.Groups text (x ∷ xs) → has_gap (58 ∷ (text ++ more)) ≡ has_gap (text ++ more)
after_colon text more x xs spells =
    let head = row_head text x xs spells in
    ap (λ (t : List ℕ). has_gap (58 ∷ (t ++ more))) head.2 ∙ has_gap-colon head.0 (head.1 ++ more) head.3 ∙ ap (λ (t : List ℕ). has_gap (t ++ more)) (sym head.2)

-- a row of groups has no gap, nor has it with a colon after it or before it
pub row-colon : (text : List ℕ) (xs : List ℕ) → SpellsParts form.Groups text xs → has_gap (text ++ 58 ∷ []) ≡ false
row-colon text [] spells = ap (λ (t : List ℕ). has_gap (t ++ 58 ∷ [])) spells
row-colon text (x ∷ []) spells = has_gap-append text (58 ∷ []) (SpellsPart-clean form.Groups 58 text x (omega arith) spells)
row-colon text (x ∷ y ∷ ys) spells =
    ap (λ (t : List ℕ). has_gap (t ++ 58 ∷ [])) spells.2
    ∙ ap has_gap (append_assoc spells.0 (58 ∷ spells.1) (58 ∷ []))
    ∙ has_gap-append spells.0 (58 ∷ (spells.1 ++ 58 ∷ [])) (SpellsPart-clean form.Groups 58 spells.0 x (omega arith) spells.3)
    ∙ after_colon spells.1 (58 ∷ []) y ys spells.4
    ∙ row-colon spells.1 (y ∷ ys) spells.4

pub colon-row : (text : List ℕ) (xs : List ℕ) → SpellsParts form.Groups text xs → has_gap (58 ∷ text) ≡ false
colon-row text [] spells = ap (λ (t : List ℕ). has_gap (58 ∷ t)) spells
colon-row text (x ∷ []) spells =
    ap (λ (t : List ℕ). has_gap (58 ∷ t)) (sym (append-nil text)) ∙ after_colon text [] x [] spells ∙ has_gap-append text [] (SpellsPart-clean form.Groups 58 text x (omega arith) spells)
colon-row text (x ∷ y ∷ ys) spells =
    ap (λ (t : List ℕ). has_gap (58 ∷ t)) (sym (append-nil text)) ∙ after_colon text [] x (y ∷ ys) spells
    ∙ ap has_gap (append-nil text ∙ spells.2)
    ∙ has_gap-append spells.0 (58 ∷ spells.1) (SpellsPart-clean form.Groups 58 spells.0 x (omega arith) spells.3)
    ∙ colon-row spells.1 (y ∷ ys) spells.4

pub row-gap : (text : List ℕ) (xs : List ℕ) → SpellsParts form.Groups text xs → has_gap text ≡ false
row-gap text xs spells = has_gap-tail 58 text (colon-row text xs spells)
