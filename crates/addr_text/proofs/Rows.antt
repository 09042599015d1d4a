-- Rows that are read from the left.
use Rattle.std.proofs.Common.{◌≡◌, ℕ, ◌<◌, true, false, List, [], ◌∷◌, ◌++◌, length, sym, subst, ap, ◌∙◌, refl, append_assoc, length-append, arith}
use Rattle.addr_text.specs.Forms.{has_byte, separator_of, SpellsPart, SpellsParts}
use Rattle.addr_text.specs.declared.form.Form.{Form}
use Rattle.addr_text.proofs.Bytes.{cut_once, has_byte-here}
use Rattle.addr_text.proofs.Parts.{separator_of-above, SpellsPart-clean, SpellsPart-one, SpellsPart-some}

-- These parts stand in the text, and after them the rest: what the rest spells goes on with them, and
-- what the text spells begins with them.
pub record ReadSoFar (f : Form) (text parts rest : List ℕ) : Type 0 where
  pub to : (x : ℕ) (xs : List ℕ) → SpellsParts f rest (x ∷ xs) → SpellsParts f text (parts ++ x ∷ xs)
  pub from : (all : List ℕ) → SpellsParts f text all → (x : ℕ) × (xs : List ℕ) × (all ≡ parts ++ x ∷ xs) × SpellsParts f rest (x ∷ xs)

clean : (f : Form) (text : List ℕ) (x : ℕ) → SpellsPart f text x → has_byte (separator_of f) text ≡ false
clean f text x spells = SpellsPart-clean f (separator_of f) text x (separator_of-above f) spells

-- a text that isn't empty, before its first part
pub none_read : (f : Form) (text : List ℕ) → 0 < length text → ReadSoFar f text [] text
none_read f text some = record { to = λ x xs spells. spells; from = from }
  where
    from : (all : List ℕ) → SpellsParts f text all → (x : ℕ) × (xs : List ℕ) × (all ≡ x ∷ xs) × SpellsParts f text (x ∷ xs)
    from [] spells = absurd (omega (arith, ap length spells))
    from (x ∷ xs) spells = (x, xs, refl, spells)

-- what stands before the separator is one part, and after it stand others
cut_off : (f : Form) (rest first others : List ℕ) (x : ℕ) (xs : List ℕ) → rest ≡ first ++ separator_of f ∷ others → has_byte (separator_of f) first ≡ false →
    SpellsParts f rest (x ∷ xs) → SpellsPart f first x × ((y : ℕ) × (ys : List ℕ) × (xs ≡ y ∷ ys) × SpellsParts f others (y ∷ ys))
cut_off f rest first others x [] cut lacks spells =
    absurd (let no : true ≡ false = sym (ap (has_byte (separator_of f)) cut ∙ has_byte-here (separator_of f) first others) ∙ clean f rest x spells in cc)
cut_off f rest first others x (y ∷ ys) cut lacks spells =
    let same = cut_once (separator_of f) spells.0 first spells.1 others (clean f spells.0 x spells.3) lacks (sym spells.2 ∙ cut) in (
      subst (λ (t : List ℕ). SpellsPart f t x) same.0 spells.3,
      (y, ys, refl, subst (λ (t : List ℕ). SpellsParts f t (y ∷ ys)) same.1 spells.4),
    )

-- one part more
pub one_more : (f : Form) (text parts rest first others : List ℕ) (x : ℕ) → ReadSoFar f text parts rest →
    rest ≡ first ++ separator_of f ∷ others → has_byte (separator_of f) first ≡ false → SpellsPart f first x → ReadSoFar f text (parts ++ x ∷ []) others
one_more f text parts rest first others x before cut lacks part = record { to = to; from = from }
  where
    to : (y : ℕ) (ys : List ℕ) → SpellsParts f others (y ∷ ys) → SpellsParts f text ((parts ++ x ∷ []) ++ y ∷ ys)
    to y ys spells = subst (λ (all : List ℕ). SpellsParts f text all) (sym (append_assoc parts (x ∷ []) (y ∷ ys)))
        (before.to x (y ∷ ys) (first, others, cut, part, spells))

    from : (all : List ℕ) → SpellsParts f text all → (y : ℕ) × (ys : List ℕ) × (all ≡ (parts ++ x ∷ []) ++ y ∷ ys) × SpellsParts f others (y ∷ ys)
    from all spells =
        let found = before.from all spells in
        let split = cut_off f rest first others found.0 found.1 cut lacks found.3 in
        let same : found.0 ≡ x = SpellsPart-one f first found.0 x split.0 part in
        let whole : all ≡ parts ++ x ∷ split.1.0 ∷ split.1.1 =
        found.2 ∙ ap (λ (v : ℕ). parts ++ v ∷ found.1) same ∙ ap (λ (vs : List ℕ). parts ++ x ∷ vs) split.1.2 in
        (split.1.0, split.1.1, whole ∙ sym (append_assoc parts (x ∷ []) (split.1.0 ∷ split.1.1)), split.1.3)

-- what stands before the separator is no part
pub no_part : (f : Form) (text parts rest first others : List ℕ) → ReadSoFar f text parts rest →
    rest ≡ first ++ separator_of f ∷ others → has_byte (separator_of f) first ≡ false → ((x : ℕ) → SpellsPart f first x → ⊥) → (all : List ℕ) → SpellsParts f text all → ⊥
no_part f text parts rest first others before cut lacks none all spells =
    let found = before.from all spells in none found.0 (cut_off f rest first others found.0 found.1 cut lacks found.3).0

-- a rest with no separator is one part
alone : (f : Form) (rest : List ℕ) (x : ℕ) (xs : List ℕ) → has_byte (separator_of f) rest ≡ false → SpellsParts f rest (x ∷ xs) → SpellsPart f rest x × (xs ≡ [])
alone f rest x [] lacks spells = (spells, refl)
alone f rest x (y ∷ ys) lacks spells =
    absurd (let no : true ≡ false = sym (ap (has_byte (separator_of f)) spells.2 ∙ has_byte-here (separator_of f) spells.0 spells.1) ∙ lacks in cc)

-- no text spells two rows
pub one_row : (f : Form) (text xs ys : List ℕ) → SpellsParts f text xs → SpellsParts f text ys → xs ≡ ys
one_row f text [] [] a b = refl
one_row f text [] (y ∷ []) a b = absurd (let some = SpellsPart-some f text y b in omega (arith, ap length a))
one_row f text [] (y ∷ z ∷ ys) a b = absurd (omega (arith, ap length (sym a ∙ b.2), length-append b.0 (separator_of f ∷ b.1)))
one_row f text (x ∷ []) ys a b = by ys b
  where
    by : (ys : List ℕ) → SpellsParts f text ys → x ∷ [] ≡ ys
    by [] b = absurd (let some = SpellsPart-some f text x a in omega (arith, ap length b))
    by (y ∷ ys) b =
        let other = alone f text y ys (clean f text x a) b in
        let same : x ≡ y = SpellsPart-one f text x y a other.0 in
        let none : ys ≡ [] = other.1 in cc
one_row f text (x ∷ z ∷ xs) [] a b = absurd (omega (arith, ap length (sym b ∙ a.2), length-append a.0 (separator_of f ∷ a.1)))
one_row f text (x ∷ z ∷ xs) (y ∷ ys) a b =
    let split = cut_off f text a.0 a.1 y ys a.2 (clean f a.0 x a.3) b in
    let same : x ≡ y = SpellsPart-one f a.0 x y a.3 split.0 in
    let rest : z ∷ xs ≡ split.1.0 ∷ split.1.1 = one_row f a.1 (z ∷ xs) (split.1.0 ∷ split.1.1) a.4 split.1.3 in
    let whole : ys ≡ split.1.0 ∷ split.1.1 = split.1.2 in cc
