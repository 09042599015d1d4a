-- Texts in which a byte doesn't stand, and texts that are cut at it.
use Rattle.std.proofs.Common.{◌≡◌, ℕ, ◌<◌, ◌≤◌, ◌||◌, Bool, true, false, List, [], ◌∷◌, ◌++◌, refl, sym, ap, ◌∙◌, eqb, eq-eqb, arith}
use borrow.Author.Tests.{eqb-true}
use Rattle.std.proofs.lemmas.List.Folds.{list_any-append}
use Rattle.std.specs.Char.{digit_value}
use Rattle.std.specs.Str.Parse.{AllDigits}
use Rattle.std.proofs.lemmas.Bool.{or_parts, or_from}
use Rattle.addr_text.specs.Forms.{has_byte}

pub has_byte-here : (byte : ℕ) (left right : List ℕ) → has_byte byte (left ++ byte ∷ right) ≡ true
has_byte-here byte [] right = ap (λ (b : Bool). b || has_byte byte right) (eq-eqb byte byte refl)
has_byte-here byte (x ∷ left) right = by (eqb x byte) (has_byte-here byte left right)
  where
    by : (b : Bool) → has_byte byte (left ++ byte ∷ right) ≡ true → (b || has_byte byte (left ++ byte ∷ right)) ≡ true
    by true rest = refl
    by false rest = rest

pub has_byte-append : (byte : ℕ) (left right : List ℕ) → has_byte byte left ≡ false → has_byte byte right ≡ false → has_byte byte (left ++ right) ≡ false
has_byte-append byte left right l r = list_any-append (λ b. eqb b byte) left right ∙ or_from _ _ l r

pub has_byte-other : (byte x : ℕ) (xs : List ℕ) → eqb x byte ≡ false → has_byte byte xs ≡ false → has_byte byte (x ∷ xs) ≡ false
has_byte-other byte x xs e rest = or_from (eqb x byte) (has_byte byte xs) e rest

-- a text is cut at the first such byte in one way
pub cut_once : (byte : ℕ) (a b xs ys : List ℕ) → has_byte byte a ≡ false → has_byte byte b ≡ false → a ++ byte ∷ xs ≡ b ++ byte ∷ ys → (a ≡ b) × (xs ≡ ys)
cut_once byte [] [] xs ys ha hb e = (refl, cc)
cut_once byte [] (y ∷ b) xs ys ha hb e =
    let head : y ≡ byte = cc in absurd (let no : true ≡ false = sym (eq-eqb y byte head) ∙ (or_parts (eqb y byte) (has_byte byte b) hb).0 in cc)
cut_once byte (x ∷ a) [] xs ys ha hb e =
    let head : x ≡ byte = cc in absurd (let no : true ≡ false = sym (eq-eqb x byte head) ∙ (or_parts (eqb x byte) (has_byte byte a) ha).0 in cc)
cut_once byte (x ∷ a) (y ∷ b) xs ys ha hb e =
    let head : x ≡ y = cc in
    let tail : a ++ byte ∷ xs ≡ b ++ byte ∷ ys = cc in
    let rest = cut_once byte a b xs ys (or_parts (eqb x byte) (has_byte byte a) ha).1 (or_parts (eqb y byte) (has_byte byte b) hb).1 tail in
    (let front : a ≡ b = rest.0 in cc, rest.1)

-- a byte that is no digit of the base stands in no numeral
pub has_byte-digits : (base byte : ℕ) (text : List ℕ) → base ≤ digit_value byte → AllDigits base text → has_byte byte text ≡ false
has_byte-digits base byte [] above all = refl
has_byte-digits base byte (x ∷ xs) above all = by (eqb x byte) refl (has_byte-digits base byte xs above all.1)
  where
    by : (b : Bool) → eqb x byte ≡ b → has_byte byte xs ≡ false → has_byte byte (x ∷ xs) ≡ false
    by true e rest =
        let same : digit_value x ≡ digit_value byte = ap digit_value (eqb-true x byte e) in
        let digit : digit_value x < base = all.0 in
        absurd (omega arith)
    by false e rest = has_byte-other byte x xs e rest
