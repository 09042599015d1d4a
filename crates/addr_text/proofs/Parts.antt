-- The texts of the parts of an address.
use Rattle.std.proofs.Common.{◌≡◌, ℕ, ◌-◌, ◌<◌, ◌≤◌, ◌^◌, false, List, [], ◌∷◌, ◌++◌, length, take, drop, get_or, sym, ap, ◌∙◌, arith}
use Rattle.std.proofs.Math.Nat.{pow-le-pow_right}
use Rattle.std.proofs.lemmas.Int.Digits.{digits_value-lt}
use Rattle.std.proofs.lemmas.List.{append-nil}
use Rattle.std.specs.Char.{digit_value}
use Rattle.std.specs.List.{flat_map}
use Rattle.std.specs.Str.Parse.{digits_value}
use Rattle.std.proofs.Math.Seq.{take-length}
use Rattle.addr_text.specs.Canonical.{row_text}
use Rattle.addr_text.specs.Forms.{has_byte, part_text, parts_text, separator_of, SpellsPart}
use Rattle.addr_text.specs.Grammar.{SpellsGroup}
use Rattle.addr_text.specs.declared.form.Form.{Form}
use Rattle.addr_text.specs.declared.form.Form.TheVariants as form
use Rattle.addr_text.proofs.Bytes.{has_byte-digits}

-- four hexadecimal digits write a number below 65536
pub SpellsGroup-small : (text : List ℕ) (group : ℕ) → SpellsGroup text group → digits_value 16 text ≤ 65535
SpellsGroup-small text group spells =
    let below : digits_value 16 text < 16 ^ length text = digits_value-lt 16 text spells.0.1 in
    let some : 0 < 16 = omega arith in
    let most : 16 ^ length text ≤ 16 ^ 4 = pow-le-pow_right some spells.1 in
    omega arith

-- no part has a byte that is no hexadecimal digit
pub SpellsPart-clean : (f : Form) (byte : ℕ) (text : List ℕ) (part : ℕ) → 16 ≤ digit_value byte → SpellsPart f text part → has_byte byte text ≡ false
SpellsPart-clean form.Octets byte text part above spells = has_byte-digits 10 byte text (omega arith) spells.0.numeral.1
SpellsPart-clean form.Groups byte text part above spells = has_byte-digits 16 byte text above spells.0.1

pub separator_of-above : (f : Form) → 16 ≤ digit_value (separator_of f)
separator_of-above form.Octets = omega arith
separator_of-above form.Groups = omega arith

-- no text spells two
pub SpellsPart-one : (f : Form) (text : List ℕ) (x y : ℕ) → SpellsPart f text x → SpellsPart f text y → x ≡ y
SpellsPart-one form.Octets text x y one other = sym one.0.value ∙ other.0.value
SpellsPart-one form.Groups text x y one other = sym one.2 ∙ other.2

-- the empty text is no part
pub SpellsPart-some : (f : Form) (text : List ℕ) (x : ℕ) → SpellsPart f text x → 0 < length text
SpellsPart-some form.Octets text x spells = spells.0.numeral.0
SpellsPart-some form.Groups text x spells = spells.0.0

-- the first text, and then each other after the byte
pub row_text-first : (text_of : ℕ → List ℕ) (byte x : ℕ) (xs : List ℕ) → row_text text_of byte (x ∷ xs) ≡ text_of x ++ flat_map (λ (v : ℕ). byte ∷ text_of v) xs
row_text-first text_of byte x [] = sym (append-nil (text_of x))
row_text-first text_of byte x (y ∷ ys) = ap (λ (t : List ℕ). text_of x ++ byte ∷ t) (row_text-first text_of byte y ys)

pub parts_text-first : (f : Form) (parts : List ℕ) → 0 < length parts →
    part_text f (get_or parts 0 0) ++ flat_map (λ (part : ℕ). separator_of f ∷ part_text f part) (take (length parts - 1) (drop 1 parts)) ≡ parts_text f parts
parts_text-first f [] some = absurd (omega arith)
parts_text-first f (x ∷ xs) some =
    ap (λ (k : ℕ). part_text f x ++ flat_map (λ (part : ℕ). separator_of f ∷ part_text f part) (take k xs)) {x = length (x ∷ xs) - 1} {y = length xs} (omega arith)
    ∙ ap (λ (ys : List ℕ). part_text f x ++ flat_map (λ (part : ℕ). separator_of f ∷ part_text f part) ys) (take-length xs)
    ∙ sym (row_text-first (part_text f) (separator_of f) x xs)
