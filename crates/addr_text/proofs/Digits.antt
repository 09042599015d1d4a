-- Numbers and their digits in a base.
use Rattle.std.proofs.Common.{◌≡◌, ℕ, ◌+◌, ◌-◌, ◌*◌, ◌/◌, ◌%◌, ◌^◌, ◌<◌, ◌≤◌, List, [], ◌∷◌, ◌++◌, length, take, drop, get_or, suc, sym, ap, ◌∙◌, append_assoc, arith}
use Rattle.std.specs.Int.Digits.{number_from_digits, number_from_digits_after}
use Rattle.std.proofs.lemmas.Int.Digits.{number_after_append, number_after_ge, number_more}
use Rattle.std.proofs.lemmas.List.{take-append-drop}
use Rattle.addr_text.specs.Canonical.{parts_of}
use Rattle.addr_text.specs.Forms.{base_of}
use Rattle.addr_text.specs.declared.form.Form.{Form}
use Rattle.addr_text.specs.declared.form.Form.TheVariants as form

pub base_of-some : (f : Form) → 0 < base_of f
base_of-some form.Octets = omega arith
base_of-some form.Groups = omega arith

-- the digits so far make no larger number than all of them
pub number_front : (base i : ℕ) (digits : List ℕ) → 0 < base → i < length digits →
    number_from_digits base (take i digits) * base + get_or digits i 0 ≤ number_from_digits base digits
number_front base i digits some below =
    let front : ℕ = number_from_digits base (take (i + 1) digits) in
    let step : number_from_digits base (take (i + 1) digits) ≡ number_from_digits base (take i digits) * base + get_or digits i 0 = number_more base digits i below in
    let whole : number_from_digits base digits ≡ number_from_digits_after base (number_from_digits base (take (i + 1) digits)) (drop (i + 1) digits) =
    ap (number_from_digits base) (sym (take-append-drop (i + 1) digits)) ∙ number_after_append base 0 (take (i + 1) digits) (drop (i + 1) digits) in
    let grows : number_from_digits base (take (i + 1) digits) ≤ number_from_digits_after base (number_from_digits base (take (i + 1) digits)) (drop (i + 1) digits) =
    number_after_ge base (number_from_digits base (take (i + 1) digits)) (drop (i + 1) digits) some in
    omega arith

-- one digit more is read
pub number_step : (base i number b digit : ℕ) (digits : List ℕ) → 0 < base → i < length digits →
    number ≡ number_from_digits base (take i digits) → b ≡ base → digit ≡ get_or digits i 0 → number_from_digits base digits < 2 ^ 128 →
    (number * b + digit < 2 ^ 128) × (number * b + digit ≡ number_from_digits base (take (i + 1) digits))
number_step base i number b digit digits some below is same one small =
    let front : number_from_digits base (take i digits) * base + get_or digits i 0 ≤ number_from_digits base digits = number_front base i digits some below in
    let step : number * b + digit ≡ number_from_digits base (take i digits) * base + get_or digits i 0 = cc in
    (omega arith, step ∙ sym (number_more base digits i below))

-- one digit more is cut off
pub parts_of-more : (base count place rest : ℕ) (digits : List ℕ) → place < count →
    parts_of base (count - place) rest ++ digits ≡ parts_of base (count - (place + 1)) (rest / base) ++ (rest % base ∷ digits)
parts_of-more base count place rest digits below =
    ap (λ (k : ℕ). parts_of base k rest ++ digits) {x = count - place} {y = suc (count - (place + 1))} (omega arith)
    ∙ append_assoc (parts_of base (count - (place + 1)) (rest / base)) (rest % base ∷ []) digits
