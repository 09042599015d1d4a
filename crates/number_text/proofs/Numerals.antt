-- Digits that are read from the left.
use Rattle.std.proofs.Common.{◌≡◌, ℕ, ◌+◌, ◌*◌, ◌<◌, ◌≤◌, List, [], ◌∷◌, length, take, get_or, sym, ◌∙◌, ap, arith, zero, suc}
use Rattle.std.specs.Char.{digit_value}
use Rattle.std.specs.Str.Parse.{AllDigits, IsNumeral, digits_value}
use Rattle.std.proofs.lemmas.Int.Digits.{digits_value_more}
use Rattle.std.proofs.lemmas.Str.Parse.{digits_value-take-le}

pub digit_value_at : (base : ℕ) (text : List ℕ) (i : ℕ) → AllDigits base text → i < length text → digit_value (get_or text i 0) < base
digit_value_at base [] i all below = absurd (omega arith)
digit_value_at base (c ∷ cs) zero all below = all.0
digit_value_at base (c ∷ cs) (suc i) all below = digit_value_at base cs i all.1 (omega arith)

-- a byte that is no digit spoils the text
pub no_digit : (base : ℕ) (text : List ℕ) (i most : ℕ) → i < length text → (digit_value (get_or text i 0) < base → ⊥) → IsNumeral base text × (digits_value base text ≤ most) → ⊥
no_digit base text i most below none numeral = none (digit_value_at base text i numeral.0.1 below)

-- a front whose value is too large spoils the text
pub too_large : (base : ℕ) (text : List ℕ) (i n most : ℕ) → 1 ≤ base → i < length text → n ≡ digits_value base (take i text) → most < n * base + digit_value (get_or text i 0) → IsNumeral base text × (digits_value base text ≤ most) → ⊥
too_large base text i n most low below is large numeral =
    let front : digits_value base (take (i + 1) text) ≤ digits_value base text = digits_value-take-le base text (i + 1) low in
    let step : digits_value base (take (i + 1) text) ≡ n * base + digit_value (get_or text i 0) =
    digits_value_more base text i below ∙ ap (λ (m : ℕ). m * base + digit_value (get_or text i 0)) (sym is) in
    let last : digits_value base text ≤ most = numeral.1 in
    omega arith
