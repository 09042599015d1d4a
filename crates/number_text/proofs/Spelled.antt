-- The text that is written for a number spells it, and no other text does.
use Rattle.std.proofs.Common.{◌≡◌, ℕ, ◌+◌, ◌*◌, ◌/◌, ◌%◌, ◌^◌, ◌<◌, ◌≤◌, ◌||◌, Bool, true, false, cond, eqb, List, [], ◌∷◌, ◌++◌, length, get_or, zero, suc, sym, ◌∙◌, ap, refl, arith, append_assoc, mul-le-mul_left, mul-le-mul_right}
use Rattle.std.proofs.Math.Nat.{pow-suc, pow-zero, div-lt_iff_lt-mul, mod-lt, div-add-mod', pow-le-pow_left, div-eq_of_lt-le}
use Rattle.std.specs.Char.{digit_value, is_ascii_uppercase}
use Rattle.std.specs.Fmt.{decimal, digits, digits_onto, digit_glyph}
use Rattle.std.specs.List.{list_any}
use Rattle.std.specs.Str.Parse.{AllDigits, digits_value_after}
use Rattle.std.proofs.lemmas.Fmt.{digits_is_IsNumeral}
use Rattle.std.proofs.lemmas.List.{append-nil, nil_from_length}
use Rattle.std.proofs.lemmas.Bool.Decides.{nat_tests}
use borrow.Author.Tests.{eqb-true, eqb-false}
use Rattle.std.proofs.lemmas.Bool.{or_parts}
use Rattle.number_text.specs.Numbers.{hexadecimal, HasNoLeadingZero, SpellsInBase, SpellsDecimal, SpellsHexadecimal}
use Rattle.number_text.proofs.Written.{digits_one, digits_last, digits-fuel}

-- only the digit of 0 is the byte '0'
glyph_zero : (d : ℕ) → digit_glyph false d ≡ 48 → d ≡ 0
glyph_zero d e = grind (arith, nat_tests)

-- no digit is in upper case
glyph_lower : (d : ℕ) → d < 16 → is_ascii_uppercase (digit_glyph false d) ≡ false
glyph_lower d small = grind (arith, nat_tests)

-- a digit in lower case is the one that is written for its value
glyph_of_value : (c : ℕ) → digit_value c < 16 → is_ascii_uppercase c ≡ false → digit_glyph false (digit_value c) ≡ c
glyph_of_value c small lower = grind (arith, nat_tests)

-- the digits of a number but 0 don't begin with 0
first_digit : (base k n : ℕ) (text : List ℕ) → 2 ≤ base → 0 < n → n < base ^ k → get_or (digits_onto k base false n text) 0 0 ≡ 48 → ⊥
first_digit base zero n text low some fits e = omega (arith, pow-zero base)
first_digit base (suc k) n text low some fits e = by (eqb (n / base) 0) refl e (first_digit base k (n / base) (digit_glyph false (n % base) ∷ text) low)
  where
    by : (b : Bool) → eqb (n / base) 0 ≡ b →
        get_or (cond b (digit_glyph false (n % base) ∷ text) (digits_onto k base false (n / base) (digit_glyph false (n % base) ∷ text))) 0 0 ≡ 48 →
        (0 < n / base → n / base < base ^ k → get_or (digits_onto k base false (n / base) (digit_glyph false (n % base) ∷ text)) 0 0 ≡ 48 → ⊥) → ⊥
    by true none e rest =
        let is_zero : n % base ≡ 0 = glyph_zero (n % base) e in
        let quotient : n / base ≡ 0 = eqb-true (n / base) 0 none in
        let whole : n / base * base + n % base ≡ n = div-add-mod' n base in
        let nothing : n / base * base ≡ 0 = ap (λ (q : ℕ). q * base) quotient ∙ grind arith in omega arith
    by false more e rest =
        let positive : (n / base ≡ 0) → ⊥ = eqb-false (n / base) 0 more in
        let low' : 0 < base = omega arith in
        rest (omega arith) ((div-lt_iff_lt-mul low').1 (omega (arith, pow-suc base k))) e

digits-plain : (base n : ℕ) → 2 ≤ base → n < base ^ 64 → HasNoLeadingZero (digits base false n)
unfolding digits
digits-plain base zero low fits e = ap length (digits_one base 0 (omega arith))
digits-plain base (suc n) low fits e = absurd (first_digit base 64 (suc n) [] low (omega arith) fits e)

onto-lower : (base k n : ℕ) (text : List ℕ) → 2 ≤ base → base ≤ 16 → list_any is_ascii_uppercase text ≡ false → list_any is_ascii_uppercase (digits_onto k base false n text) ≡ false
onto-lower base zero n text low high lower = lower
onto-lower base (suc k) n text low high lower = by (eqb (n / base) 0) (onto-lower base k (n / base) (digit_glyph false (n % base) ∷ text) low high more)
  where
    more : list_any is_ascii_uppercase (digit_glyph false (n % base) ∷ text) ≡ false
    more =
        let some : 0 < base = omega arith in
        let small : n % base < base = mod-lt n some in
        ap (λ (b : Bool). b || list_any is_ascii_uppercase text) (glyph_lower (n % base) (omega arith)) ∙ lower

    by : (b : Bool) → list_any is_ascii_uppercase (digits_onto k base false (n / base) (digit_glyph false (n % base) ∷ text)) ≡ false →
        list_any is_ascii_uppercase (cond b (digit_glyph false (n % base) ∷ text) (digits_onto k base false (n / base) (digit_glyph false (n % base) ∷ text))) ≡ false
    by true rest = more
    by false rest = rest

digits-lower : (base n : ℕ) → 2 ≤ base → base ≤ 16 → list_any is_ascii_uppercase (digits base false n) ≡ false
unfolding digits
digits-lower base n low high = onto-lower base 64 n [] low high refl

-- what is written of a number in a base spells it
pub SpellsInBase-digits : (base n : ℕ) → 2 ≤ base → base ≤ 16 → n < 2 ^ 64 → SpellsInBase base (digits base false n) n
SpellsInBase-digits base n low high small =
    let larger : 2 ^ 64 ≤ base ^ 64 = pow-le-pow_left low 64 in
    let spelled = digits_is_IsNumeral base false low high n (omega arith) in
    record { numeral = spelled.0; plain = digits-plain base n low (omega arith); value = spelled.1 }

pub SpellsDecimal-decimal : (n : ℕ) → n < 2 ^ 64 → SpellsDecimal (decimal n) n
SpellsDecimal-decimal n small = SpellsInBase-digits 10 n (omega arith) (omega arith) small

pub SpellsHexadecimal-hexadecimal : (n : ℕ) → n < 2 ^ 64 → SpellsHexadecimal (hexadecimal n) n
SpellsHexadecimal-hexadecimal n small = record {
  number = SpellsInBase-digits 16 n (omega arith) (omega arith) small;
  lower = digits-lower 16 n (omega arith) (omega arith);
}

onto-length : (base k n : ℕ) (text : List ℕ) → length (digits_onto k base false n text) ≤ k + length text
onto-length base zero n text = omega arith
onto-length base (suc k) n text = by (eqb (n / base) 0) (onto-length base k (n / base) (digit_glyph false (n % base) ∷ text))
  where
    by : (b : Bool) → length (digits_onto k base false (n / base) (digit_glyph false (n % base) ∷ text)) ≤ k + length (digit_glyph false (n % base) ∷ text) →
        length (cond b (digit_glyph false (n % base) ∷ text) (digits_onto k base false (n / base) (digit_glyph false (n % base) ∷ text))) ≤ suc k + length text
    by true rest = omega arith
    by false rest = omega arith

-- how many digits there are at most
pub length-digits-le : (base k n : ℕ) → 2 ≤ base → 0 < k → k ≤ 64 → n < base ^ k → length (digits base false n) ≤ k
length-digits-le base k n low some most fits =
    let few : length (digits_onto k base false n []) ≤ k + length {A = ℕ} [] = onto-length base k n [] in
    let same : length (digits base false n) ≡ length (digits_onto k base false n []) = ap length (digits-fuel base k n (omega arith) some most fits) in
    omega arith

-- more digits make no smaller number
after-ge : (base n : ℕ) (ds : List ℕ) → 0 < base → n ≤ digits_value_after base n ds
after-ge base n [] some = omega arith
after-ge base n (d ∷ ds) some =
    let grows : n * 1 ≤ n * base = mul-le-mul_left n some in
    let rest : n * base + digit_value d ≤ digits_value_after base (n * base + digit_value d) ds = after-ge base (n * base + digit_value d) ds some in
    omega arith

-- one more digit after those of a number but 0
digits-push : (base n d : ℕ) → 2 ≤ base → base ≤ 16 → 0 < n → digit_value d < base → is_ascii_uppercase d ≡ false → n * base + digit_value d < 2 ^ 64 →
    digits base false (n * base + digit_value d) ≡ digits base false n ++ d ∷ []
digits-push base n d low high some below lower small =
    let large : 1 * base ≤ n * base = mul-le-mul_right base some in
    let quotient : (n * base + digit_value d) / base ≡ n = div-eq_of_lt-le base (omega arith) (grind arith) in
    let whole : (n * base + digit_value d) / base * base + (n * base + digit_value d) % base ≡ n * base + digit_value d = div-add-mod' (n * base + digit_value d) base in
    let same : (n * base + digit_value d) / base * base ≡ n * base = ap (λ (q : ℕ). q * base) quotient in
    let last : (n * base + digit_value d) % base ≡ digit_value d = omega arith in
    digits_last base (n * base + digit_value d) low (omega arith) small
    ∙ ap (λ (q : ℕ). digits base false q ++ digit_glyph false ((n * base + digit_value d) % base) ∷ []) quotient
    ∙ ap (λ (r : ℕ). digits base false n ++ digit_glyph false r ∷ []) last
    ∙ ap (λ (x : ℕ). digits base false n ++ x ∷ []) (glyph_of_value d (omega arith) lower)

-- further digits after those of a number but 0
digits-after : (base n : ℕ) (ds : List ℕ) → 2 ≤ base → base ≤ 16 → 0 < n → AllDigits base ds → list_any is_ascii_uppercase ds ≡ false →
    digits_value_after base n ds < 2 ^ 64 → digits base false (digits_value_after base n ds) ≡ digits base false n ++ ds
digits-after base n [] low high some all lower small = sym (append-nil (digits base false n))
digits-after base n (d ∷ ds) low high some all lower small =
    let two = or_parts (is_ascii_uppercase d) (list_any is_ascii_uppercase ds) lower in
    let large : 1 * base ≤ n * base = mul-le-mul_right base some in
    let more : n * base + digit_value d ≤ digits_value_after base (n * base + digit_value d) ds = after-ge base (n * base + digit_value d) ds (omega arith) in
    digits-after base (n * base + digit_value d) ds low high (omega arith) all.1 two.1 small
    ∙ ap (λ (xs : List ℕ). xs ++ ds) (digits-push base n d low high some all.0 two.0 (omega arith))
    ∙ append_assoc (digits base false n) (d ∷ []) ds

-- the one text of a number
pub digits-of_spelled : (base n : ℕ) (text : List ℕ) → 2 ≤ base → base ≤ 16 → n < 2 ^ 64 → list_any is_ascii_uppercase text ≡ false → SpellsInBase base text n → text ≡ digits base false n
digits-of_spelled base n [] low high small lower spells = absurd (let some = spells.numeral.0 in omega arith)
digits-of_spelled base n (d ∷ ds) low high small lower spells = by (digit_value d) refl
  where
    two : (is_ascii_uppercase d ≡ false) × (list_any is_ascii_uppercase ds ≡ false)
    two = or_parts (is_ascii_uppercase d) (list_any is_ascii_uppercase ds) lower

    glyph : digit_glyph false (digit_value d) ≡ d
    glyph = let below : digit_value d < base = spells.numeral.1.0 in glyph_of_value d (omega arith) two.0

    first : 0 * base + digit_value d ≡ digit_value d
    first = grind arith

    value : digits_value_after base (digit_value d) ds ≡ n
    value = ap (λ (m : ℕ). digits_value_after base m ds) (sym first) ∙ spells.value

    by : (v : ℕ) → digit_value d ≡ v → d ∷ ds ≡ digits base false n
    by zero e =
        let is_zero : d ≡ 48 = sym glyph ∙ ap (λ (v : ℕ). digit_glyph false v) e in
        let alone : length (d ∷ ds) ≡ 1 = spells.plain is_zero in
        let none : ds ≡ [] = nil_from_length ds (omega arith) in
        let number : n ≡ 0 = sym value ∙ ap (λ (xs : List ℕ). digits_value_after base (digit_value d) xs) none ∙ e in
        let text : d ∷ ds ≡ 48 ∷ [] = ap (λ (x : ℕ). x ∷ ds) is_zero ∙ ap (λ (xs : List ℕ). 48 ∷ xs) none in
        text ∙ sym (ap (λ (m : ℕ). digits base false m) number ∙ digits_one base 0 (omega arith))
    by (suc v) e =
        let below : digit_value d < base = spells.numeral.1.0 in
        sym (ap (λ (m : ℕ). digits base false m) (sym value)
        ∙ digits-after base (digit_value d) ds low high (omega arith) spells.numeral.1.1 two.1 (omega (arith, value))
        ∙ ap (λ (xs : List ℕ). xs ++ ds) (digits_one base (digit_value d) below ∙ ap (λ (x : ℕ). x ∷ []) glyph))

-- decimal digits have no case
pub decimal-lower : (text : List ℕ) → AllDigits 10 text → list_any is_ascii_uppercase text ≡ false
decimal-lower [] all = refl
decimal-lower (d ∷ ds) all =
    let small : digit_value d < 10 = all.0 in
    let lower : is_ascii_uppercase d ≡ false = grind (arith, nat_tests) in
    ap (λ (b : Bool). b || list_any is_ascii_uppercase ds) lower ∙ decimal-lower ds all.1
