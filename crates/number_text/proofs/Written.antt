-- The digits of a number in a base, the last one after the others.
use Rattle.std.proofs.Common.{◌≡◌, ℕ, ◌+◌, ◌-◌, ◌*◌, ◌/◌, ◌%◌, ◌^◌, ◌<◌, ◌≤◌, Bool, true, false, cond, eqb, List, [], ◌∷◌, ◌++◌, zero, suc, sym, subst, ◌∙◌, ap, refl, arith, append_assoc, mul-le-mul_left}
use Rattle.std.proofs.Math.Nat.{pow-suc, pow-zero, div-lt_iff_lt-mul, div-eq_of_lt, mod-eq_of_lt, pow-le-pow_left, lt-mul-div-succ}
use Rattle.std.specs.Fmt.{digits, digits_onto, digit_glyph}
use borrow.Author.Tests.{eqb-false, eq-eqb, ne_eqb}

-- the digits so far, `n / base` being 0 or not
onto : (base k n : ℕ) (text : List ℕ) (b : Bool) → eqb (n / base) 0 ≡ b →
    digits_onto (suc k) base false n text ≡ cond b (digit_glyph false (n % base) ∷ text) (digits_onto k base false (n / base) (digit_glyph false (n % base) ∷ text))
onto base k n text b e = ap (λ (t : Bool). cond t (digit_glyph false (n % base) ∷ text) (digits_onto k base false (n / base) (digit_glyph false (n % base) ∷ text))) e

-- what stands after the digits
pub digits_onto-text : (base k n : ℕ) (text : List ℕ) → digits_onto k base false n text ≡ digits_onto k base false n [] ++ text
digits_onto-text base zero n text = refl
digits_onto-text base (suc k) n text = by (eqb (n / base) 0) refl (λ t. digits_onto-text base k (n / base) t)
  where
    by : (b : Bool) → eqb (n / base) 0 ≡ b →
        ((t : List ℕ) → digits_onto k base false (n / base) t ≡ digits_onto k base false (n / base) [] ++ t) →
        digits_onto (suc k) base false n text ≡ digits_onto (suc k) base false n [] ++ text
    by true e rest = onto base k n text true e ∙ sym (ap (λ (xs : List ℕ). xs ++ text) (onto base k n [] true e))
    by false e rest = onto base k n text false e ∙ rest (digit_glyph false (n % base) ∷ text)
        ∙ sym (append_assoc (digits_onto k base false (n / base) []) (digit_glyph false (n % base) ∷ []) text)
        ∙ sym (ap (λ (xs : List ℕ). xs ++ text) (onto base k n [] false e ∙ rest (digit_glyph false (n % base) ∷ [])))

-- what is no power of the base has a further digit
positive_fuel : (base k m : ℕ) → eqb m 0 ≡ false → m < base ^ k → 0 < k
positive_fuel base zero m e less = absurd (let some : m ≡ 0 → ⊥ = eqb-false m 0 e in omega (arith, pow-zero base, some))
positive_fuel base (suc k) m e less = omega arith

-- enough fuel is as good as more
pub digits_onto-more : (base k n : ℕ) (text : List ℕ) → 0 < base → 0 < k → n < base ^ k → digits_onto (suc k) base false n text ≡ digits_onto k base false n text
digits_onto-more base zero n text some fuel fits = absurd (omega arith)
digits_onto-more base (suc k) n text some fuel fits = by (eqb (n / base) 0) refl (digits_onto-more base k (n / base) (digit_glyph false (n % base) ∷ text) some)
  where
    by : (b : Bool) → eqb (n / base) 0 ≡ b →
        (0 < k → n / base < base ^ k → digits_onto (suc k) base false (n / base) (digit_glyph false (n % base) ∷ text) ≡ digits_onto k base false (n / base) (digit_glyph false (n % base) ∷ text)) →
        digits_onto (suc (suc k)) base false n text ≡ digits_onto (suc k) base false n text
    by true e rest = onto base (suc k) n text true e ∙ sym (onto base k n text true e)
    by false e rest =
        let less : n / base < base ^ k = (div-lt_iff_lt-mul some).1 (omega (arith, pow-suc base k)) in
        onto base (suc k) n text false e ∙ rest (positive_fuel base k (n / base) e less) less ∙ sym (onto base k n text false e)

-- any fuel from the number's length on
pub digits_onto-fuel : (base k j n : ℕ) → 0 < base → 0 < k → n < base ^ k → digits_onto (j + k) base false n [] ≡ digits_onto k base false n []
digits_onto-fuel base k zero n some fuel fits = ap (λ (f : ℕ). digits_onto f base false n []) {x = 0 + k} {y = k} (omega arith)
digits_onto-fuel base k (suc j) n some fuel fits =
    ap (λ (f : ℕ). digits_onto f base false n []) {x = suc j + k} {y = suc (j + k)} (omega arith)
    ∙ digits_onto-more base (j + k) n [] some (omega arith) (larger j)
    ∙ digits_onto-fuel base k j n some fuel fits
  where
    larger : (i : ℕ) → n < base ^ (i + k)
    larger zero = subst (λ (f : ℕ). n < base ^ f) {x = k} {y = 0 + k} (omega arith) fits
    larger (suc i) =
        let before : n < base ^ (i + k) = larger i in
        let grows : base ^ (i + k) * 1 ≤ base ^ (i + k) * base = mul-le-mul_left (base ^ (i + k)) some in
        subst (λ (f : ℕ). n < base ^ f) {x = suc (i + k)} {y = suc i + k} (omega arith) (omega (arith, pow-suc base (i + k)))

-- the digits by the fuel that a number needs
pub digits-fuel : (base k n : ℕ) → 0 < base → 0 < k → k ≤ 64 → n < base ^ k → digits base false n ≡ digits_onto k base false n []
unfolding digits
digits-fuel base k n some fuel most fits =
    ap (λ (f : ℕ). digits_onto f base false n []) {x = 64} {y = 64 - k + k} (omega arith) ∙ digits_onto-fuel base k (64 - k) n some fuel fits

-- one digit alone
pub digits_one : (base n : ℕ) → n < base → digits base false n ≡ digit_glyph false n ∷ []
digits_one base n small =
    let whole : base ^ 1 ≡ base = grind (arith, pow-suc base 0, pow-zero base) in
    digits-fuel base 1 n (omega arith) (omega arith) (omega arith) (omega arith)
    ∙ onto base 0 n [] true (eq-eqb (n / base) 0 (div-eq_of_lt small))
    ∙ ap (λ (d : ℕ). digit_glyph false d ∷ []) (mod-eq_of_lt small)

-- the last digit after the others
pub digits_last : (base n : ℕ) → 2 ≤ base → base ≤ n → n < 2 ^ 64 → digits base false n ≡ digits base false (n / base) ++ (digit_glyph false (n % base) ∷ [])
unfolding digits
digits_last base n low large small =
    let fits : 2 ^ 64 ≤ base ^ 64 = pow-le-pow_left low 64 in
    let some : 0 < base = omega arith in
    let less : n / base < base ^ 63 = (div-lt_iff_lt-mul some).1 (omega (arith, pow-suc base 63)) in
    let more : (n / base ≡ 0) → ⊥ = λ none. let above : n < base * (n / base + 1) = lt-mul-div-succ n some in
    let one : base * (n / base + 1) ≡ base = ap (λ (q : ℕ). base * (q + 1)) none ∙ grind arith in omega arith in
    onto base 63 n [] false (ne_eqb (n / base) 0 more)
    ∙ digits_onto-text base 63 (n / base) (digit_glyph false (n % base) ∷ [])
    ∙ ap (λ (xs : List ℕ). xs ++ (digit_glyph false (n % base) ∷ [])) (sym (digits_onto-more base 63 (n / base) [] some (omega arith) less))
