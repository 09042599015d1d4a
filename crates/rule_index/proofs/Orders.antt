-- The order of spots.
use Rattle.std.proofs.Common.{◌≡◌, ℕ, ◌<◌, ◌≤◌, Bool, true, false, sym, ◌∙◌, arith, inl, inr, ◌⊎◌}
use Rattle.std.proofs.lemmas.Bool.{ltb-false}
use Rattle.std.proofs.lemmas.Bool.Decides.{nat_tests}
use Rattle.rule_index.specs.declared.spot.Spot.{Spot}
use Rattle.rule_index.specs.Spots.{lex, below}

pub lex-true : (x y : ℕ) (r : Bool) → lex x y r ≡ true → (x < y) ⊎ ((x ≡ y) × (r ≡ true))
lex-true x y r h = grind (arith, nat_tests)

pub lex-less : (x y : ℕ) (r : Bool) → x < y → lex x y r ≡ true
lex-less x y r h = grind (arith, nat_tests)

pub lex-same : (x y : ℕ) (r : Bool) → x ≡ y → lex x y r ≡ r
lex-same x y r h = grind (arith, nat_tests)

pub lex-false : (x y : ℕ) (r : Bool) → lex x y r ≡ false → (y < x) ⊎ ((x ≡ y) × (r ≡ false))
lex-false x y r h = grind (arith, nat_tests)

lex-trans : (x y z : ℕ) (q r s : Bool) → (q ≡ true → r ≡ true → s ≡ true) → lex x y q ≡ true → lex y z r ≡ true → lex x z s ≡ true
lex-trans x y z q r s rest h k = elim (lex-true x y q h) [
  | inl a ↦ elim (lex-true y z r k) [ inl b ↦ lex-less x z s (omega arith) | inr b ↦ lex-less x z s (omega (arith, b.0)) ]
  | inr a ↦ elim (lex-true y z r k) [ inl b ↦ lex-less x z s (omega (arith, a.0)) | inr b ↦ lex-same x z s (a.0 ∙ b.0) ∙ rest a.1 b.1 ]
]

pub below-trans : (a b c : Spot) → below a b ≡ true → below b c ≡ true → below a c ≡ true
below-trans a b c =
    lex-trans a.priority b.priority c.priority _ _ _ (lex-trans a.group b.group c.group _ _ _ (lex-trans a.value b.value c.value _ _ _ (λ h k. grind (arith, nat_tests))))

pub below-self : (a : Spot) → below a a ≡ false
below-self a = grind (arith, nat_tests)

lex-over : (x y : ℕ) (q r : Bool) → (q ≡ true → r ≡ false) → lex x y q ≡ true → lex y x r ≡ false
lex-over x y q r rest h = elim (lex-true x y q h) [
  | inl a ↦ grind (arith, nat_tests)
  | inr a ↦ lex-same y x r (sym a.0) ∙ rest a.1
]

pub below-not_over : (a b : Spot) → below a b ≡ true → below b a ≡ false
below-not_over a b =
    lex-over a.priority b.priority _ _ (lex-over a.group b.group _ _ (lex-over a.value b.value _ _ (λ h. grind (arith, nat_tests))))

-- neither is below the other
lex-tie : (x y : ℕ) (q r : Bool) → lex x y q ≡ false → lex y x r ≡ false → (x ≡ y) × (q ≡ false) × (r ≡ false)
lex-tie x y q r h k = elim (lex-false x y q h) [
  | inl a ↦ elim (lex-false y x r k) [ inl b ↦ absurd (omega arith) | inr b ↦ absurd (omega (arith, b.0)) ]
  | inr a ↦ elim (lex-false y x r k) [ inl b ↦ absurd (omega (arith, a.0)) | inr b ↦ (a.0, a.1, b.1) ]
]

pub below-tie : (a b : Spot) → below a b ≡ false → below b a ≡ false → a ≡ b
below-tie a b h k =
    let p = lex-tie a.priority b.priority _ _ h k in
    let q = lex-tie a.group b.group _ _ p.1 p.2 in
    let r = lex-tie a.value b.value _ _ q.1 q.2 in
    let l : b.number ≤ a.number = ltb-false _ _ r.1 in
    let m : a.number ≤ b.number = ltb-false _ _ r.2 in
    let n : a.number ≡ b.number = omega arith in
    both a b p.0 q.0 r.0 n
  where
    both : (a b : Spot) → a.priority ≡ b.priority → a.group ≡ b.group → a.value ≡ b.value → a.number ≡ b.number → a ≡ b
    both a b e f g h = λ i. record { priority = e i; group = f i; value = g i; number = h i }
