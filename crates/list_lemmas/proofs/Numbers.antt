-- Numbers that a test compares, alone and in lists.
use Rattle.std.proofs.Common.{◌≡◌, ℕ, zero, suc, ◌==◌, true, false, List, [], ◌∷◌, slice_get, Some, refl, sym, subst, inl, inr}
use Rattle.std.specs.List.{list_any, AllByRecursion}
use Rattle.std.proofs.lemmas.Bool.{cases_Bool, eq-eqb, eqb-true, eqb-false, ne_eqb, or_parts, false≢true}
use Rattle.std.proofs.lemmas.Bool.Decides.{nat_tests}
use Rattle.std.proofs.Common.{arith}

pub eqb-refl : (n : ℕ) → (n == n) ≡ true
eqb-refl n = eq-eqb n n refl

pub eqb-turned : (a b : ℕ) → (a == b) ≡ (b == a)
eqb-turned a b = grind (arith, nat_tests)

pub unlike-sym : (a b : ℕ) → (a == b) ≡ false → (b == a) ≡ false
unlike-sym a b unlike = ne_eqb b a (λ same. eqb-false a b unlike (sym same))

-- the number at a place stands in the list
pub is_there : (ns : List ℕ) (place n : ℕ) → slice_get ns place ≡ Some n → list_any (λ m. m == n) ns ≡ true
is_there [] place n at = cc
is_there (m ∷ ms) zero n at = let is : m ≡ n = cc in rw (is, eqb-refl n) refl
is_there (m ∷ ms) (suc place) n at = elim (cases_Bool (m == n)) [ inl t ↦ rw t refl | inr t ↦ rw t (is_there ms place n at) ]

-- what holds of each number of a list holds of one that stands in it
pub all-among : (P : ℕ → Type 0) (ns : List ℕ) (n : ℕ) → list_any (λ m. m == n) ns ≡ true → AllByRecursion P ns → P n
all-among P [] n there h = absurd (false≢true there)
all-among P (m ∷ ms) n there h = elim (cases_Bool (m == n)) [
  | inl same ↦ subst P (eqb-true m n same) h.0
  | inr other ↦ all-among P ms n (rw other at there) h.1
]

-- and each differs from one that doesn't
pub all-apart : (P : ℕ → Type 0) (gone : ℕ) (ns : List ℕ) → list_any (λ n. n == gone) ns ≡ false → AllByRecursion P ns → AllByRecursion (λ n. P n × ((n == gone) ≡ false)) ns
all-apart P gone [] absent h = tt
all-apart P gone (n ∷ ns) absent h =
    let parts = or_parts (n == gone) (list_any (λ m. m == gone) ns) absent in
    ((h.0, parts.0), all-apart P gone ns parts.1 h.1)
