-- What stands at a place, after a write or a push.
use Rattle.std.proofs.Common.{◌≡◌, ℕ, zero, suc, ◌<◌, ◌≤◌, List, [], ◌∷◌, ◌++◌, length, set, Option, Some, None, refl, sym, ap, arith}
use Rattle.std.specs.List.{slice_get}
use Rattle.std.proofs.lemmas.Option.{none-some, same_Some}
use Rattle.route_chains.specs.Places.{held}

module _ {X : Type 0} where
  pub held-get : (xs : List (Option X)) (place : ℕ) (x : Option X) → slice_get xs place ≡ Some x → held xs place ≡ x
  held-get [] place x at = absurd (none-some x at)
  held-get (y ∷ xs) zero x at = same_Some y x at
  held-get (y ∷ xs) (suc place) x at = held-get xs place x at

  pub held-nowhere : (xs : List (Option X)) (place : ℕ) → slice_get xs place ≡ None → held xs place ≡ None
  held-nowhere [] place at = refl
  held-nowhere (y ∷ xs) zero at = absurd (none-some y (sym at))
  held-nowhere (y ∷ xs) (suc place) at = held-nowhere xs place at

  pub held-past : (xs : List (Option X)) (k : ℕ) → length xs ≤ k → held xs k ≡ None
  held-past [] k past = refl
  held-past (x ∷ xs) zero past = absurd (omega (arith, past))
  held-past (x ∷ xs) (suc k) past = held-past xs k (omega (arith, past))

  pub held-within : (xs : List (Option X)) (k : ℕ) (x : X) → held xs k ≡ Some x → k < length xs
  held-within [] k x at = absurd (none-some x at)
  held-within (y ∷ xs) zero x at = omega arith
  held-within (y ∷ xs) (suc k) x at = let h = held-within xs k x at in omega (arith, h)

  pub held-last : (xs : List (Option X)) (n : ℕ) (x : Option X) → n ≡ length xs → held (xs ++ x ∷ []) n ≡ x
  held-last [] zero x is = refl
  held-last [] (suc n) x is = absurd (omega (arith, is))
  held-last (y ∷ xs) zero x is = absurd (omega (arith, is))
  held-last (y ∷ xs) (suc n) x is = held-last xs n x (omega (arith, is))

  pub held-before : (xs : List (Option X)) (j : ℕ) (x : Option X) → (j ≡ length xs → ⊥) → held (xs ++ x ∷ []) j ≡ held xs j
  held-before [] zero x differs = absurd (differs refl)
  held-before [] (suc j) x differs = refl
  held-before (y ∷ xs) zero x differs = refl
  held-before (y ∷ xs) (suc j) x differs = held-before xs j x (λ is. differs (ap suc is))

  pub held-set : (xs : List (Option X)) (k : ℕ) (x : Option X) → k < length xs → held (set xs k x) k ≡ x
  held-set [] k x within = absurd (omega (arith, within))
  held-set (y ∷ xs) zero x within = refl
  held-set (y ∷ xs) (suc k) x within = held-set xs k x (omega (arith, within))

  pub held-unset : (xs : List (Option X)) (k j : ℕ) (x : Option X) → (j ≡ k → ⊥) → held (set xs k x) j ≡ held xs j
  held-unset [] k j x differs = refl
  held-unset (y ∷ xs) zero zero x differs = absurd (differs refl)
  held-unset (y ∷ xs) zero (suc j) x differs = refl
  held-unset (y ∷ xs) (suc k) zero x differs = refl
  held-unset (y ∷ xs) (suc k) (suc j) x differs = held-unset xs k j x (λ is. differs (ap suc is))
