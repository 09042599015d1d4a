-- The element at a place, and what stands before it and after it.
use Rattle.std.proofs.Common.{◌≡◌, ℕ, zero, suc, ◌+◌, ◌<◌, ◌≤◌, List, [], ◌∷◌, ◌++◌, length, take, drop, slice_get, Some, None, refl, sym, ◌∙◌, ap, arith, add-one}
use Rattle.std.proofs.lemmas.Option.{none-some, same_Some}

module _ {X : Type 0} where
  take-suc : (xs : List X) (place : ℕ) (x : X) → slice_get xs place ≡ Some x → take (suc place) xs ≡ take place xs ++ x ∷ []
  take-suc [] place x at = absurd (none-some x at)
  take-suc (y ∷ ys) zero x at = ap (λ z. z ∷ []) (same_Some y x at)
  take-suc (y ∷ ys) (suc place) x at = ap (λ rest. y ∷ rest) (take-suc ys place x at)

  pub take-next : (xs : List X) (place : ℕ) (x : X) → slice_get xs place ≡ Some x → take (place + 1) xs ≡ take place xs ++ x ∷ []
  take-next xs place x at = ap (λ n. take n xs) (add-one place) ∙ take-suc xs place x at

  drop-suc : (xs : List X) (place : ℕ) (x : X) → slice_get xs place ≡ Some x → drop place xs ≡ x ∷ drop (suc place) xs
  drop-suc [] place x at = absurd (none-some x at)
  drop-suc (y ∷ ys) zero x at = ap (λ z. z ∷ ys) (same_Some y x at)
  drop-suc (y ∷ ys) (suc place) x at = drop-suc ys place x at

  pub drop-next : (xs : List X) (place : ℕ) (x : X) → slice_get xs place ≡ Some x → drop place xs ≡ x ∷ drop (place + 1) xs
  drop-next xs place x at = drop-suc xs place x at ∙ ap (λ n. x ∷ drop n xs) (sym (add-one place))

  pub slice_get-past : (xs : List X) (place : ℕ) → slice_get xs place ≡ None → length xs ≤ place
  slice_get-past [] place at = omega arith
  slice_get-past (x ∷ xs) zero at = cc
  slice_get-past (x ∷ xs) (suc place) at = let rest : length xs ≤ place = slice_get-past xs place at in omega arith

  pub slice_get-left : (xs ys : List X) (place : ℕ) → place < length xs → slice_get (xs ++ ys) place ≡ slice_get xs place
  slice_get-left [] ys place within = absurd (omega arith)
  slice_get-left (x ∷ xs) ys zero within = refl
  slice_get-left (x ∷ xs) ys (suc place) within = slice_get-left xs ys place (omega arith)

  pub slice_get-last : (xs : List X) (x : X) → slice_get (xs ++ x ∷ []) (length xs) ≡ Some x
  slice_get-last [] x = refl
  slice_get-last (y ∷ xs) x = slice_get-last xs x

  -- one element stands at a place
  pub same_item : (xs : List X) (i j : ℕ) (x y : X) → slice_get xs i ≡ Some x → slice_get xs j ≡ Some y → i ≡ j → x ≡ y
  same_item xs i j x y at_i at_j place =
      let both : Some x ≡ Some y = sym at_i ∙ (ap (slice_get xs) place ∙ at_j) in
      cc
