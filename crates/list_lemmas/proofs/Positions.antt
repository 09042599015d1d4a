-- The place of the first element that passes a test, as a search answers it.
use Rattle.std.proofs.Common.{◌≡◌, ℕ, suc, ◌+◌, ◌<◌, ◌≤◌, ◌||◌, Bool, true, false, cond, List, [], ◌∷◌, length, refl, sym, ◌∙◌, arith, inl, inr, nat_lt, not, Option, Some, None, unwrap_or, MatchOption}
use Rattle.std.specs.List.{list_any, position, position_or_len}
use Rattle.std.proofs.lemmas.Bool.{cases_Bool, ltb-true, ltb-false, lt-ltb, false≢true}
use Rattle.std.proofs.lemmas.Option.{cond_some, none-some}
use Rattle.std.proofs.lemmas.List.Sums.{prefix_len-le-length}

within_step : (here rest : Bool) (n len : ℕ) → (here || rest) ≡ true → (rest ≡ true → n < len) → cond (not here) (1 + n) 0 < suc len
within_step true rest n len any below = omega arith
within_step false rest n len any below = let k = below any in omega (arith, k)

pub position-within : {X : Type 0} (p : X → Bool) (xs : List X) → list_any p xs ≡ true → position_or_len p xs < length xs
position-within p [] any = absurd (false≢true any)
position-within p (x ∷ xs) any = within_step (p x) (list_any p xs) (position_or_len p xs) (length xs) any (position-within p xs)

module _ {X : Type 0} (p : X → Bool) (xs : List X) where
  pub unwrap_position : unwrap_or (position p xs) (length xs) ≡ position_or_len p xs
  unwrap_position = elim (cases_Bool (nat_lt (position_or_len p xs) (length xs))) as (λ _. unwrap_or (position p xs) (length xs) ≡ position_or_len p xs) [
    | inl below ↦ rw below refl
    | inr past ↦ rw past (omega (arith, ltb-false (position_or_len p xs) (length xs) past, prefix_len-le-length (λ x. not (p x)) xs))
  ]

  pub position_found : (i : ℕ) → position p xs ≡ Some i → i ≡ position_or_len p xs
  position_found i h = sym (cond_some (nat_lt (position_or_len p xs) (length xs)) (position_or_len p xs) i h).1

  pub position_none : position p xs ≡ None → list_any p xs ≡ true → ⊥
  position_none h any =
      let within : nat_lt (position_or_len p xs) (length xs) ≡ true = lt-ltb _ _ (position-within p xs any) in
      none-some (position_or_len p xs) (sym h ∙ rw within refl)

  -- what a search says
  pub position_cases : (o : Option ℕ) → o ≡ position p xs → MatchOption o (length xs ≤ position_or_len p xs) (λ i. (i ≡ position_or_len p xs) × (position_or_len p xs < length xs))
  position_cases None e = elim (cases_Bool (nat_lt (position_or_len p xs) (length xs))) as (λ _. length xs ≤ position_or_len p xs) [
    | inl below ↦ absurd (none-some (position_or_len p xs) (e ∙ rw below refl))
    | inr past ↦ ltb-false (position_or_len p xs) (length xs) past
  ]
  position_cases (Some i) e =
      let both = cond_some (nat_lt (position_or_len p xs) (length xs)) (position_or_len p xs) i (sym e) in
      (sym both.1, ltb-true (position_or_len p xs) (length xs) both.0)
