-- Rules put in, and taken out, by their place.
use Rattle.std.proofs.Common.{◌≡◌, ℕ, suc, ◌+◌, ◌<◌, ◌≤◌, Bool, true, false, cond, List, [], ◌∷◌, length, refl, ap, arith, nat_lt, nat_le, not}
use Rattle.std.proofs.Math.Numerals.{one-add}
use Rattle.std.proofs.lemmas.Bool.Decides.{nat_tests}
use Rattle.std.specs.List.{position_or_len, insert, remove}
use Rattle.rule_law.specs.Rules.{Kind, placed, without}

le_not_lt : (m n : ℕ) → nat_le m n ≡ not (nat_lt n m)
le_not_lt m n = grind (arith, nat_tests)

module _ {R : Type 0} (k : Kind R) where
  -- where a rule is put in: at the first one of greater priority
  abbrev pub place_for : R → List R → ℕ
  place_for r xs = position_or_len (λ x. nat_lt (k.priority r) (k.priority x)) xs

  pub placed-insert : (r : R) (xs : List R) → placed k r xs ≡ insert xs (place_for r xs) r
  placed-insert r [] = refl
  placed-insert r (x ∷ xs) =
      step (nat_le (k.priority x) (k.priority r)) (nat_lt (k.priority r) (k.priority x)) (le_not_lt (k.priority x) (k.priority r)) (place_for r xs) (placed-insert r xs)
    where
      step : (le lt : Bool) → le ≡ not lt → (n : ℕ) → placed k r xs ≡ insert xs n r → cond le (x ∷ placed k r xs) (r ∷ x ∷ xs) ≡ insert (x ∷ xs) (cond (not lt) (1 + n) 0) r
      step le true is n e = rw is refl
      step le false is n e = rw (is, one-add n) (ap (λ l. x ∷ l) e)

  below_step : (b : Bool) (n len : ℕ) → cond (not b) (1 + n) 0 < suc len → b ≡ false → n < len
  below_step true n len h e = cc
  below_step false n len h e = omega (arith, h)

  -- a rule is taken out where it stands first
  pub without-remove : (r : R) (xs : List R) → position_or_len (k.same r) xs < length xs → without k r xs ≡ remove xs (position_or_len (k.same r) xs)
  without-remove r [] h = absurd (omega (arith, h))
  without-remove r (x ∷ xs) h =
      step (k.same r x) (position_or_len (k.same r) xs) (λ e. without-remove r xs (below_step (k.same r x) (position_or_len (k.same r) xs) (length xs) h e))
    where
      step : (b : Bool) (n : ℕ) → (b ≡ false → without k r xs ≡ remove xs n) → cond b xs (x ∷ without k r xs) ≡ remove (x ∷ xs) (cond (not b) (1 + n) 0)
      step true n e = refl
      step false n e = rw (one-add n) (ap (λ l. x ∷ l) (e refl))

  -- one that isn't there leaves the list as it is
  pub without-absent : (r : R) (xs : List R) → length xs ≤ position_or_len (k.same r) xs → without k r xs ≡ xs
  without-absent r [] h = refl
  without-absent r (x ∷ xs) h = step (k.same r x) (position_or_len (k.same r) xs) h (without-absent r xs)
    where
      step : (b : Bool) (n : ℕ) → suc (length xs) ≤ cond (not b) (1 + n) 0 → (length xs ≤ n → without k r xs ≡ xs) → cond b xs (x ∷ without k r xs) ≡ x ∷ xs
      step true n h e = absurd (omega (arith, h))
      step false n h e = ap (λ l. x ∷ l) (e (omega (arith, h)))
