-- The next slot of a chain.
use Rattle.std.proofs.Common.{◌≡◌, ℕ, ◌+◌, ◌<◌, ◌≤◌, true, false, List, Option, Some, None, refl, ◌∙◌, ap, arith, inl, inr}
use Rattle.std.proofs.lemmas.Bool.{cases_order, both_ways, eqb-true, eq-eqb, ne_eqb}
use Rattle.route_chains.specs.declared.slot.Slot.{Slot}
use Rattle.route_chains.specs.Places.{held}
use Rattle.route_chains.specs.Links.{is_of, is_at, IsNext}

-- a slot of the chain
pub record OneOf (k : ℕ) (xs : List (Option Slot)) (place : ℕ) : Type 0 where
  pub slot : Slot
  pub stands : held xs place ≡ Some slot
  pub chain : slot.chain ≡ k

pub one_of : (k : ℕ) (xs : List (Option Slot)) (place : ℕ) → is_at k xs place ≡ true → OneOf k xs place
one_of k xs place at = of (held xs place) refl at
  where
    of : (o : Option Slot) → held xs place ≡ o → is_of k o ≡ true → OneOf k xs place
    of None is at = absurd (both_ways false refl at)
    of (Some s) is at = record { slot = s; stands = is; chain = eqb-true s.chain k at }

pub at_slot : (k : ℕ) (xs : List (Option Slot)) (place : ℕ) (s : Slot) → held xs place ≡ Some s → s.chain ≡ k → is_at k xs place ≡ true
at_slot k xs place s stands chain = ap (is_of k) stands ∙ eq-eqb s.chain k chain

pub not_at : (k : ℕ) (xs : List (Option Slot)) (place : ℕ) (s : Slot) → held xs place ≡ Some s → (s.chain ≡ k → ⊥) → is_at k xs place ≡ false
not_at k xs place s stands other = ap (is_of k) stands ∙ ne_eqb s.chain k other

pub nothing_at : (k : ℕ) (xs : List (Option Slot)) (place : ℕ) → held xs place ≡ None → is_at k xs place ≡ false
nothing_at k xs place none = ap (is_of k) none

module _ (k : ℕ) (xs ys : List (Option Slot)) where
  -- nothing changed for this chain
  pub next_same : ((m : ℕ) → is_at k ys m ≡ is_at k xs m) → (from : ℕ) (o : Option ℕ) → IsNext k xs from o → IsNext k ys from o
  next_same same from None next = λ m past. same m ∙ next m past
  next_same same from (Some place) next = (next.0, same place ∙ next.1, λ m past before. same m ∙ next.2 m past before)

  -- a slot came at a place after the others
  pub next_grown : (n : ℕ) → ((m : ℕ) → m < n → is_at k ys m ≡ is_at k xs m) → (from place : ℕ) → place < n → IsNext k xs from (Some place) → IsNext k ys from (Some place)
  next_grown n same from place within next = (next.0, same place within ∙ next.1, λ m past before. same m (omega (arith, before, within)) ∙ next.2 m past before)

  pub next_new : (n : ℕ) → ((m : ℕ) → m < n → is_at k ys m ≡ is_at k xs m) → is_at k ys n ≡ true → (from : ℕ) → from ≤ n → IsNext k xs from None → IsNext k ys from (Some n)
  next_new n same new from within next = (within, new, λ m past before. same m before ∙ next m past)

  -- the slot at a place went
  module _ (gone : ℕ) (none : is_at k ys gone ≡ false) (same : (m : ℕ) → (m ≡ gone → ⊥) → is_at k ys m ≡ is_at k xs m) where
    fewer : (m : ℕ) → is_at k xs m ≡ false → is_at k ys m ≡ false
    fewer m off = elim (cases_order m gone) as (λ _. is_at k ys m ≡ false) [
      | inl is ↦ ap (is_at k ys) is ∙ none
      | inr order ↦ elim order as (λ _. is_at k ys m ≡ false) [
        | inl less ↦ same m (λ is. omega (arith, is, less)) ∙ off
        | inr more ↦ same m (λ is. omega (arith, is, more)) ∙ off
      ]
    ]

    pub next_none : (from : ℕ) → IsNext k xs from None → IsNext k ys from None
    next_none from next = λ m past. fewer m (next m past)

    pub next_other : (from place : ℕ) → (place ≡ gone → ⊥) → IsNext k xs from (Some place) → IsNext k ys from (Some place)
    next_other from place other next = (next.0, same place other ∙ next.1, λ m past before. fewer m (next.2 m past before))

    -- over it
    pub next_over : (from : ℕ) (o : Option ℕ) → IsNext k xs from (Some gone) → IsNext k xs (gone + 1) o → IsNext k ys from o
    next_over from None next after = λ m past. elim (cases_order m gone) as (λ _. is_at k ys m ≡ false) [
      | inl is ↦ ap (is_at k ys) is ∙ none
      | inr order ↦ elim order as (λ _. is_at k ys m ≡ false) [
        | inl less ↦ fewer m (next.2 m past less)
        | inr more ↦ fewer m (after m (omega (arith, more)))
      ]
    ]
    next_over from (Some place) next after =
        let to = next.0 in
        let on = after.0 in (
          omega (arith, to, on),
          same place (λ is. omega (arith, is, on)) ∙ after.1,
          λ m past before. elim (cases_order m gone) as (λ _. is_at k ys m ≡ false) [
            | inl is ↦ ap (is_at k ys) is ∙ none
            | inr order ↦ elim order as (λ _. is_at k ys m ≡ false) [
              | inl less ↦ fewer m (next.2 m past less)
              | inr more ↦ fewer m (after.2 m (omega (arith, more)) before)
            ]
          ],
        )
