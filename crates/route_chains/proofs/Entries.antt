-- The entries of slots, and a chain's routes among them.
use Rattle.std.proofs.Common.{◌≡◌, ℕ, zero, suc, ◌+◌, ◌<◌, ◌≤◌, ◌==◌, Bool, true, false, List, [], ◌∷◌, ◌++◌, length, drop, set, Option, Some, None, refl, sym, ◌∙◌, ap, arith, add-one, is_some, inl, inr}
use Rattle.std.specs.List.{find, list_any}
use Rattle.std.specs.Option.{option_map}
use Rattle.std.proofs.lemmas.Bool.{cases_Bool, eq-eqb}
use Rattle.std.proofs.lemmas.List.{drop_all}
use Rattle.std.proofs.lemmas.Option.{none-some, same_Some}
use Rattle.prefixes.specs.declared.route.Route.{Route}
use Rattle.route_chains.specs.declared.slot.Slot.{Slot}
use Rattle.route_chains.specs.Chains.{Chained, chain_of, TakesOut}
use Rattle.route_chains.specs.Places.{held}
use Rattle.route_chains.specs.Links.{entry_of, entries_of, is_of, is_at, with_next, relinked, IsNext}

pub entries_of-append : (xs ys : List (Option Slot)) → entries_of (xs ++ ys) ≡ entries_of xs ++ entries_of ys
entries_of-append [] ys = refl
entries_of-append (None ∷ xs) ys = entries_of-append xs ys
entries_of-append (Some s ∷ xs) ys = ap (λ es. entry_of s ∷ es) (entries_of-append xs ys)

-- a slot's link is no part of its entry
pub entries_of-relinked : (xs : List (Option Slot)) (before next : Option ℕ) → entries_of (relinked xs before next) ≡ entries_of xs
entries_of-relinked xs None next = refl
entries_of-relinked xs (Some place) next = of xs place
  where
    of : (xs : List (Option Slot)) (place : ℕ) → entries_of (set xs place (option_map (with_next next) (held xs place))) ≡ entries_of xs
    of [] place = refl
    of (None ∷ xs) zero = refl
    of (Some s ∷ xs) zero = refl
    of (None ∷ xs) (suc place) = of xs place
    of (Some s ∷ xs) (suc place) = ap (λ es. entry_of s ∷ es) (of xs place)

-- a slot is emptied
pub entries_of-emptied : (xs : List (Option Slot)) (place : ℕ) (s : Slot) → held xs place ≡ Some s → TakesOut (entries_of xs) (entries_of (set xs place None)) (entry_of s)
entries_of-emptied [] place s at = absurd (none-some s at)
entries_of-emptied (None ∷ xs) zero s at = absurd (none-some s at)
entries_of-emptied (Some x ∷ xs) zero s at = record { before = []; after = entries_of xs; was = ap (λ (y : Slot). entry_of y ∷ entries_of xs) (same_Some x s at); is = refl }
entries_of-emptied (None ∷ xs) (suc place) s at = entries_of-emptied xs place s at
entries_of-emptied (Some x ∷ xs) (suc place) s at =
    let t = entries_of-emptied xs place s at in
    record { before = entry_of x ∷ t.before; after = t.after; was = ap (λ es. entry_of x ∷ es) t.was; is = ap (λ es. entry_of x ∷ es) t.is }

-- a chain's routes from a place on
abbrev pub rest : ℕ → List (Option Slot) → ℕ → List Route
rest k xs place = chain_of k (entries_of (drop place xs))

skipped : (k : ℕ) (o : Option Slot) (xs : List (Option Slot)) → is_of k o ≡ false → chain_of k (entries_of (o ∷ xs)) ≡ chain_of k (entries_of xs)
skipped k None xs off = refl
skipped k (Some s) xs off = rw off refl

-- between places where no slot of the chain stands
pub rest_same : (k : ℕ) (xs : List (Option Slot)) (i j : ℕ) → i ≤ j → ((m : ℕ) → i ≤ m → m < j → is_at k xs m ≡ false) → rest k xs i ≡ rest k xs j
rest_same k [] zero zero le off = refl
rest_same k [] zero (suc j) le off = refl
rest_same k [] (suc i) zero le off = refl
rest_same k [] (suc i) (suc j) le off = refl
rest_same k (x ∷ xs) zero zero le off = refl
rest_same k (x ∷ xs) zero (suc j) le off =
    skipped k x xs (off zero (omega arith) (omega arith)) ∙ rest_same k xs zero j (omega arith) (λ m past before. off (suc m) (omega arith) (omega (arith, before)))
rest_same k (x ∷ xs) (suc i) zero le off = absurd (omega (arith, le))
rest_same k (x ∷ xs) (suc i) (suc j) le off = rest_same k xs i j (omega (arith, le)) (λ m past before. off (suc m) (omega (arith, past)) (omega (arith, before)))

-- at the next slot of the chain
pub rest_next : (k : ℕ) (xs : List (Option Slot)) (from place : ℕ) → IsNext k xs from (Some place) → rest k xs from ≡ rest k xs place
rest_next k xs from place next = rest_same k xs from place next.0 next.2

pub rest_none : (k : ℕ) (xs : List (Option Slot)) (from : ℕ) → IsNext k xs from None → rest k xs from ≡ []
rest_none k xs from next =
    rest_same k xs from (from + length xs) (omega arith) (λ m past before. next m past)
    ∙ ap (λ l. chain_of k (entries_of l)) (drop_all (from + length xs) xs (omega arith))

pub rest_here : (k : ℕ) (xs : List (Option Slot)) (place : ℕ) (s : Slot) → held xs place ≡ Some s → s.chain ≡ k → rest k xs place ≡ s.route ∷ rest k xs (place + 1)
rest_here k xs place s at chain = rw add-one (go xs place at)
  where
    here : (s : Slot) (es : List Chained) → (s.chain == k) ≡ true → chain_of k (entry_of s ∷ es) ≡ s.route ∷ chain_of k es
    here s es is = rw is refl

    go : (xs : List (Option Slot)) (place : ℕ) → held xs place ≡ Some s → rest k xs place ≡ s.route ∷ rest k xs (suc place)
    go [] place at = absurd (none-some s at)
    go (None ∷ xs) zero at = absurd (none-some s at)
    go (Some x ∷ xs) zero at =
        here x (entries_of xs) (eq-eqb x.chain k (ap (λ (y : Slot). y.chain) (same_Some x s at) ∙ chain))
        ∙ ap (λ (y : Slot). y.route ∷ chain_of k (entries_of xs)) (same_Some x s at)
    go (x ∷ xs) (suc place) at = go xs place at

-- what is found, and whether there is any
pub is_some-find : (test : Route → Bool) (rs : List Route) → is_some (find test rs) ≡ list_any test rs
is_some-find test [] = refl
is_some-find test (r ∷ rs) = elim (cases_Bool (test r)) as (λ _. is_some (find test (r ∷ rs)) ≡ list_any test (r ∷ rs)) [
  | inl pass ↦ rw pass refl
  | inr fail ↦ rw fail (is_some-find test rs)
]

pub find-passes : (test : Route → Bool) (rs : List Route) (r : Route) → find test rs ≡ Some r → test r ≡ true
find-passes test [] r is = absurd (none-some r is)
find-passes test (x ∷ rs) r is = elim (cases_Bool (test x)) as (λ _. test r ≡ true) [
  | inl pass ↦ ap test (sym (same_Some x r (rw pass at is))) ∙ pass
  | inr fail ↦ find-passes test rs r (rw fail at is)
]
