-- The routes in the order of their addition, along slots of which some are empty.
use Rattle.std.proofs.Common.{◌≡◌, ℕ, zero, suc, ◌+◌, ◌-◌, ◌<◌, ◌≤◌, List, [], ◌∷◌, ◌++◌, length, get_or, take, Option, Some, None, refl, sym, ◌∙◌, ap, arith, add-one}
use Rattle.std.specs.List.{slice_get}
use Rattle.std.proofs.lemmas.List.{take_more}
use Rattle.prefixes.specs.declared.route.Route.{Route}
use Rattle.route_chains.specs.declared.slot.Slot.{Slot}
use Rattle.route_chains.specs.Chains.{Chained, routes_of, TakesOut}
use Rattle.route_chains.specs.Found.{route_at}
use Rattle.route_chains.specs.Links.{entries_of}
use Rattle.route_chains.proofs.Entries.{entries_of-append}

pub entries_few : (xs : List (Option Slot)) → length (entries_of xs) ≤ length xs
entries_few [] = omega arith
entries_few (None ∷ xs) = let h = entries_few xs in omega (arith, h)
entries_few (Some s ∷ xs) = let h = entries_few xs in omega (arith, h)

-- where no slot is empty each route stands at its place
pub without_gaps : (xs : List (Option Slot)) (place : ℕ) → length (entries_of xs) ≡ length xs → route_at xs (Some place) ≡ slice_get (routes_of (entries_of xs)) place
without_gaps [] place full = refl
without_gaps (None ∷ xs) place full = let h = entries_few xs in absurd (omega (arith, h, full))
without_gaps (Some s ∷ xs) zero full = refl
without_gaps (Some s ∷ xs) (suc place) full = without_gaps xs place (omega (arith, full))

pub taken-length : (old new : List Chained) (e : Chained) → TakesOut old new e → length old ≡ length new + 1
taken-length old new e it =
    ap length it.was ∙ by it.before it.after ∙ sym (ap (λ es. length es + 1) it.is)
  where
    by : (xs ys : List Chained) → length (xs ++ e ∷ ys) ≡ length (xs ++ ys) + 1
    by [] ys = sym (add-one (length ys))
    by (x ∷ xs) ys = let h = by xs ys in omega (arith, h)

routes-append : (xs ys : List Chained) → routes_of (xs ++ ys) ≡ routes_of xs ++ routes_of ys
routes-append [] ys = refl
routes-append (x ∷ xs) ys = ap (λ rs. x.route ∷ rs) (routes-append xs ys)

-- one slot more
pub one-more : (xs : List (Option Slot)) (i : ℕ) (o : Option Slot) → i < length xs → o ≡ get_or xs i o
    → routes_of (entries_of (take (i + 1) xs)) ≡ routes_of (entries_of (take i xs)) ++ routes_of (entries_of (o ∷ []))
one-more xs i o within is =
    ap (λ (slots : List (Option Slot)). routes_of (entries_of slots)) (take_more xs i o within ∙ ap (λ x. take i xs ++ x ∷ []) (sym is))
    ∙ ap routes_of (entries_of-append (take i xs) (o ∷ [])) ∙ routes-append (entries_of (take i xs)) (entries_of (o ∷ []))
