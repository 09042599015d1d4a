-- Keys stay distinct.
use Rattle.std.proofs.Common.{◌≡◌, ◌++◌, Bool, true, false, cond, not, List, [], ◌∷◌, refl, inl, inr}
use Rattle.std.specs.List.{filter}
use Rattle.std.proofs.lemmas.Bool.{cases_Bool, both_ways, or_parts, and_parts, and_from, not-true, not_from_false}
use Rattle.list_lemmas.proofs.Anys.{none-push, none-filter}
use Rattle.prefixes.specs.Route.{same_key}
use Rattle.prefixes.proofs.Sames.{same_key-sym}
use Rattle.prefixes.specs.declared.route.Route.{Route}
use Rattle.fib_table.specs.Table.{has_key, are_keys_distinct}

apart-sym : (a b : Route) → same_key a b ≡ false → same_key b a ≡ false
apart-sym a b apart = elim (cases_Bool (same_key b a)) as (λ _. same_key b a ≡ false) [
  | inl same ↦ absurd (both_ways (same_key a b) apart (same_key-sym b a same))
  | inr other ↦ other
]

-- a route whose key is absent goes last
pub are_keys_distinct-push : (xs : List Route) (r : Route) → are_keys_distinct xs ≡ true → has_key xs r ≡ false → are_keys_distinct (xs ++ r ∷ []) ≡ true
are_keys_distinct-push [] r distinct absent = refl
are_keys_distinct-push (x ∷ xs) r distinct absent =
    let parts = and_parts (not (has_key xs x)) (are_keys_distinct xs) distinct in
    let others = or_parts (same_key x r) (has_key xs r) absent in
    and_from _ _ (not_from_false _ (none-push (λ other. same_key other x) xs r (not-true _ parts.0) (apart-sym x r others.0)))
    (are_keys_distinct-push xs r parts.1 others.1)

-- some routes go
pub are_keys_distinct-filter : (q : Route → Bool) (xs : List Route) → are_keys_distinct xs ≡ true → are_keys_distinct (filter q xs) ≡ true
are_keys_distinct-filter q [] distinct = refl
are_keys_distinct-filter q (x ∷ xs) distinct =
    let parts = and_parts (not (has_key xs x)) (are_keys_distinct xs) distinct in
    kept (q x) (are_keys_distinct-filter q xs parts.1) (none-filter (λ other. same_key other x) q xs (not-true _ parts.0))
  where
    kept : (b : Bool) → are_keys_distinct (filter q xs) ≡ true → has_key (filter q xs) x ≡ false → are_keys_distinct (cond b (x ∷ filter q xs) (filter q xs)) ≡ true
    kept true rest absent = and_from _ _ (not_from_false _ absent) rest
    kept false rest absent = rest
