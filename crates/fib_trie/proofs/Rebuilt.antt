-- A table made anew.
use Rattle.std.proofs.Common.{◌≡◌, ℕ, zero, suc, ◌+◌, ◌<◌, true, false, not, List, [], ◌∷◌, ◌++◌, length, take, get_or, refl, sym, ◌∙◌, ap, arith}
use Rattle.std.proofs.lemmas.Bool.{both_ways, and_parts, or_parts, or_from, not-true, false_from_ne_true}
use Rattle.std.proofs.lemmas.List.{take_more}
use Rattle.prefixes.specs.Route.{same_key}
use Rattle.prefixes.proofs.Sames.{same_key-sym}
use Rattle.prefixes.specs.declared.route.Route.{Route}
use Rattle.fib_table.specs.Table.{has_key, are_keys_distinct}

key_at : (rs : List Route) (i : ℕ) (r x : Route) → has_key rs x ≡ false → i < length rs → r ≡ get_or rs i r → same_key r x ≡ false
key_at [] i r x absent within is = absurd (omega (arith, within))
key_at (y ∷ rs) zero r x absent within is = ap (λ z. same_key z x) is ∙ (or_parts (same_key y x) (has_key rs x) absent).0
key_at (y ∷ rs) (suc i) r x absent within is = key_at rs i r x (or_parts (same_key y x) (has_key rs x) absent).1 (omega (arith, within)) is

-- of routes of distinct keys none before another has its key
pub absent_at : (rs : List Route) (i : ℕ) (r : Route) → are_keys_distinct rs ≡ true → i < length rs → r ≡ get_or rs i r → has_key (take i rs) r ≡ false
absent_at [] i r distinct within is = absurd (omega (arith, within))
absent_at (x ∷ rs) zero r distinct within is = refl
absent_at (x ∷ rs) (suc i) r distinct within is =
    let parts = and_parts (not (has_key rs x)) (are_keys_distinct rs) distinct in
    let here : i < length rs = omega (arith, within) in
    or_from (same_key x r) (has_key (take i rs) r)
    (false_from_ne_true (same_key x r) (λ same. both_ways (same_key r x) (key_at rs i r x (not-true _ parts.0) here is) (same_key-sym x r same)))
    (absent_at rs i r parts.1 here is)

pub one_more : (rs made : List Route) (i : ℕ) (r : Route) → made ≡ take i rs → i < length rs → r ≡ get_or rs i r → made ++ r ∷ [] ≡ take (i + 1) rs
one_more rs made i r so_far within is = ap (λ (l : List Route). l ++ r ∷ []) so_far ∙ ap (λ (x : Route). take i rs ++ x ∷ []) is ∙ sym (take_more rs i r within)
