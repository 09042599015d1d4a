-- Lists of ranked ranges, joined and filtered.
use Rattle.std.proofs.Common.{◌≡◌, ◌++◌, ℕ, Bool, true, false, not, nat_le, List, [], ◌∷◌, filter, refl, ap}
use Rattle.std.specs.List.{list_all}
use Rattle.std.proofs.lemmas.Bool.{or_parts, and_parts, and_from}
use Rattle.std.proofs.lemmas.List.Folds.{list_all-append}
use Rattle.list_lemmas.specs.Pairwise.{pairwise}
use Rattle.list_lemmas.proofs.Pairs.{list_all-filter, pairwise-filter, pairwise-append}
use Rattle.uid_ranges.specs.declared.range.UidRange.{UidRange}
use Rattle.uid_ranges.specs.declared.ranked.Ranked.{Ranked}
use Rattle.uid_ranges.specs.Range.{meets}
use Rattle.uid_ranges.specs.Ranges.{meets_any, self_meets, AreDisjoint}
use Rattle.uid_ranges.specs.Ranks.{last_rank, users_meet, all_at, are_apart, are_ranked}

all_in_range : (rank : ℕ) (ranges : List UidRange) → nat_le rank 99 ≡ true → list_all (λ r. nat_le r.rank last_rank) (all_at rank ranges) ≡ true
all_in_range rank [] h = refl
all_in_range rank (x ∷ xs) h = and_from (nat_le rank 99) (list_all (λ r. nat_le r.rank last_rank) (all_at rank xs)) h (all_in_range rank xs h)

-- a range that meets none of these is apart from each
apart_from : (rank : ℕ) (one : Ranked) (ranges : List UidRange) → meets_any one.users ranges ≡ false → list_all (are_apart one) (all_at rank ranges) ≡ true
apart_from rank one [] h = refl
apart_from rank one (x ∷ xs) h =
    let parts = or_parts (meets one.users x) (meets_any one.users xs) h in
    and_from (not (meets one.users x)) (list_all (are_apart one) (all_at rank xs)) (ap not parts.0) (apart_from rank one xs parts.1)

all_apart : (rank : ℕ) (ranges : List UidRange) → AreDisjoint ranges → pairwise are_apart (all_at rank ranges) ≡ true
all_apart rank [] h = refl
all_apart rank (x ∷ xs) h =
    let parts = or_parts (meets_any x xs) (self_meets xs) h in
    let one : Ranked = record { users = x; rank = rank } in
    and_from (list_all (are_apart one) (all_at rank xs)) (pairwise are_apart (all_at rank xs)) (apart_from rank one xs parts.0) (all_apart rank xs parts.1)

across : (rank : ℕ) (list : List Ranked) (more : List UidRange) → users_meet list more ≡ false → list_all (λ r. list_all (are_apart r) (all_at rank more)) list ≡ true
across rank [] more h = refl
across rank (x ∷ xs) more h =
    let parts = or_parts (meets_any x.users more) (users_meet xs more) h in
    and_from (list_all (are_apart x) (all_at rank more)) (list_all (λ r. list_all (are_apart r) (all_at rank more)) xs) (apart_from rank x more parts.0) (across rank xs more parts.1)

-- more ranges of one rank come to a list that none of them meets
pub are_ranked-more : (rank : ℕ) (list : List Ranked) (more : List UidRange) → are_ranked list ≡ true → nat_le rank 99 ≡ true → AreDisjoint more → users_meet list more ≡ false → are_ranked (list ++ all_at rank more) ≡ true
are_ranked-more rank list more good low disjoint apart =
    let parts = and_parts (list_all (λ r. nat_le r.rank last_rank) list) (pairwise are_apart list) good in
    let ranks : list_all (λ r. nat_le r.rank last_rank) (list ++ all_at rank more) ≡ true =
    rw (list_all-append (λ r. nat_le r.rank last_rank) list (all_at rank more))
    (and_from (list_all (λ r. nat_le r.rank last_rank) list) (list_all (λ r. nat_le r.rank last_rank) (all_at rank more)) parts.0 (all_in_range rank more low)) in
    and_from (list_all (λ r. nat_le r.rank last_rank) (list ++ all_at rank more)) (pairwise are_apart (list ++ all_at rank more)) ranks
    (pairwise-append are_apart list (all_at rank more) parts.1 (all_apart rank more disjoint) (across rank list more apart))

-- what is left of such a list is one
pub are_ranked-filter : (q : Ranked → Bool) (list : List Ranked) → are_ranked list ≡ true → are_ranked (filter q list) ≡ true
are_ranked-filter q list good =
    let parts = and_parts (list_all (λ r. nat_le r.rank last_rank) list) (pairwise are_apart list) good in
    and_from (list_all (λ r. nat_le r.rank last_rank) (filter q list)) (pairwise are_apart (filter q list))
    (list_all-filter (λ r. nat_le r.rank last_rank) q list parts.0) (pairwise-filter are_apart q list parts.1)
