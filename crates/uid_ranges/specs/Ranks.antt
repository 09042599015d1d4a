-- Lists of ranges of UIDs, each with a rank: the lower the rank, the earlier the range.
use Rattle.std.specs.Prelude.{ℕ, ◌==◌, ◌&&◌, Bool, List, Option, not, nat_le, filter, map}
use Rattle.std.specs.List.{list_any, list_all, find}
use Rattle.std.specs.Option.{option_map}
use Rattle.list_lemmas.specs.Pairwise.{pairwise}
use Rattle.uid_ranges.specs.declared.range.UidRange.{UidRange}
use Rattle.uid_ranges.specs.declared.ranked.Ranked.{Ranked}
use Rattle.uid_ranges.specs.Range.{holds, meets, same_range}
use Rattle.uid_ranges.specs.Ranges.{has, meets_any}

abbrev pub last_rank : ℕ
last_rank = 99

-- some range of the list holds the UID
abbrev pub holds_user : List Ranked → ℕ → Bool
holds_user list uid = list_any (λ r. holds r.users uid) list

-- the rank of the range that holds the UID, where one does
abbrev pub rank_of : List Ranked → ℕ → Option ℕ
rank_of list uid = option_map (λ r. r.rank) (find (λ r. holds r.users uid) list)

-- the range stands in the list, at whatever rank
abbrev pub has_users : List Ranked → UidRange → Bool
has_users list range = list_any (λ r. same_range range r.users) list

-- some range of the list meets one of these
abbrev pub users_meet : List Ranked → List UidRange → Bool
users_meet list more = list_any (λ r. meets_any r.users more) list

-- some range of this rank meets one of these
abbrev pub users_meet_at : ℕ → List Ranked → List UidRange → Bool
users_meet_at rank list more = list_any (λ r. (r.rank == rank) && meets_any r.users more) list

-- the ranges, each with this rank
abbrev pub all_at : ℕ → List UidRange → List Ranked
all_at rank ranges = map (λ users. record { users = users; rank = rank }) ranges

-- the list without the ranges that stand in the second one
abbrev pub ranked_without : List Ranked → List UidRange → List Ranked
ranked_without list gone = filter (λ r. not (has gone r.users)) list

-- no UID is in both ranges
abbrev pub are_apart : Ranked → Ranked → Bool
are_apart one other = not (meets one.users other.users)

-- no rank is past the last one, and no two ranges share a UID
abbrev pub are_ranked : List Ranked → Bool
are_ranked list = list_all (λ r. nat_le r.rank last_rank) list && pairwise are_apart list
