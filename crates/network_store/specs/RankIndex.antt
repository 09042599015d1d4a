-- Ranges with the networks to which they belong, in rising order of rank and, of one rank, of UIDs.
use Rattle.std.specs.Prelude.{◌≡◌, ℕ, ◌==◌, ◌&&◌, Bool, false, List, [], ◌∷◌, Option, Some, None, ◌<◌, nat_lt, nat_le, find, if◌then◌else◌}
use Rattle.std.specs.List.{list_all, list_any}
use Rattle.std.specs.Option.{option_map}
use Rattle.list_lemmas.specs.Pairwise.{pairwise}
use Rattle.uid_ranges.specs.Range.{holds, meets, same_range}
use Rattle.uid_ranges.specs.Ranges.{has, meets_any}
use Rattle.uid_ranges.specs.Ranks.{last_rank}
use Rattle.uid_ranges.specs.declared.range.UidRange.{UidRange}
use Rattle.uid_ranges.specs.declared.ranked.Ranked.{Ranked}
use Rattle.network_store.specs.declared.rank_index.OwnedRange.{OwnedRange}

pub record RankIndexView : Type 0 where
  pub ranges : List OwnedRange
  -- how many ranges may come without memory
  pub room : ℕ

-- of a lower rank, or of this rank and ending before the UID
abbrev pub ends_before : ℕ → ℕ → Ranked → Bool
ends_before rank uid r = if r.rank == rank then nat_lt r.users.last.number uid else nat_lt r.rank rank

-- of this rank, and holding the UID
abbrev pub holds_at : ℕ → ℕ → Ranked → Bool
holds_at rank uid r = (r.rank == rank) && holds r.users uid

-- the same range at the same rank
abbrev pub same_ranked : Ranked → Ranked → Bool
same_ranked a b = (a.rank == b.rank) && same_range a.users b.users

-- it is the range that stands there
abbrev pub stands : Ranked → Option OwnedRange → Bool
stands range None = false
stands range (Some e) = same_ranked e.range range

-- of one rank, with a UID in both
abbrev pub clash : Ranked → Ranked → Bool
clash a b = (a.rank == b.rank) && meets a.users b.users

-- the first ends before the other begins
abbrev pub comes_before : OwnedRange → OwnedRange → Bool
comes_before a b = ends_before b.range.rank b.range.users.first.number a.range

abbrev pub rise : List OwnedRange → Bool
rise ranges = pairwise comes_before ranges

-- no rank is past the last one
abbrev pub are_low : List OwnedRange → Bool
are_low ranges = list_all (λ e. nat_le e.range.rank last_rank) ranges

-- a range in its place
abbrev pub put : OwnedRange → List OwnedRange → List OwnedRange
put one [] = one ∷ []
put one (e ∷ es) = if comes_before e one then e ∷ put one es else one ∷ e ∷ es

-- the network to which this very range belongs
abbrev pub owner_of : List OwnedRange → Ranked → Option ℕ
owner_of ranges range = option_map (λ e. e.owner) (find (λ e. same_ranked e.range range) ranges)

-- some range of this rank meets one of these
abbrev pub any_meets : ℕ → List UidRange → List OwnedRange → Bool
any_meets rank more ranges = list_any (λ e. (e.range.rank == rank) && meets_any e.range.users more) ranges

-- the range stands in the list with its rank
abbrev pub has_ranked : List Ranked → Ranked → Bool
has_ranked list range = list_any (λ one. same_ranked one range) list

-- and is one of these
abbrev pub has_among : List UidRange → List Ranked → Ranked → Bool
has_among gone list range = list_any (λ one. has gone one.users && same_ranked one range) list

-- the network that has the range of this rank which holds the UID
abbrev pub owner_at : ℕ → ℕ → List OwnedRange → Option ℕ
owner_at rank uid ranges = option_map (λ e. e.owner) (find (λ e. holds_at rank uid e.range) ranges)

-- the network has the range of the lowest rank that holds the UID
pub record IsFirstOwner (uid : ℕ) (ranges : List OwnedRange) (owner : ℕ) : Type 0 where
  pub rank : ℕ
  pub at : owner_at rank uid ranges ≡ Some owner
  pub lowest : (lower : ℕ) → lower < rank → owner_at lower uid ranges ≡ None
