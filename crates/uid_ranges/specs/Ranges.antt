-- Lists of ranges of UIDs.
use Rattle.std.specs.Prelude.{◌≡◌, ℕ, ◌<◌, ◌||◌, Bool, false, List, [], ◌∷◌, not, filter, slice_get, IsTrue, IsSomeAnd}
use Rattle.std.specs.List.{list_any}
use Rattle.uid_ranges.specs.declared.range.UidRange.{UidRange}
use Rattle.uid_ranges.specs.Range.{holds, meets, same_range}

-- some range of the list holds the UID
abbrev pub any_holds : List UidRange → ℕ → Bool
any_holds ranges uid = list_any (λ range. holds range uid) ranges

-- the range stands in the list
abbrev pub has : List UidRange → UidRange → Bool
has ranges range = list_any (same_range range) ranges

-- some range of the list meets this one
abbrev pub meets_any : UidRange → List UidRange → Bool
meets_any range ranges = list_any (meets range) ranges

-- some range of the one list meets some range of the other
abbrev pub lists_meet : List UidRange → List UidRange → Bool
lists_meet ranges others = list_any (λ range. meets_any range others) ranges

-- two places of the list meet
abbrev pub self_meets : List UidRange → Bool
self_meets [] = false
self_meets (range ∷ ranges) = meets_any range ranges || self_meets ranges

-- no two places of the list share a UID
abbrev pub AreDisjoint : List UidRange → Type 0
AreDisjoint ranges = self_meets ranges ≡ false

-- both lists hold one UID
pub record ListsShareUid (ranges others : List UidRange) : Type 0 where
  pub uid : ℕ
  pub holds_one : IsTrue (any_holds ranges uid)
  pub holds_other : IsTrue (any_holds others uid)

-- two places of the list hold one UID
pub record TwoShareUid (ranges : List UidRange) : Type 0 where
  pub earlier : ℕ
  pub later : ℕ
  pub uid : ℕ
  pub in_order : earlier < later
  pub holds_earlier : IsSomeAnd (slice_get ranges earlier) (λ range. IsTrue (holds range uid))
  pub holds_later : IsSomeAnd (slice_get ranges later) (λ range. IsTrue (holds range uid))

-- the ranges of the first list that don't stand in the second, in order
abbrev pub without : List UidRange → List UidRange → List UidRange
without ranges gone = filter (λ range. not (has gone range)) ranges
