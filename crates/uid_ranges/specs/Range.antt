-- A range of UIDs, both ends included, as a rule's `uidrange` of the ip-rule manual.
use Rattle.std.specs.Prelude.{ℕ, ◌==◌, ◌&&◌, Bool, nat_le}
use Rattle.uid_ranges.specs.declared.range.UidRange.{UidRange}

-- the UID is in the range
abbrev pub holds : UidRange → ℕ → Bool
holds range uid = nat_le range.first.number uid && nat_le uid range.last.number

-- neither range ends before the other begins: where and only where they share a UID
abbrev pub meets : UidRange → UidRange → Bool
meets one other = nat_le one.first.number other.last.number && nat_le other.first.number one.last.number

-- the ends are the same: where and only where the ranges are equal
abbrev pub same_range : UidRange → UidRange → Bool
same_range one other = (one.first.number == other.first.number) && (one.last.number == other.last.number)
