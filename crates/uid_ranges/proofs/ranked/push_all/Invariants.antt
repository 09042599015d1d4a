use Rattle.std.proofs.Common.{◌≡◌, ◌++◌, take}
use Rattle.uid_ranges.specs.Ranks.{all_at}
use Rattle.uid_ranges.proofs.ranked.push_all.Given as goal

abbrev pub invariant-loop-users : goal.invariant-loop-users
invariant-loop-users l = l.ranges.items ≡ l.initial.ranges.items ++ all_at l.rank (take l.users-index l.more)
