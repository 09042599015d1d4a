use Rattle.std.proofs.Common.{◌≡◌, ◌≤◌, ◌+◌, ◌++◌, take, length, vec_len, vec_capacity}
use Rattle.uid_ranges.specs.Ranks.{all_at}
use Rattle.network_store.proofs.ranges.push_all.Given as goal

-- what was put so far, and room for the rest
abbrev pub invariant-loop-users : goal.invariant-loop-users
invariant-loop-users l =
    (l.ranges.items ≡ l.initial.ranges.items ++ all_at l.rank (take l.users-index l.more))
    × (vec_len l.ranges + length l.more ≤ vec_capacity l.ranges + l.users-index)
