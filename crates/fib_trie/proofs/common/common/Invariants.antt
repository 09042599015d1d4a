use Rattle.std.proofs.Common.{◌≤◌, ◌-◌}
use Rattle.fib_search.specs.Alike.{IsAlike}
use Rattle.fib_trie.proofs.common.common.Given as goal

abbrev pub invariant-loop-len : goal.invariant-loop-len
invariant-loop-len l = record { alike : IsAlike l.one l.other l.len; from : l.from ≤ l.len; within : l.len ≤ l.limit }

abbrev pub decreases-loop-len : goal.decreases-loop-len
decreases-loop-len l = l.limit - l.len
