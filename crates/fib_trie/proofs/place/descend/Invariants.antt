use Rattle.std.proofs.Common.{[], ◌-◌}
use Rattle.fib_trie.specs.Ways.{IsOn}
use Rattle.fib_trie.specs.Branches.{nodes_of}
use Rattle.fib_search.proofs.Going.{level}
use Rattle.fib_trie.proofs.place.descend.Given as goal

abbrev pub invariant-loop-next : goal.invariant-loop-next
invariant-loop-next l = IsOn l.branches l.prefix l.place

abbrev pub decreases-loop-next : goal.decreases-loop-next
decreases-loop-next l = 129 - level (nodes_of [] l.branches) l.place
