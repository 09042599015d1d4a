use Rattle.std.proofs.Common.{[], ◌-◌}
use Rattle.fib_search.specs.Trie.{LeadsTo}
use Rattle.fib_search.proofs.Going.{level}
use Rattle.fib_trie.specs.Branches.{nodes_of}
use Rattle.fib_trie.specs.Pruned.{IsUpperOf}
use Rattle.fib_trie.proofs.prune.find_upper.Given as goal

abbrev pub invariant-loop-here : goal.invariant-loop-here
invariant-loop-here l = record { lead : LeadsTo (nodes_of [] l.branches) l.prefix l.place l.here; upper : IsUpperOf l.branches l.prefix l.here l.upper }

abbrev pub decreases-loop-here : goal.decreases-loop-here
decreases-loop-here l = 129 - level (nodes_of [] l.branches) l.here
