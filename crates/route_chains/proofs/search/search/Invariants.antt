use Rattle.std.proofs.Common.{length, get_or, None}
use Rattle.route_chains.proofs.Along.{IsAlong, left}
use Rattle.route_chains.proofs.search.search.Given as goal

abbrev pub invariant-loop-at : goal.invariant-loop-at
invariant-loop-at g l = IsAlong l.slots l.chain (get_or l.heads l.chain None) (g.T.Test.passes l.test) l.before l.at

abbrev pub decreases-loop-at : goal.decreases-loop-at
decreases-loop-at g l = left (length l.slots) l.at
