use Rattle.policy_meaning.proofs.Bests.{BestSoFar}
use Rattle.policy_meaning.proofs.asking.best_at.Given as goal

abbrev pub invariant-loop-route : goal.invariant-loop-route
invariant-loop-route l = BestSoFar l.link l.routes.routes l.route-iterator l.found l.packet.dest l.packet.outgoing
