use Rattle.std.proofs.Common.{◌∙◌, ap}
use Rattle.prefixes.specs.Best.{longer_of}
use Rattle.policy_meaning.proofs.Bests.{best-more}
use Rattle.policy_meaning.proofs.asking.best_at.Goals as goal

pub loop-route-preserved : goal.loop-route-preserved
loop-route-preserved c =
    best-more c.args.link c.args.routes.now.routes c.loop-route.route-iterator c.next.new.self c.in-Some.route c.loop-route.found c.longer_of-found.result c.args.packet.now.dest
    c.args.packet.now.outgoing c.loop-route.invariant c.in-Some.ensures.steps (c.longer_of-found.ensures ∙ ap (longer_of c.loop-route.found) c.fitting.ensures)
