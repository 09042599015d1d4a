use Rattle.std.proofs.Common.{sym}
use Rattle.route_chains.proofs.Standing.{held-get, held-nowhere}
use Rattle.route_chains.proofs.places.held.Goals as goal

pub returns-in-Some : goal.returns-in-Some
returns-in-Some g c = sym (held-get c.args.places.now c.args.place c.in-Some.value (sym c.in-Some.ensures))

pub returns-in-None : goal.returns-in-None
returns-in-None g c = sym (held-nowhere c.args.places.now c.args.place (sym c.in-None.ensures))
