use Rattle.std.proofs.Common.{◌≡◌, take}
use Rattle.route_chains.specs.Chains.{routes_of}
use Rattle.route_chains.specs.Links.{entries_of}
use Rattle.route_chains.proofs.chains.routes_in.Given as goal

abbrev pub invariant-loop-slot : goal.invariant-loop-slot
invariant-loop-slot l = l.routes.items ≡ routes_of (entries_of (take l.slot-index l.slots))
