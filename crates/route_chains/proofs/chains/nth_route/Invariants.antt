use Rattle.std.proofs.Common.{◌≡◌, drop}
use Rattle.std.specs.List.{slice_get}
use Rattle.route_chains.specs.Chains.{routes_of}
use Rattle.route_chains.specs.Links.{entries_of}
use Rattle.route_chains.proofs.chains.nth_route.Given as goal

abbrev pub invariant-loop-slot : goal.invariant-loop-slot
invariant-loop-slot l = slice_get (routes_of (entries_of l.slots)) l.place ≡ slice_get (routes_of (entries_of (drop l.slot-index l.slots))) l.left
