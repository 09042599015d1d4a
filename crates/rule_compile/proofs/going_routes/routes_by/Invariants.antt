use Rattle.std.proofs.Common.{◌≡◌, ◌++◌}
use Rattle.networks.specs.Network.{routes_by}
use Rattle.rule_compile.proofs.going_routes.routes_by.Given as goal

-- what was found so far and what is left are all routes of the link
abbrev pub invariant-loop-route : goal.invariant-loop-route
invariant-loop-route l =
    (goal.iterator-loop-route).can_next l.route-iterator × (goal.iterator-loop-route).is_finite l.route-iterator
    × (l.of_link.items ++ routes_by l.link l.route-iterator ≡ routes_by l.link l.routes.routes)
