use Rattle.std.proofs.Common.{◌≡◌, ◌≤◌, ◌+◌, ◌++◌, length}
use Rattle.route_store.proofs.slots.RouteSlots.packed.Given as goal

-- what was put so far and what is left are all routes, and there is room for the rest
abbrev pub invariant-loop-route : goal.invariant-loop-route
invariant-loop-route l =
    (goal.iterator-loop-route).can_next l.route-iterator × (goal.iterator-loop-route).is_finite l.route-iterator
    × (l.packed.routes ++ l.route-iterator ≡ l.self.routes)
    × (l.more + length l.route-iterator ≤ l.packed.room)
