use Rattle.std.proofs.Common.{◌≡◌, ◌++◌, map, take, drop}
use Rattle.route_store.specs.Slots.{unlinked, IsPlaced}
use Rattle.route_store.proofs.slots.clear_linked.Given as goal

-- the slots before this place are done, and the others as they were
abbrev pub invariant-loop-place : goal.invariant-loop-place
invariant-loop-place l =
    IsPlaced l.slots.items l.places.entries × (l.slots.items ≡ map (unlinked l.link) (take l.place l.initial.slots.items) ++ drop l.place l.initial.slots.items)
