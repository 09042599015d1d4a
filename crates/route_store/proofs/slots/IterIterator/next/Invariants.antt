use Rattle.std.proofs.Common.{◌≡◌, length}
use Rattle.route_store.specs.Slots.{present}
use Rattle.route_store.proofs.slots.IterIterator.next.Given as goal

-- only empty slots were passed over
abbrev pub invariant-loop-slot : goal.invariant-loop-slot
invariant-loop-slot l = present l.self-inside.slots.now ≡ l.fn.self

abbrev pub decreases-loop-slot : goal.decreases-loop-slot
decreases-loop-slot l = length l.self-inside.slots.now
