use Rattle.std.proofs.Common.{◌∙◌, ap, cond, None}
use Rattle.std.specs.Map.{lookup}
use Rattle.route_store.specs.Keys.{same_route_key}
use Rattle.route_store.proofs.Placed.{placed-clear}
use Rattle.route_store.proofs.slots.clear_slot.Goals as goal

pub returns-clause-placed : goal.returns-clause-placed
returns-clause-placed c =
    placed-clear c.args.slots.now.items c.args.places.now.entries c.swap_remove.new.self.entries c.args.place c.requires.there.0 c.requires.placed c.requires.there.1
    (λ q. c.swap_remove.ensures.updates.0 q ∙ ap (λ k. cond (same_route_key k q) None (lookup (same_route_key q) c.args.places.now.entries)) c.requires.there.2)
