use Rattle.std.proofs.Common.{◌∙◌, ap, is_some}
use Rattle.std.specs.List.{list_any}
use Rattle.route_store.specs.Slots.{RoutesView}
use Rattle.route_store.proofs.Placed.{keyed}
use Rattle.route_store.proofs.Places.{place-any}
use Rattle.route_store.proofs.slots.RouteSlots.has.Goals as goal

pub returns-clause-there : goal.returns-clause-there
returns-clause-there c =
    c.contains_key.ensures ∙ ap is_some (c.self.invariant.by_key c.args.key.now) ∙ place-any (keyed c.args.key.now) c.self.inside.slots.items
    ∙ ap (λ (v : RoutesView). list_any (keyed c.args.key.now) v.routes) c.self.view_is
