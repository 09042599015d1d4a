use Rattle.std.proofs.Common.{◌==◌, ◌∙◌, not, filter, ap}
use Rattle.route_store.specs.Slots.{RoutesView, present}
use Rattle.route_store.proofs.Places.{present-unlinked}
use Rattle.route_store.proofs.slots.RouteSlots.remove_link.Goals as goal

pub returns : goal.returns
returns c =
    ap present c.clear_linked.ensures.slots ∙ present-unlinked c.args.link c.self.inside.slots.items
    ∙ ap (λ (v : RoutesView). filter (λ r. not (r.link == c.args.link)) v.routes) c.self.view_is
