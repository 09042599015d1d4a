use Rattle.std.proofs.Common.{◌∙◌, sym, ap, subst, ◌==◌, find}
use Rattle.std.specs.Map.{values_of}
use Rattle.std.specs.Option.{IfSome}
use Rattle.std.proofs.lemmas.Result.{on_ok_weaker}
use Rattle.network_store.specs.Stored.{HasRouteRoom}
use Rattle.network_store.specs.Store.{nets_of, nets_in, AreIndexed}
use Rattle.network_store.proofs.Entries.{set-same, indexed-same, room-set, room-none}
use Rattle.network_store.proofs.store.StoredNetworks.reserve_route.Goals as goal

pub returns-in_default-clause-room : goal.returns-in_default-clause-room
returns-in_default-clause-room c =
    subst (λ es. IfSome (find (λ n. c.args.id == n.id) (values_of es)) HasRouteRoom) (ap (λ m. m.entries) (sym c.get_mut.follows.holds-at-none))
    (room-none c.args.id HasRouteRoom c.self.inside.by_id.entries c.self.invariant.at_ids (sym c.in_default.ensures.value))

pub invariant_of-self-2 : goal.invariant_of-self-2
invariant_of-self-2 c =
    let wrote = c.get_mut.follows.holds c.reserve_route.new.self in
    subst (λ es. AreIndexed es c.self.inside.by_link.entries c.self.inside.users.ranges c.self.inside.apps.ranges) (sym wrote.0)
    (indexed-same c.args.id c.self.inside.by_id.entries c.self.inside.by_link.entries c.self.inside.users.ranges c.self.inside.apps.ranges c.in-Some.network.now c.reserve_route.new.self c.self.invariant c.in-Some.ensures.value c.reserve_route.ensures.net c.reserve_route.ensures.same_id)

pub returns-clause-nets : goal.returns-clause-nets
returns-clause-nets c =
    let wrote = c.get_mut.follows.holds c.reserve_route.new.self in
    ap nets_in wrote.0 ∙ set-same c.args.id c.self.inside.by_id.entries c.in-Some.network.now c.reserve_route.new.self c.in-Some.ensures.value c.reserve_route.ensures.net ∙ ap nets_of c.self.view_is

pub returns-clause-room : goal.returns-clause-room
returns-clause-room c =
    let wrote = c.get_mut.follows.holds c.reserve_route.new.self in
    on_ok_weaker c.reserve_route.result
    (λ h. subst (λ es. IfSome (find (λ n. c.args.id == n.id) (values_of es)) HasRouteRoom) (sym wrote.0)
    (room-set c.args.id HasRouteRoom c.self.inside.by_id.entries c.in-Some.network.now c.reserve_route.new.self c.self.invariant.at_ids c.in-Some.ensures.value c.reserve_route.ensures.same_id h))
    c.reserve_route.ensures.room
