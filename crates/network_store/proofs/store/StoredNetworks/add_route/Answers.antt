use Rattle.std.proofs.Common.{◌≡◌, ◌∙◌, false, sym, ap, subst, refl}
use Rattle.network_store.specs.Stored.{net_of, with_route, HasRouteRoom}
use Rattle.network_store.specs.Store.{StoreView, nets_of, nets_in, with_net, AreIndexed, HasRoomAt}
use Rattle.network_store.proofs.Entries.{none-net, set-net, indexed-changed, find-lookup, whole-lookup}
use Rattle.network_store.proofs.Kinships.{owners-kept}
use Rattle.networks.specs.Lists.{find_id}
use Rattle.networks.specs.Network.{is_keyed_by}
use Rattle.std.specs.List.{list_any}
use Rattle.std.specs.Option.{option_map, IfSome}
use Rattle.networks.specs.declared.network.Network.{Network}
use Rattle.network_store.proofs.store.StoredNetworks.add_route.Goals as goal

pub returns-in_default : goal.returns-in_default
returns-in_default c =
    ap (λ m. nets_in m.entries) c.get_mut.follows.holds-at-none
    ∙ none-net c.args.id (with_route c.args.route) c.self.inside.by_id.entries c.self.invariant.at_ids (sym c.in_default.ensures.value)
    ∙ ap (λ (v : StoreView). with_net c.args.id (with_route c.args.route) (nets_of v)) c.self.view_is

pub invariant_of-self-2 : goal.invariant_of-self-2
invariant_of-self-2 c =
    let wrote = c.get_mut.follows.holds c.add_route.new.self in
    subst (λ es. AreIndexed es c.self.inside.by_link.entries c.self.inside.users.ranges c.self.inside.apps.ranges) (sym wrote.0)
    (indexed-changed c.args.id (with_route c.args.route) (λ n. refl) c.self.inside.by_id.entries c.self.inside.by_link.entries c.self.inside.by_link.entries c.self.inside.users.ranges c.self.inside.users.ranges c.self.inside.apps.ranges c.self.inside.apps.ranges c.in-Some.network.now c.add_route.new.self c.self.invariant c.in-Some.ensures.value c.add_route.ensures.net c.add_route.ensures.same_id
    (owners-kept c.args.id (with_route c.args.route) (λ n. refl) (λ n link. refl) (λ class n r. refl) c.self.inside.by_link.entries c.self.inside.users.ranges c.self.inside.apps.ranges (nets_in c.self.inside.by_id.entries) c.self.invariant.owners))

pub returns : goal.returns
returns c =
    let wrote = c.get_mut.follows.holds c.add_route.new.self in
    ap nets_in wrote.0
    ∙ set-net c.args.id (with_route c.args.route) c.self.inside.by_id.entries c.in-Some.network.now c.add_route.new.self c.self.invariant.at_ids c.in-Some.ensures.value c.add_route.ensures.net
    ∙ ap (λ (v : StoreView). with_net c.args.id (with_route c.args.route) (nets_of v)) c.self.view_is

pub add_route-requires-clause-room : goal.add_route-requires-clause-room
add_route-requires-clause-room c =
    let room = subst (HasRoomAt c.args.id HasRouteRoom) (sym c.self.view_is) c.requires.room in
    subst (λ o. IfSome o HasRouteRoom) (whole-lookup c.args.id c.self.inside.by_id.entries c.self.invariant.at_ids ∙ sym c.in-Some.ensures.value) room

pub add_route-requires-clause-fresh : goal.add_route-requires-clause-fresh
add_route-requires-clause-fresh c =
    let fresh = subst (λ (v : StoreView). IfSome (find_id c.args.id (nets_of v)) (λ (n : Network). list_any (is_keyed_by c.args.route.link c.args.route.route) n.routes ≡ false)) (sym c.self.view_is) c.requires.fresh in
    subst (λ o. IfSome o (λ (n : Network). list_any (is_keyed_by c.args.route.link c.args.route.route) n.routes ≡ false)) (find-lookup c.args.id c.self.inside.by_id.entries c.self.invariant.at_ids ∙ ap (option_map net_of) (sym c.in-Some.ensures.value)) fresh
