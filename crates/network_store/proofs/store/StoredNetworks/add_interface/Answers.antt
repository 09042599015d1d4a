use Rattle.std.proofs.Common.{◌≡◌, ◌<◌, ◌∙◌, None, length, nat_eq, sym, ap, subst, refl}
use Rattle.network_store.specs.Stored.{net_of, with_link}
use Rattle.network_store.specs.Store.{StoreView, nets_of, nets_in, with_net, has_range, AreIndexed}
use Rattle.network_store.proofs.Entries.{none-net, set-net, indexed-changed, find-lookup}
use Rattle.network_store.proofs.Owners.{owners-more, owners-same}
use Rattle.network_store.proofs.Links.{has-with, none-linked}
use Rattle.list_lemmas.proofs.Found.{on-ok}
use Rattle.networks.specs.Lists.{find_id, find_link}
use Rattle.networks.specs.Network.{has_link}
use Rattle.std.specs.Map.{lookup}
use Rattle.std.specs.Option.{option_map, IfSome}
use Rattle.networks.specs.declared.network.Network.{Network}
use Rattle.network_store.proofs.store.StoredNetworks.add_interface.Goals as goal

pub returns-in_default : goal.returns-in_default
returns-in_default c =
    ap (λ m. nets_in m.entries) c.get_mut.follows.holds-at-none
    ∙ none-net c.args.id (with_link c.args.link) c.self.inside.by_id.entries c.self.invariant.at_ids (sym c.in_default.ensures.value)
    ∙ ap (λ (v : StoreView). with_net c.args.id (with_link c.args.link) (nets_of v)) c.self.view_is

pub add_interface-requires : goal.add_interface-requires
add_interface-requires c =
    let few = subst (λ (v : StoreView). IfSome (find_id c.args.id (nets_of v)) (λ (n : Network). length n.interfaces < 8)) (sym c.self.view_is) c.requires.few in
    subst (λ o. IfSome o (λ (n : Network). length n.interfaces < 8)) (find-lookup c.args.id c.self.inside.by_id.entries c.self.invariant.at_ids ∙ ap (option_map net_of) (sym c.in-Some.ensures.value)) few

pub invariant_of-self-2 : goal.invariant_of-self-2
invariant_of-self-2 c =
    let wrote = c.get_mut.follows.holds c.add_interface.new.self in
    let room = subst (λ (v : StoreView). 0 < v.more_links) (sym c.self.view_is) c.requires.room in
    let put = on-ok c.insert.result _ (c.insert.ensures.succeeds room) c.insert.ensures.updates in
    let fresh = subst (λ (v : StoreView). find_link c.args.link (nets_of v) ≡ None) (sym c.self.view_is) c.requires.fresh in
    let es = c.self.inside.by_id.entries in
    let found = find-lookup c.args.id es c.self.invariant.at_ids ∙ ap (option_map net_of) (sym c.in-Some.ensures.value) in
    subst (λ es. AreIndexed es c.insert.new.self.entries c.self.inside.users.ranges c.self.inside.apps.ranges) (sym wrote.0)
    (indexed-changed c.args.id (with_link c.args.link) (λ n. refl) es c.self.inside.by_link.entries c.insert.new.self.entries c.self.inside.users.ranges c.self.inside.users.ranges c.self.inside.apps.ranges c.self.inside.apps.ranges c.in-Some.network.now c.add_interface.new.self c.self.invariant c.in-Some.ensures.value c.add_interface.ensures.net c.add_interface.ensures.same_id
    (record {
      of_link = owners-more has_link c.args.id (with_link c.args.link) (λ n. refl) (net_of c.in-Some.network.now) (λ q. nat_eq c.args.link q) (has-with c.args.link (net_of c.in-Some.network.now)) (λ q. lookup (nat_eq q) c.self.inside.by_link.entries) (λ q. lookup (nat_eq q) c.insert.new.self.entries) put.0
          (nets_in es) found (none-linked c.args.link (nets_in es) fresh) c.self.invariant.owners.of_link;
      of_users = owners-same (has_range 2) c.args.id (with_link c.args.link) (λ n. refl) (λ n r. refl) _ (nets_in es) c.self.invariant.owners.of_users;
      of_apps = owners-same (has_range 1) c.args.id (with_link c.args.link) (λ n. refl) (λ n r. refl) _ (nets_in es) c.self.invariant.owners.of_apps;
    }))

pub returns : goal.returns
returns c =
    let wrote = c.get_mut.follows.holds c.add_interface.new.self in
    ap nets_in wrote.0
    ∙ set-net c.args.id (with_link c.args.link) c.self.inside.by_id.entries c.in-Some.network.now c.add_interface.new.self c.self.invariant.at_ids c.in-Some.ensures.value c.add_interface.ensures.net
    ∙ ap (λ (v : StoreView). with_net c.args.id (with_link c.args.link) (nets_of v)) c.self.view_is
