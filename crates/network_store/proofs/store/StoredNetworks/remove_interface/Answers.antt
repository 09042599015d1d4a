use Rattle.std.proofs.Common.{◌≡◌, ◌∙◌, ℕ, Some, nat_eq, sym, ap, subst, refl}
use Rattle.network_store.specs.Stored.{net_of, without_link}
use Rattle.network_store.specs.Store.{StoreView, nets_of, nets_in, with_net, has_range, AreIndexed}
use Rattle.network_store.proofs.Entries.{none-net, set-net, indexed-changed, find-lookup}
use Rattle.network_store.proofs.Owners.{owners-less, owners-same, owner-found}
use Rattle.network_store.proofs.Links.{has-without, one-owner}
use Rattle.networks.specs.Lists.{find_link}
use Rattle.networks.specs.Network.{has_link}
use Rattle.std.specs.Map.{lookup}
use Rattle.std.specs.Option.{option_map}
use Rattle.networks.specs.declared.network.Network.{Network}
use Rattle.network_store.proofs.store.StoredNetworks.remove_interface.Goals as goal

pub returns-in_default : goal.returns-in_default
returns-in_default c =
    ap (λ m. nets_in m.entries) c.get_mut.follows.holds-at-none
    ∙ none-net c.args.id (without_link c.args.link) c.self.inside.by_id.entries c.self.invariant.at_ids (sym c.in_default.ensures.value)
    ∙ ap (λ (v : StoreView). with_net c.args.id (without_link c.args.link) (nets_of v)) c.self.view_is

pub invariant_of-self-2 : goal.invariant_of-self-2
invariant_of-self-2 c =
    let wrote = c.get_mut.follows.holds c.remove_interface.new.self in
    let owner = subst (λ (v : StoreView). option_map (λ (n : Network). n.id) (find_link c.args.link (nets_of v)) ≡ Some c.args.id) (sym c.self.view_is) c.requires in
    let es = c.self.inside.by_id.entries in
    let look = λ (q : ℕ). lookup (nat_eq q) c.self.inside.by_link.entries in
    let found = find-lookup c.args.id es c.self.invariant.at_ids ∙ ap (option_map net_of) (sym c.in-Some.ensures.value) in
    subst (λ es. AreIndexed es c.swap_remove.new.self.entries c.self.inside.users.ranges c.self.inside.apps.ranges) (sym wrote.0)
    (indexed-changed c.args.id (without_link c.args.link) (λ n. refl) es c.self.inside.by_link.entries c.swap_remove.new.self.entries c.self.inside.users.ranges c.self.inside.users.ranges c.self.inside.apps.ranges c.self.inside.apps.ranges c.in-Some.network.now c.remove_interface.new.self c.self.invariant c.in-Some.ensures.value c.remove_interface.ensures.net c.remove_interface.ensures.same_id
    (record {
      of_link = owners-less has_link c.args.id (λ q. nat_eq c.args.link q) look (λ q. lookup (nat_eq q) c.swap_remove.new.self.entries) c.swap_remove.ensures.updates.0
          (one-owner c.args.link c.args.id look (sym (owner-found has_link look (nets_in es) c.self.invariant.owners.of_link c.args.link) ∙ owner))
          (without_link c.args.link) (λ n. refl) (net_of c.in-Some.network.now) (has-without c.args.link (net_of c.in-Some.network.now)) (nets_in es) found c.self.invariant.keyed c.self.invariant.owners.of_link;
      of_users = owners-same (has_range 2) c.args.id (without_link c.args.link) (λ n. refl) (λ n r. refl) _ (nets_in es) c.self.invariant.owners.of_users;
      of_apps = owners-same (has_range 1) c.args.id (without_link c.args.link) (λ n. refl) (λ n r. refl) _ (nets_in es) c.self.invariant.owners.of_apps;
    }))

pub returns : goal.returns
returns c =
    let wrote = c.get_mut.follows.holds c.remove_interface.new.self in
    ap nets_in wrote.0
    ∙ set-net c.args.id (without_link c.args.link) c.self.inside.by_id.entries c.in-Some.network.now c.remove_interface.new.self c.self.invariant.at_ids c.in-Some.ensures.value c.remove_interface.ensures.net
    ∙ ap (λ (v : StoreView). with_net c.args.id (without_link c.args.link) (nets_of v)) c.self.view_is
