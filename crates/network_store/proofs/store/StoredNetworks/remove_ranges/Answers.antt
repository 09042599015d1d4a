use Rattle.std.proofs.Common.{◌∙◌, sym, ap, subst, refl}
use Rattle.network_store.specs.Stored.{net_of, without_ranges}
use Rattle.network_store.specs.Store.{StoreView, nets_of, nets_in, with_net, AreIndexed}
use Rattle.network_store.proofs.Entries.{none-net, set-net, indexed-changed, find-lookup}
use Rattle.network_store.proofs.Kinships.{leave-less}
use Rattle.network_store.proofs.Owners.{owners-same}
use Rattle.std.specs.Option.{option_map}
use Rattle.networks.specs.Network.{has_link}
use Rattle.network_store.proofs.store.StoredNetworks.remove_ranges.Goals as goal

pub returns-in_default : goal.returns-in_default
returns-in_default c =
    ap (λ m. nets_in m.entries) c.get_mut.follows.holds-at-none
    ∙ none-net c.args.id (without_ranges c.args.gone.now) c.self.inside.by_id.entries c.self.invariant.at_ids (sym c.in_default.ensures.value)
    ∙ ap (λ (v : StoreView). with_net c.args.id (without_ranges c.args.gone.now) (nets_of v)) c.self.view_is

pub invariant_of-self-2 : goal.invariant_of-self-2
invariant_of-self-2 c =
    let wrote = c.get_mut.follows.holds c.remove_ranges.new.self in
    let es = c.self.inside.by_id.entries in
    let links = c.self.inside.by_link.entries in
    let n = net_of c.in-Some.network.now in
    let found = find-lookup c.args.id es c.self.invariant.at_ids ∙ ap (option_map net_of) (sym c.in-Some.ensures.value) in
    subst (λ es. AreIndexed es links c.leave.new.users.ranges c.leave.new.apps.ranges) (sym wrote.0)
    (indexed-changed c.args.id (without_ranges c.args.gone.now) (λ n. refl) es links links c.self.inside.users.ranges c.leave.new.users.ranges c.self.inside.apps.ranges c.leave.new.apps.ranges c.in-Some.network.now c.remove_ranges.new.self c.self.invariant c.in-Some.ensures.value c.remove_ranges.ensures.net c.remove_ranges.ensures.same_id
    (record {
      of_link = owners-same has_link c.args.id (without_ranges c.args.gone.now) (λ n. refl) (λ n link. refl) _ (nets_in es) c.self.invariant.owners.of_link;
      of_users = leave-less 2 c.args.id c.args.gone.now n (nets_in es) c.self.inside.users.ranges c.leave.new.users.ranges found c.leave.ensures.users c.self.invariant.keyed c.self.invariant.owners.of_users;
      of_apps = leave-less 1 c.args.id c.args.gone.now n (nets_in es) c.self.inside.apps.ranges c.leave.new.apps.ranges found c.leave.ensures.apps c.self.invariant.keyed c.self.invariant.owners.of_apps;
    }))

pub returns : goal.returns
returns c =
    let wrote = c.get_mut.follows.holds c.remove_ranges.new.self in
    ap nets_in wrote.0
    ∙ set-net c.args.id (without_ranges c.args.gone.now) c.self.inside.by_id.entries c.in-Some.network.now c.remove_ranges.new.self c.self.invariant.at_ids c.in-Some.ensures.value c.remove_ranges.ensures.net
    ∙ ap (λ (v : StoreView). with_net c.args.id (without_ranges c.args.gone.now) (nets_of v)) c.self.view_is
