use Rattle.std.proofs.Common.{◌≡◌, ◌==◌, ◌∙◌, ℕ, Some, sym, ap, subst, nat_eq}
use Rattle.std.specs.List.{list_any}
use Rattle.std.specs.Map.{lookup}
use Rattle.std.specs.Option.{option_map}
use Rattle.networks.specs.Lists.{find_id, drop_net}
use Rattle.networks.specs.Network.{has_link}
use Rattle.network_store.specs.Stored.{net_of}
use Rattle.network_store.specs.Store.{StoreView, nets_of, nets_in, AreIndexed}
use Rattle.network_store.proofs.Entries.{find-lookup, drop-nets, indexed-drop}
use Rattle.network_store.proofs.Owners.{owners-drop, mine-all}
use Rattle.network_store.proofs.Kinships.{owners-gone}
use Rattle.network_store.proofs.store.StoredNetworks.destroy.Goals as goal

pub returns-in_default : goal.returns-in_default
returns-in_default c =
    ap nets_in c.shift_remove.ensures.entries ∙ drop-nets c.args.id c.self.inside.by_id.entries c.self.invariant.at_ids
    ∙ ap (λ (v : StoreView). drop_net c.args.id (nets_of v)) c.self.view_is

pub invariant_of-self-2 : goal.invariant_of-self-2
invariant_of-self-2 c =
    let es = c.self.inside.by_id.entries in
    let n = net_of c.in-Some.network in
    let look = λ (q : ℕ). lookup (nat_eq q) c.self.inside.by_link.entries in
    let found : find_id c.args.id (nets_in es) ≡ Some n = find-lookup c.args.id es c.self.invariant.at_ids ∙ ap (option_map net_of) (sym c.in-Some.ensures.value) in
    let all : (q : ℕ) → list_any (λ link. link == q) c.as_slice.result.now ≡ has_link n q = λ q. ap (list_any (λ link. link == q)) c.as_slice.ensures.value in
    subst (λ es. AreIndexed es c.forget_links.new.by_link.entries c.leave_all.new.users.ranges c.leave_all.new.apps.ranges) (sym c.shift_remove.ensures.entries)
    (indexed-drop c.args.id es c.self.inside.by_link.entries c.forget_links.new.by_link.entries c.self.inside.users.ranges c.leave_all.new.users.ranges c.self.inside.apps.ranges c.leave_all.new.apps.ranges c.self.invariant
    (record {
      of_link = owners-drop has_link c.args.id (λ q. list_any (λ link. link == q) c.as_slice.result.now) look (λ q. lookup (nat_eq q) c.forget_links.new.by_link.entries) c.forget_links.ensures
          (mine-all has_link look c.args.id (nets_in es) n c.self.invariant.owners.of_link found (λ q. list_any (λ link. link == q) c.as_slice.result.now) all)
          n (nets_in es) found all c.self.invariant.keyed c.self.invariant.owners.of_link;
      of_users = owners-gone 2 c.args.id n (nets_in es) c.self.inside.users.ranges c.leave_all.new.users.ranges found c.leave_all.ensures.users c.self.invariant.keyed c.self.invariant.owners.of_users;
      of_apps = owners-gone 1 c.args.id n (nets_in es) c.self.inside.apps.ranges c.leave_all.new.apps.ranges found c.leave_all.ensures.apps c.self.invariant.keyed c.self.invariant.owners.of_apps;
    }))

pub returns : goal.returns
returns c =
    ap nets_in c.shift_remove.ensures.entries ∙ drop-nets c.args.id c.self.inside.by_id.entries c.self.invariant.at_ids
    ∙ ap (λ (v : StoreView). drop_net c.args.id (nets_of v)) c.self.view_is
