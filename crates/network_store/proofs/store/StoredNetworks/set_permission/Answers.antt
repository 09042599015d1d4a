use Rattle.std.proofs.Common.{◌∙◌, sym, ap, subst, refl}
use Rattle.network_store.specs.Stored.{with_permission}
use Rattle.network_store.specs.Store.{StoreView, nets_of, nets_in, with_net, AreIndexed}
use Rattle.network_store.proofs.Entries.{none-net, set-net, indexed-changed}
use Rattle.network_store.proofs.Kinships.{owners-kept, has_range-needing}
use Rattle.network_store.proofs.store.StoredNetworks.set_permission.Goals as goal

pub returns-in_default : goal.returns-in_default
returns-in_default c =
    ap (λ m. nets_in m.entries) c.get_mut.follows.holds-at-none
    ∙ none-net c.args.id (with_permission c.args.permission) c.self.inside.by_id.entries c.self.invariant.at_ids (sym c.in_default.ensures.value)
    ∙ ap (λ (v : StoreView). with_net c.args.id (with_permission c.args.permission) (nets_of v)) c.self.view_is

pub invariant_of-self-2 : goal.invariant_of-self-2
invariant_of-self-2 c =
    let wrote = c.get_mut.follows.holds c.set_permission.new.self in
    subst (λ es. AreIndexed es c.self.inside.by_link.entries c.self.inside.users.ranges c.self.inside.apps.ranges) (sym wrote.0)
    (indexed-changed c.args.id (with_permission c.args.permission) (λ n. refl) c.self.inside.by_id.entries c.self.inside.by_link.entries c.self.inside.by_link.entries c.self.inside.users.ranges c.self.inside.users.ranges c.self.inside.apps.ranges c.self.inside.apps.ranges c.in-Some.network.now c.set_permission.new.self c.self.invariant c.in-Some.ensures.value c.set_permission.ensures.net c.set_permission.ensures.same_id
    (owners-kept c.args.id (with_permission c.args.permission) (λ n. refl) (λ n link. refl) (has_range-needing c.args.permission) c.self.inside.by_link.entries c.self.inside.users.ranges c.self.inside.apps.ranges (nets_in c.self.inside.by_id.entries) c.self.invariant.owners))

pub returns : goal.returns
returns c =
    let wrote = c.get_mut.follows.holds c.set_permission.new.self in
    ap nets_in wrote.0
    ∙ set-net c.args.id (with_permission c.args.permission) c.self.inside.by_id.entries c.in-Some.network.now c.set_permission.new.self c.self.invariant.at_ids c.in-Some.ensures.value c.set_permission.ensures.net
    ∙ ap (λ (v : StoreView). with_net c.args.id (with_permission c.args.permission) (nets_of v)) c.self.view_is
