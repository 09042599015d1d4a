use Rattle.std.proofs.Common.{◌≡◌, ◌∙◌, false, Some, None, sym, ap, subst}
use Rattle.std.specs.Option.{option_map, IfSome}
use Rattle.std.proofs.lemmas.Option.{none-some}
use Rattle.networks.specs.Lists.{find_id}
use Rattle.networks.specs.declared.network.Network.{Network}
use Rattle.network_store.specs.Kin.{kin_meet}
use Rattle.network_store.specs.Stored.{net_of, kind_of}
use Rattle.network_store.specs.Store.{StoreView, nets_of, nets_in}
use Rattle.network_store.proofs.Entries.{find-lookup}
use Rattle.network_store.proofs.Kinships.{kin-class}
use Rattle.network_store.proofs.store.StoredNetworks.kin_meet.Goals as goal

pub returns-in_default-clause-known : goal.returns-in_default-clause-known
returns-in_default-clause-known c =
    let none : find_id c.args.id (nets_of c.args.self.now) ≡ None =
    ap (λ (v : StoreView). find_id c.args.id (nets_of v)) (sym c.self.view_is) ∙ find-lookup c.args.id c.self.inside.by_id.entries c.self.invariant.at_ids ∙ ap (option_map net_of) (sym c.in_default.ensures.value) in
    subst (λ o. IfSome o (λ (n : Network). false ≡ kin_meet c.args.rank c.args.more.now n (nets_of c.args.self.now))) (sym none) tt

pub returns-clause-known : goal.returns-clause-known
returns-clause-known c =
    let nets = nets_in c.self.inside.by_id.entries in
    let n = net_of c.in-Some.network.now in
    let found : find_id c.args.id (nets_of c.args.self.now) ≡ Some n =
    ap (λ (v : StoreView). find_id c.args.id (nets_of v)) (sym c.self.view_is) ∙ find-lookup c.args.id c.self.inside.by_id.entries c.self.invariant.at_ids ∙ ap (option_map net_of) (sym c.in-Some.ensures.value) in
    let kin : c.meets_kin.result ≡ kin_meet c.args.rank c.args.more.now n nets =
    kin-class c.args.rank c.args.more.now c.self.inside.users.ranges c.self.inside.apps.ranges nets (kind_of c.in-Some.network.now.kind) c.meets_kin.result c.meets_kin.ensures.local c.meets_kin.ensures.apps c.meets_kin.ensures.users
    c.self.invariant.owners.of_users c.self.invariant.owners.of_apps in
    subst (λ o. IfSome o (λ (m : Network). c.meets_kin.result ≡ kin_meet c.args.rank c.args.more.now m (nets_of c.args.self.now))) (sym found) (kin ∙ ap (λ (v : StoreView). kin_meet c.args.rank c.args.more.now n (nets_of v)) c.self.view_is)

pub returns-clause-unknown : goal.returns-clause-unknown
returns-clause-unknown c =
    λ none.
    absurd (none-some (net_of c.in-Some.network.now) (sym none ∙ ap (λ (v : StoreView). find_id c.args.id (nets_of v)) (sym c.self.view_is)
    ∙ find-lookup c.args.id c.self.inside.by_id.entries c.self.invariant.at_ids ∙ ap (option_map net_of) (sym c.in-Some.ensures.value)))
