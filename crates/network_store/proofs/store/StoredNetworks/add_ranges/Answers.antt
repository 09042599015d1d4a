use Rattle.std.proofs.Common.{◌≡◌, ◌∙◌, length, false, sym, ap, subst, refl}
use Rattle.network_store.specs.Stored.{net_of, with_ranges, HasRangeRoom}
use Rattle.network_store.specs.Store.{StoreView, nets_of, nets_in, with_net, AreIndexed, HasRangesRoom}
use Rattle.network_store.proofs.Entries.{none-net, set-net, indexed-changed, find-lookup, whole-lookup}
use Rattle.network_store.proofs.Kinships.{enter-more, index-apart}
use Rattle.network_store.proofs.Owners.{owners-same}
use Rattle.network_store.specs.Kin.{kin_meet}
use Rattle.networks.specs.Lists.{find_id}
use Rattle.networks.specs.Network.{has_link}
use Rattle.networks.specs.Kinds.{ranges_of}
use Rattle.uid_ranges.specs.Ranks.{users_meet}
use Rattle.std.specs.Option.{option_map, IfSome}
use Rattle.networks.specs.declared.network.Network.{Network}
use Rattle.network_store.proofs.store.StoredNetworks.add_ranges.Goals as goal

pub returns-in_default : goal.returns-in_default
returns-in_default c =
    ap (λ m. nets_in m.entries) c.get_mut.follows.holds-at-none
    ∙ none-net c.args.id (with_ranges c.args.rank c.args.more.now) c.self.inside.by_id.entries c.self.invariant.at_ids (sym c.in_default.ensures.value)
    ∙ ap (λ (v : StoreView). with_net c.args.id (with_ranges c.args.rank c.args.more.now) (nets_of v)) c.self.view_is

pub enter-requires-clause-users_apart : goal.enter-requires-clause-users_apart
enter-requires-clause-users_apart c =
    let es = c.self.inside.by_id.entries in
    let kin = subst (λ (v : StoreView). IfSome (find_id c.args.id (nets_of v)) (λ (n : Network). kin_meet c.args.rank c.args.more.now n (nets_of v) ≡ false)) (sym c.self.view_is) c.requires.ranks_apart in
    let found = find-lookup c.args.id es c.self.invariant.at_ids ∙ ap (option_map net_of) (sym c.in-Some.ensures.value) in
    let none = subst (λ o. IfSome o (λ (n : Network). kin_meet c.args.rank c.args.more.now n (nets_in es) ≡ false)) found kin in
    λ same. index-apart 2 c.args.rank c.args.more.now (net_of c.in-Some.network.now) (nets_in es) c.self.inside.users.ranges same none c.self.invariant.owners.of_users

pub enter-requires-clause-apps_apart : goal.enter-requires-clause-apps_apart
enter-requires-clause-apps_apart c =
    let es = c.self.inside.by_id.entries in
    let kin = subst (λ (v : StoreView). IfSome (find_id c.args.id (nets_of v)) (λ (n : Network). kin_meet c.args.rank c.args.more.now n (nets_of v) ≡ false)) (sym c.self.view_is) c.requires.ranks_apart in
    let found = find-lookup c.args.id es c.self.invariant.at_ids ∙ ap (option_map net_of) (sym c.in-Some.ensures.value) in
    let none = subst (λ o. IfSome o (λ (n : Network). kin_meet c.args.rank c.args.more.now n (nets_in es) ≡ false)) found kin in
    λ same. index-apart 1 c.args.rank c.args.more.now (net_of c.in-Some.network.now) (nets_in es) c.self.inside.apps.ranges same none c.self.invariant.owners.of_apps

pub invariant_of-self-2 : goal.invariant_of-self-2
invariant_of-self-2 c =
    let wrote = c.get_mut.follows.holds c.add_ranges.new.self in
    let es = c.self.inside.by_id.entries in
    let links = c.self.inside.by_link.entries in
    let n = net_of c.in-Some.network.now in
    let change = with_ranges c.args.rank c.args.more.now in
    let kin = subst (λ (v : StoreView). IfSome (find_id c.args.id (nets_of v)) (λ (n : Network). kin_meet c.args.rank c.args.more.now n (nets_of v) ≡ false)) (sym c.self.view_is) c.requires.ranks_apart in
    let found = find-lookup c.args.id es c.self.invariant.at_ids ∙ ap (option_map net_of) (sym c.in-Some.ensures.value) in
    let none = subst (λ o. IfSome o (λ (n : Network). kin_meet c.args.rank c.args.more.now n (nets_in es) ≡ false)) found kin in
    subst (λ es. AreIndexed es links c.enter.new.users.ranges c.enter.new.apps.ranges) (sym wrote.0)
    (indexed-changed c.args.id change (λ n. refl) es links links c.self.inside.users.ranges c.enter.new.users.ranges c.self.inside.apps.ranges c.enter.new.apps.ranges c.in-Some.network.now c.add_ranges.new.self c.self.invariant c.in-Some.ensures.value c.add_ranges.ensures.net c.add_ranges.ensures.same_id
    (record {
      of_link = owners-same has_link c.args.id change (λ n. refl) (λ n link. refl) _ (nets_in es) c.self.invariant.owners.of_link;
      of_users = enter-more 2 c.args.id c.args.rank c.args.more.now n (nets_in es) c.self.inside.users.ranges c.enter.new.users.ranges refl found none c.enter.ensures.users c.self.invariant.owners.of_users;
      of_apps = enter-more 1 c.args.id c.args.rank c.args.more.now n (nets_in es) c.self.inside.apps.ranges c.enter.new.apps.ranges refl found none c.enter.ensures.apps c.self.invariant.owners.of_apps;
    }))

pub returns : goal.returns
returns c =
    let wrote = c.get_mut.follows.holds c.add_ranges.new.self in
    ap nets_in wrote.0
    ∙ set-net c.args.id (with_ranges c.args.rank c.args.more.now) c.self.inside.by_id.entries c.in-Some.network.now c.add_ranges.new.self c.self.invariant.at_ids c.in-Some.ensures.value c.add_ranges.ensures.net
    ∙ ap (λ (v : StoreView). with_net c.args.id (with_ranges c.args.rank c.args.more.now) (nets_of v)) c.self.view_is

pub add_ranges-requires-clause-room : goal.add_ranges-requires-clause-room
add_ranges-requires-clause-room c =
    let room = subst (HasRangesRoom c.args.id (length c.args.more.now)) (sym c.self.view_is) c.requires.room in
    subst (λ o. IfSome o (HasRangeRoom (length c.args.more.now))) (whole-lookup c.args.id c.self.inside.by_id.entries c.self.invariant.at_ids ∙ sym c.in-Some.ensures.value) room.0

pub add_ranges-requires-clause-apart : goal.add_ranges-requires-clause-apart
add_ranges-requires-clause-apart c =
    let fresh = subst (λ (v : StoreView). IfSome (find_id c.args.id (nets_of v)) (λ (n : Network). users_meet (ranges_of n.kind) c.args.more.now ≡ false)) (sym c.self.view_is) c.requires.apart in
    subst (λ o. IfSome o (λ (n : Network). users_meet (ranges_of n.kind) c.args.more.now ≡ false)) (find-lookup c.args.id c.self.inside.by_id.entries c.self.invariant.at_ids ∙ ap (option_map net_of) (sym c.in-Some.ensures.value)) fresh
