use Rattle.std.proofs.Common.{◌≡◌, ◌∙◌, Some, None, sym, ap, refl}
use Rattle.std.specs.Option.{option_map}
use Rattle.networks.specs.Lists.{find_id}
use Rattle.networks.specs.declared.network.Network.{Network}
use Rattle.network_store.specs.Holders.{is_vpn, user_at, holder_at}
use Rattle.network_store.specs.Stored.{net_of}
use Rattle.network_store.specs.Store.{StoreView, nets_of, nets_in}
use Rattle.network_store.proofs.Entries.{find-lookup}
use Rattle.network_store.proofs.Holders.{kept_if, found-at, none-at, user_at-is, holder_at-is}
use Rattle.network_store.proofs.store.StoredNetworks.holder_at.Goals as goal

-- none holds the UID at this rank
pub returns-in_default : goal.returns-in_default
returns-in_default c =
    let nets = nets_in c.self.inside.by_id.entries in
    let rank = c.args.rank in
    let uid = c.args.uid.number in
    let none : user_at rank uid nets ≡ None = sym (user_at-is rank uid nets) ∙ none-at 2 rank uid c.self.inside.users.ranges nets c.owner_at.ensures.rises c.self.invariant.owners.of_users (sym c.owner_at.ensures.owner ∙ c.in_default.is) in
    sym (holder_at-is c.args.secure rank uid c.self.inside.users.ranges nets c.owner_at.ensures.rises c.self.invariant.owners.of_users c.self.invariant.keyed
    ∙ ap (kept_if (λ (n : Network). is_vpn c.args.secure n.kind)) none)
    ∙ ap (λ (v : StoreView). holder_at c.args.secure rank uid (nets_of v)) c.self.view_is

pub returns-in_default-get : goal.returns-in_default-get
returns-in_default-get c =
    let nets = nets_in c.self.inside.by_id.entries in
    let rank = c.args.rank in
    let uid = c.args.uid.number in
    let found : find_id c.in-Some.id nets ≡ user_at rank uid nets = found-at 2 rank uid c.in-Some.id c.self.inside.users.ranges nets c.owner_at.ensures.rises c.self.invariant.owners.of_users c.self.invariant.keyed (sym c.in-Some.ensures.owner) ∙ user_at-is rank uid nets in
    let none : user_at rank uid nets ≡ None = sym found ∙ find-lookup c.in-Some.id c.self.inside.by_id.entries c.self.invariant.at_ids ∙ ap (option_map net_of) (sym c.in_default-get.ensures.value) in
    sym (holder_at-is c.args.secure rank uid c.self.inside.users.ranges nets c.owner_at.ensures.rises c.self.invariant.owners.of_users c.self.invariant.keyed
    ∙ ap (kept_if (λ (n : Network). is_vpn c.args.secure n.kind)) none)
    ∙ ap (λ (v : StoreView). holder_at c.args.secure rank uid (nets_of v)) c.self.view_is

pub returns-then-not-is_vpn : goal.returns-then-not-is_vpn
returns-then-not-is_vpn c =
    let nets = nets_in c.self.inside.by_id.entries in
    let rank = c.args.rank in
    let uid = c.args.uid.number in
    let found : find_id c.in-Some.id nets ≡ user_at rank uid nets = found-at 2 rank uid c.in-Some.id c.self.inside.users.ranges nets c.owner_at.ensures.rises c.self.invariant.owners.of_users c.self.invariant.keyed (sym c.in-Some.ensures.owner) ∙ user_at-is rank uid nets in
    let is : user_at rank uid nets ≡ Some (net_of c.in-Some-get.network.now) = sym found ∙ find-lookup c.in-Some.id c.self.inside.by_id.entries c.self.invariant.at_ids ∙ ap (option_map net_of) (sym c.in-Some-get.ensures.value) in
    let other : kept_if (λ (n : Network). is_vpn c.args.secure n.kind) (Some (net_of c.in-Some-get.network.now)) ≡ None = rw (sym c.is_vpn.ensures ∙ c.if-not-is_vpn.true) refl in
    sym (holder_at-is c.args.secure rank uid c.self.inside.users.ranges nets c.owner_at.ensures.rises c.self.invariant.owners.of_users c.self.invariant.keyed
    ∙ ap (kept_if (λ (n : Network). is_vpn c.args.secure n.kind)) is ∙ other)
    ∙ ap (λ (v : StoreView). holder_at c.args.secure rank uid (nets_of v)) c.self.view_is

pub returns : goal.returns
returns c =
    let nets = nets_in c.self.inside.by_id.entries in
    let rank = c.args.rank in
    let uid = c.args.uid.number in
    let found : find_id c.in-Some.id nets ≡ user_at rank uid nets = found-at 2 rank uid c.in-Some.id c.self.inside.users.ranges nets c.owner_at.ensures.rises c.self.invariant.owners.of_users c.self.invariant.keyed (sym c.in-Some.ensures.owner) ∙ user_at-is rank uid nets in
    let is : user_at rank uid nets ≡ Some (net_of c.in-Some-get.network.now) = sym found ∙ find-lookup c.in-Some.id c.self.inside.by_id.entries c.self.invariant.at_ids ∙ ap (option_map net_of) (sym c.in-Some-get.ensures.value) in
    let same : kept_if (λ (n : Network). is_vpn c.args.secure n.kind) (Some (net_of c.in-Some-get.network.now)) ≡ Some (net_of c.in-Some-get.network.now) = rw (sym c.is_vpn.ensures ∙ c.if-not-is_vpn.false) refl in
    sym (holder_at-is c.args.secure rank uid c.self.inside.users.ranges nets c.owner_at.ensures.rises c.self.invariant.owners.of_users c.self.invariant.keyed
    ∙ ap (kept_if (λ (n : Network). is_vpn c.args.secure n.kind)) is ∙ same)
    ∙ ap (λ (v : StoreView). holder_at c.args.secure rank uid (nets_of v)) c.self.view_is
