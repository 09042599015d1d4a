use Rattle.std.proofs.Common.{◌≡◌, ◌∙◌, sym, ap}
use Rattle.std.specs.Option.{option_map}
use Rattle.list_lemmas.proofs.Found.{copied-map}
use Rattle.networks.specs.declared.network.Network.{Network}
use Rattle.network_store.specs.Holders.{user_at}
use Rattle.network_store.specs.Stored.{net_of}
use Rattle.network_store.specs.Store.{StoreView, nets_of, nets_in}
use Rattle.network_store.proofs.Entries.{find-lookup}
use Rattle.network_store.proofs.Holders.{found-at, none-at, owner-at, user_at-is, some-vpn, not-none}
use Rattle.network_store.proofs.store.StoredNetworks.vpn_of.Goals as goal

-- the network that was found has the user at the first rank
found : (c : goal.After-get) → option_map (λ n. net_of n.now) c.get.result ≡ user_at c.in-Some.ensures.first.rank c.args.uid.number (nets_in c.self.inside.by_id.entries)
found c =
    let nets = nets_in c.self.inside.by_id.entries in
    let uid = c.args.uid.number in
    let first = c.in-Some.ensures.first in
    copied-map net_of c.get.result ∙ ap (option_map net_of) c.get.ensures.value ∙ sym (find-lookup c.in-Some.id c.self.inside.by_id.entries c.self.invariant.at_ids)
    ∙ found-at 2 first.rank uid c.in-Some.id c.self.inside.users.ranges nets c.first_owner.ensures.rises c.self.invariant.owners.of_users c.self.invariant.keyed first.at ∙ user_at-is first.rank uid nets

pub returns-in-Some-clause-vpn : goal.returns-in-Some-clause-vpn
returns-in-Some-clause-vpn c =
    let nets = nets_in c.self.inside.by_id.entries in
    let uid = c.args.uid.number in
    let first = c.in-Some.ensures.first in
    let view : nets ≡ nets_of c.args.self.now = ap nets_of c.self.view_is in
    some-vpn uid first.rank (nets_of c.args.self.now) c.get.result (found c ∙ ap (user_at first.rank uid) view)
    (λ lower less. ap (user_at lower uid) (sym view) ∙ sym (user_at-is lower uid nets) ∙ none-at 2 lower uid c.self.inside.users.ranges nets c.first_owner.ensures.rises c.self.invariant.owners.of_users (first.lowest lower less))

pub returns-in-Some-clause-none : goal.returns-in-Some-clause-none
returns-in-Some-clause-none c =
    let nets = nets_in c.self.inside.by_id.entries in
    let uid = c.args.uid.number in
    let first = c.in-Some.ensures.first in
    not-none uid first.rank nets c.get.result (found c) c.in-Some.id
    (ap (option_map (λ (n : Network). n.id)) (sym (user_at-is first.rank uid nets)) ∙ owner-at 2 first.rank uid c.self.inside.users.ranges nets c.first_owner.ensures.rises c.self.invariant.owners.of_users ∙ first.at) _

pub returns-in-None-clause-none : goal.returns-in-None-clause-none
returns-in-None-clause-none c =
    let nets = nets_in c.self.inside.by_id.entries in
    let uid = c.args.uid.number in
    λ rank.
    ap (λ (v : StoreView). user_at rank uid (nets_of v)) (sym c.self.view_is) ∙ sym (user_at-is rank uid nets)
    ∙ none-at 2 rank uid c.self.inside.users.ranges nets c.first_owner.ensures.rises c.self.invariant.owners.of_users (c.in-None.ensures.none rank)
