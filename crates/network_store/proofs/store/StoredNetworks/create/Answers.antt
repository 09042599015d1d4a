use Rattle.std.proofs.Common.{◌≡◌, ◌∙◌, ◌<◌, ◌++◌, ◌∷◌, [], sym, ap, subst, nat_eq, None}
use Rattle.indexmap.proofs.CallerLemmas.{insert_entry-new}
use Rattle.list_lemmas.proofs.Found.{on-ok}
use Rattle.networks.specs.Lists.{find_id}
use Rattle.networks.specs.declared.network.Network.{Network}
use Rattle.network_store.specs.Stored.{net_of, kind_of, bare_net}
use Rattle.network_store.specs.Store.{StoreView, nets_of, nets_in, AreIndexed}
use Rattle.network_store.proofs.Entries.{absent-lookup, indexed-push, push-nets}
use Rattle.networks.specs.Kinds.{ranges_of}
use Rattle.network_store.proofs.Kinships.{owners-come}
use Rattle.network_store.proofs.store.StoredNetworks.create.Goals as goal

pub invariant_of-self : goal.invariant_of-self
invariant_of-self c =
    let es = c.self.inside.by_id.entries in
    let room = subst (λ (v : StoreView). 0 < v.more) (sym c.self.view_is) c.requires.room in
    let fresh = subst (λ (v : StoreView). find_id c.args.id (nets_of v) ≡ None) (sym c.self.view_is) c.requires.fresh in
    let absent = absent-lookup c.args.id es c.self.invariant.at_ids fresh in
    let put = on-ok c.insert.result _ (c.insert.ensures.succeeds room) c.insert.ensures.entries ∙ insert_entry-new nat_eq c.self.inside.by_id c.args.id c.new-network.result absent in
    subst (λ es. AreIndexed es c.self.inside.by_link.entries c.self.inside.users.ranges c.self.inside.apps.ranges) (sym put)
    (indexed-push c.args.id es c.self.inside.by_link.entries c.self.inside.users.ranges c.self.inside.apps.ranges c.new-network.result c.self.invariant c.new-network.ensures.id fresh
    (owners-come c.self.inside.by_link.entries c.self.inside.users.ranges c.self.inside.apps.ranges (nets_in es) (net_of c.new-network.result) (ap (λ (n : Network). n.interfaces) c.new-network.ensures.net) (ap (λ (n : Network). ranges_of n.kind) c.new-network.ensures.net ∙ c.requires.bare) c.self.invariant.owners))

pub returns : goal.returns
returns c =
    let es = c.self.inside.by_id.entries in
    let room = subst (λ (v : StoreView). 0 < v.more) (sym c.self.view_is) c.requires.room in
    let fresh = subst (λ (v : StoreView). find_id c.args.id (nets_of v) ≡ None) (sym c.self.view_is) c.requires.fresh in
    let absent = absent-lookup c.args.id es c.self.invariant.at_ids fresh in
    let put = on-ok c.insert.result _ (c.insert.ensures.succeeds room) c.insert.ensures.entries ∙ insert_entry-new nat_eq c.self.inside.by_id c.args.id c.new-network.result absent in
    ap nets_in put ∙ push-nets c.args.id es c.new-network.result ∙ ap (λ n. nets_in es ++ n ∷ []) c.new-network.ensures.net
    ∙ ap (λ (v : StoreView). nets_of v ++ bare_net c.args.id (kind_of c.args.kind) ∷ []) c.self.view_is
