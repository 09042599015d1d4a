use Rattle.std.proofs.Common.{◌∙◌, sym, ap}
use Rattle.std.specs.Option.{option_map}
use Rattle.list_lemmas.proofs.Found.{copied-map}
use Rattle.network_store.specs.Holders.{preferred_at}
use Rattle.network_store.specs.Stored.{net_of}
use Rattle.network_store.specs.Store.{StoreView, nets_of, nets_in}
use Rattle.network_store.proofs.Entries.{find-lookup}
use Rattle.network_store.proofs.Holders.{found-at, none-at, preferred_at-is}
use Rattle.network_store.proofs.store.StoredNetworks.preferred_at.Goals as goal

pub returns-in-Some : goal.returns-in-Some
returns-in-Some c =
    let nets = nets_in c.self.inside.by_id.entries in
    copied-map net_of c.get.result ∙ ap (option_map net_of) c.get.ensures.value ∙ sym (find-lookup c.in-Some.id c.self.inside.by_id.entries c.self.invariant.at_ids)
    ∙ found-at 1 c.args.rank c.args.uid.number c.in-Some.id c.self.inside.apps.ranges nets c.owner_at.ensures.rises c.self.invariant.owners.of_apps c.self.invariant.keyed (sym c.in-Some.ensures.owner)
    ∙ preferred_at-is c.args.rank c.args.uid.number nets ∙ ap (λ (v : StoreView). preferred_at c.args.rank c.args.uid.number (nets_of v)) c.self.view_is

pub returns-in-None : goal.returns-in-None
returns-in-None c =
    let nets = nets_in c.self.inside.by_id.entries in
    sym (none-at 1 c.args.rank c.args.uid.number c.self.inside.apps.ranges nets c.owner_at.ensures.rises c.self.invariant.owners.of_apps (sym c.in-None.ensures.owner))
    ∙ preferred_at-is c.args.rank c.args.uid.number nets ∙ ap (λ (v : StoreView). preferred_at c.args.rank c.args.uid.number (nets_of v)) c.self.view_is
