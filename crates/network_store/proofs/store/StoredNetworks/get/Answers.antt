use Rattle.std.proofs.Common.{◌∙◌, sym, ap}
use Rattle.std.specs.Option.{option_map}
use Rattle.list_lemmas.proofs.Found.{copied-map}
use Rattle.networks.specs.Lists.{find_id}
use Rattle.network_store.specs.Stored.{net_of}
use Rattle.network_store.specs.Store.{StoreView, nets_of}
use Rattle.network_store.proofs.Entries.{find-lookup}
use Rattle.network_store.proofs.store.StoredNetworks.get.Goals as goal

pub returns : goal.returns
returns c =
    copied-map net_of c.get.result ∙ ap (option_map net_of) c.get.ensures.value ∙ sym (find-lookup c.args.id c.self.inside.by_id.entries c.self.invariant.at_ids)
    ∙ ap (λ (v : StoreView). find_id c.args.id (nets_of v)) c.self.view_is
