use Rattle.std.proofs.Common.{◌∙◌, sym, ap, slice_get}
use Rattle.std.specs.Option.{option_map}
use Rattle.network_store.specs.Stored.{net_of}
use Rattle.network_store.specs.Store.{StoreView, nets_of}
use Rattle.network_store.proofs.Entries.{Entry, at-place}
use Rattle.network_store.proofs.store.StoredNetworks.at.Goals as goal

pub returns-in-Some : goal.returns-in-Some
returns-in-Some c =
    ap (option_map (λ (e : Entry). net_of e.1)) c.in-Some.ensures.entry ∙ sym (at-place c.self.inside.by_id.entries c.args.place)
    ∙ ap (λ (v : StoreView). slice_get (nets_of v) c.args.place) c.self.view_is

pub returns-in-None : goal.returns-in-None
returns-in-None c =
    ap (option_map (λ (e : Entry). net_of e.1)) c.in-None.ensures.entry ∙ sym (at-place c.self.inside.by_id.entries c.args.place)
    ∙ ap (λ (v : StoreView). slice_get (nets_of v) c.args.place) c.self.view_is
