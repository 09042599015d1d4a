use Rattle.std.proofs.Common.{◌≡◌, ◌∙◌, sym, ap, None, Some, Option, refl}
use Rattle.std.specs.Option.{option_map}
use Rattle.std.proofs.lemmas.Option.{none-some}
use Rattle.list_lemmas.proofs.Found.{copied-map}
use Rattle.networks.specs.Lists.{find_link}
use Rattle.networks.specs.Network.{has_link}
use Rattle.networks.specs.declared.network.Network.{Network}
use Rattle.network_store.specs.Stored.{net_of}
use Rattle.network_store.specs.Store.{StoreView, nets_of, nets_in}
use Rattle.network_store.proofs.Entries.{find-lookup}
use Rattle.network_store.proofs.Owners.{owner-found, found-by-id}
use Rattle.network_store.proofs.store.StoredNetworks.network_of.Goals as goal

pub returns-in-Some : goal.returns-in-Some
returns-in-Some c =
    let nets = nets_in c.self.inside.by_id.entries in
    let owner : option_map (λ (n : Network). n.id) (find_link c.args.link nets) ≡ Some c.in-Some.id.now = owner-found has_link _ nets c.self.invariant.owners.of_link c.args.link ∙ sym c.in-Some.ensures.value in
    copied-map net_of c.get-in-Some.result ∙ ap (option_map net_of) c.get-in-Some.ensures.value ∙ sym (find-lookup c.in-Some.id.now c.self.inside.by_id.entries c.self.invariant.at_ids)
    ∙ found-by-id (λ n. has_link n c.args.link) c.in-Some.id.now nets c.self.invariant.keyed owner
    ∙ ap (λ (v : StoreView). find_link c.args.link (nets_of v)) c.self.view_is

none-id : (o : Option Network) → option_map (λ (n : Network). n.id) o ≡ None → None ≡ o
none-id None is = refl
none-id (Some n) is = absurd (none-some n.id (sym is))

pub returns-in-None : goal.returns-in-None
returns-in-None c =
    let nets = nets_in c.self.inside.by_id.entries in
    none-id (find_link c.args.link nets) (owner-found has_link _ nets c.self.invariant.owners.of_link c.args.link ∙ sym c.in-None.ensures.value)
    ∙ ap (λ (v : StoreView). find_link c.args.link (nets_of v)) c.self.view_is
