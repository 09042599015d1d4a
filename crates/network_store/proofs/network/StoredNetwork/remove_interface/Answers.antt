use Rattle.std.proofs.Common.{◌≡◌, ◌==◌, not, filter, rules}
use Rattle.arrayvec.proofs.ArrayVecLemmas.{filter-from_retain}
use Rattle.network_store.specs.Stored as stored
use Rattle.network_store.proofs.network.StoredNetwork.remove_interface.Goals as goal

pub returns-clause-net : goal.returns-clause-net
returns-clause-net c =
    let links : c.retain.new.self.items ≡ filter (λ i. not (i == c.args.link)) c.args.self.now.interfaces.items = filter-from_retain _ _ _ (λ x b f' y called. search rules) _ _ c.retain.ensures.filtered in
    λ i. record { id = c.args.self.now.id; kind = stored.kind_of c.args.self.now.kind; interfaces = links i; routes = c.remove_link.ensures i }
