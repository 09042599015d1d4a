use Rattle.std.proofs.Common.{◌≡◌, ◌∙◌, ◌∷◌, [], ap, nat_eq}
use Rattle.indexmap.specs.IndexMap.{insert_entry}
use Rattle.network_store.proofs.Kinships.{indexed-start}
use Rattle.network_store.proofs.store.StoredNetworks.start.Goals as goal

pub invariant_of-result : goal.invariant_of-result
invariant_of-result c =
    let entries : c.insert.new.self.entries ≡ (99, c.new-local.result) ∷ [] = c.in_ok-insert.ensures.entries ∙ ap (λ es. insert_entry nat_eq es 99 c.new-local.result) c.new-by_id.ensures.empty in
    indexed-start c.insert.new.self.entries c.new.result.entries c.empty.result.ranges c.empty-2.result.ranges c.new-local.result entries c.new.ensures.empty c.empty.ensures c.empty-2.ensures c.new-local.ensures.id c.new-local.ensures.net
