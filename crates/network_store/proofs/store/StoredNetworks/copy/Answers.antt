use Rattle.std.proofs.Common.{◌≡◌, ◌∙◌, ap}
use Rattle.std.proofs.lemmas.Map.Entries.{entries_from_clone}
use Rattle.network_store.specs.Store.{nets_of}
use Rattle.network_store.proofs.Entries.{copied-nets, indexed-copied}
use Rattle.network_store.proofs.store.StoredNetworks.copy.Goals as goal

pub invariant_of-result : goal.invariant_of-result
invariant_of-result c =
    let links : c.in_ok-clone-2.field-0.entries ≡ c.self.inside.by_link.entries =
    entries_from_clone (λ x y. y ≡ x) (λ v w. w ≡ v) (λ x y h. h) (λ v w h. h) c.self.inside.by_link.entries c.in_ok-clone-2.field-0.entries c.in_ok-clone-2.ensures.cases in
    indexed-copied c.self.inside.by_id.entries c.in_ok-clone.field-0.entries c.self.inside.by_link.entries c.in_ok-clone-2.field-0.entries c.self.inside.users.ranges c.in_ok-copy.field-0.ranges c.self.inside.apps.ranges c.in_ok-copy-2.field-0.ranges
    c.self.invariant c.in_ok-clone.ensures.cases links c.in_ok-copy.ensures c.in_ok-copy-2.ensures

pub returns : goal.returns
returns c = copied-nets c.self.inside.by_id.entries c.in_ok-clone.field-0.entries c.in_ok-clone.ensures.cases ∙ ap nets_of c.self.view_is
