use Rattle.std.proofs.Common.{◌≡◌, ◌∙◌, ap, sym, subst, nat_eq}
use Rattle.std.specs.Map.{values_of}
use Rattle.indexmap.specs.IndexMap.{shift_remove_entry}
use Rattle.networks.specs.Lists.{drop_net, StandAtIds}
use Rattle.networks.proofs.Entries.{drop-values, drop-keyed}
use Rattle.networks.proofs.networks_by_id.Networks.drop_id.Goals as goal

pub invariant_of-result : goal.invariant_of-result
invariant_of-result c =
    let same : c.in_ok-by_id.by_id.entries ≡ c.self.inside.by_id.entries = c.in_ok-by_id.ensures in
    let is : c.shift_remove.new.self.entries ≡ shift_remove_entry (nat_eq c.args.id) c.in_ok-by_id.by_id.entries = c.shift_remove.ensures.entries in
    subst StandAtIds (sym (is ∙ ap (shift_remove_entry (nat_eq c.args.id)) same)) (drop-keyed c.args.id c.self.inside.by_id.entries c.self.invariant)

pub returns : goal.returns
returns c =
    let same : c.in_ok-by_id.by_id.entries ≡ c.self.inside.by_id.entries = c.in_ok-by_id.ensures in
    let is : c.shift_remove.new.self.entries ≡ shift_remove_entry (nat_eq c.args.id) c.in_ok-by_id.by_id.entries = c.shift_remove.ensures.entries in
    ap values_of (is ∙ ap (shift_remove_entry (nat_eq c.args.id)) same)
    ∙ drop-values c.args.id c.self.inside.by_id.entries c.self.invariant ∙ ap (drop_net c.args.id) c.self.view_is
