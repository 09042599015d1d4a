use Rattle.std.proofs.Common.{◌≡◌, ◌∙◌, ap, sym, subst, nat_eq}
use Rattle.std.specs.Map.{values_of}
use Rattle.indexmap.specs.IndexMap.{insert_entry}
use Rattle.networks.specs.Lists.{put_net, StandAtIds}
use Rattle.networks.proofs.Entries.{put-values, put-keyed}
use Rattle.networks.proofs.networks_by_id.Networks.put.Goals as goal

pub invariant_of-result : goal.invariant_of-result
invariant_of-result c =
    let same : c.in_ok-by_id.by_id.entries ≡ c.self.inside.by_id.entries = c.in_ok-by_id.ensures in
    let is : c.insert.new.self.entries ≡ insert_entry nat_eq c.in_ok-by_id.by_id.entries c.args.network.id c.args.network = c.in_ok-insert.ensures.entries in
    subst StandAtIds (sym (is ∙ ap (λ es. insert_entry nat_eq es c.args.network.id c.args.network) same)) (put-keyed c.args.network c.self.inside.by_id.entries c.self.invariant)

pub returns : goal.returns
returns c =
    let same : c.in_ok-by_id.by_id.entries ≡ c.self.inside.by_id.entries = c.in_ok-by_id.ensures in
    let is : c.insert.new.self.entries ≡ insert_entry nat_eq c.in_ok-by_id.by_id.entries c.args.network.id c.args.network = c.in_ok-insert.ensures.entries in
    ap values_of (is ∙ ap (λ es. insert_entry nat_eq es c.args.network.id c.args.network) same)
    ∙ put-values c.args.network c.self.inside.by_id.entries c.self.invariant ∙ ap (put_net c.args.network) c.self.view_is
