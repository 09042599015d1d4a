use Rattle.std.proofs.Common.{◌≡◌, ◌∙◌, ap, rules, not}
use Rattle.uid_ranges.specs.Ranges.{has}
use Rattle.uid_ranges.specs.Ranks.{ranked_without, are_ranked}
use Rattle.uid_ranges.proofs.RankedLists.{are_ranked-filter}
use Rattle.uid_ranges.proofs.ranked.RankedList.without.Goals as goal

pub invariant_of-result : goal.invariant_of-result
invariant_of-result c =
    let is : c.in_ok-ranges.ranges.items ≡ ranked_without c.self.inside.ranges.items c.args.gone.now = search rules in
    ap are_ranked is ∙ are_ranked-filter (λ r. not (has c.args.gone.now r.users)) c.self.inside.ranges.items c.self.invariant
