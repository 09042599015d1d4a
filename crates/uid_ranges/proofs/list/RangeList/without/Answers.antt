use Rattle.std.proofs.Common.{◌≡◌, ◌∙◌, ap, rules}
use Rattle.uid_ranges.specs.Ranges.{self_meets, without}
use Rattle.uid_ranges.proofs.Disjoint.{AreDisjoint-filter}
use Rattle.uid_ranges.proofs.list.RangeList.without.Goals as goal

pub invariant_of-result : goal.invariant_of-result
invariant_of-result c =
    let is : c.in_ok-ranges.ranges.items ≡ without c.self.inside.ranges.items c.args.gone.now = search rules in
    ap self_meets is ∙ AreDisjoint-filter _ c.self.inside.ranges.items c.self.invariant
