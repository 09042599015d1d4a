use Rattle.std.proofs.Common.{◌≡◌, ◌∙◌, ◌++◌, List, ap, rules, false}
use Rattle.uid_ranges.specs.declared.range.UidRange.{UidRange}
use Rattle.uid_ranges.specs.Ranges.{self_meets, lists_meet}
use Rattle.uid_ranges.proofs.Disjoint.{AreDisjoint-append}
use Rattle.uid_ranges.proofs.list.RangeList.with.Goals as goal

pub invariant_of-result : goal.invariant_of-result
invariant_of-result c =
    let is : c.extend_from_slice.new.self.items ≡ c.self.inside.ranges.items ++ c.args.more.now = search rules in
    let apart : lists_meet c.self.inside.ranges.items c.args.more.now ≡ false = ap (λ (l : List UidRange). lists_meet l c.args.more.now) c.self.view_is ∙ c.requires.apart in
    ap self_meets is ∙ AreDisjoint-append c.self.inside.ranges.items c.args.more.now c.self.invariant c.requires.disjoint apart
