use Rattle.std.proofs.Common.{◌≡◌, ◌∙◌, ◌++◌, List, ap, rules, arith, true, false, nat_le}
use Rattle.std.proofs.lemmas.Bool.Decides.{nat_tests}
use Rattle.uid_ranges.specs.declared.ranked.Ranked.{Ranked}
use Rattle.uid_ranges.specs.Ranks.{users_meet, all_at, are_ranked}
use Rattle.uid_ranges.proofs.RankedLists.{are_ranked-more}
use Rattle.uid_ranges.proofs.ranked.RankedList.with.Goals as goal

pub invariant_of-result : goal.invariant_of-result
invariant_of-result c =
    let is : c.push_all.new.ranges.items ≡ c.self.inside.ranges.items ++ all_at c.args.rank c.args.more.now = search rules in
    let apart : users_meet c.self.inside.ranges.items c.args.more.now ≡ false = ap (λ (l : List Ranked). users_meet l c.args.more.now) c.self.view_is ∙ c.requires.apart in
    let low : nat_le c.args.rank 99 ≡ true = grind (arith, nat_tests, c.requires.in_range) in
    ap are_ranked is ∙ are_ranked-more c.args.rank c.self.inside.ranges.items c.args.more.now c.self.invariant low c.requires.disjoint apart
