use Rattle.std.proofs.Common.{◌≡◌, ◌∙◌, ap, arith, true, false, nat_le}
use Rattle.std.proofs.lemmas.Bool.Decides.{nat_tests}
use Rattle.uid_ranges.specs.Ranks.{users_meet, are_ranked}
use Rattle.uid_ranges.proofs.RankedLists.{are_ranked-more}
use Rattle.network_store.specs.Ranges.{RangesView}
use Rattle.network_store.proofs.ranges.StoredRanges.add_all.Goals as goal

pub invariant_of-self : goal.invariant_of-self
invariant_of-self c =
    let apart : users_meet c.self.inside.ranges.items c.args.more.now ≡ false = ap (λ (v : RangesView). users_meet v.ranges c.args.more.now) c.self.view_is ∙ c.requires.apart in
    let low : nat_le c.args.rank 99 ≡ true = grind (arith, nat_tests, c.requires.in_range) in
    ap are_ranked c.push_all.ensures ∙ are_ranked-more c.args.rank c.self.inside.ranges.items c.args.more.now c.self.invariant low c.requires.disjoint apart
