use Rattle.std.proofs.Common.{◌≡◌, ◌∙◌, sym, ap, not, filter, if◌then◌else◌}
use Rattle.std.specs.List.{remove}
use Rattle.std.specs.Prelude.{nat_le}
use Rattle.list_lemmas.proofs.Pairs.{pairwise-filter, list_all-filter}
use Rattle.uid_ranges.specs.Ranks.{last_rank}
use Rattle.uid_ranges.specs.declared.range.Uid.{Uid}
use Rattle.network_store.specs.RankIndex.{RankIndexView, owner_of, same_ranked, comes_before, rise, are_low}
use Rattle.network_store.specs.declared.rank_index.OwnedRange.{OwnedRange}
use Rattle.network_store.proofs.Owned.{owner-remove}
use Rattle.network_store.proofs.Sorted.{cut-at}
use Rattle.network_store.proofs.rank_index.RankIndex.remove.Goals.{After-stands_at}
use Rattle.network_store.proofs.rank_index.RankIndex.remove.Goals as goal

-- the list without the range, which stands at the place or nowhere
cut_is : (c : After-stands_at)
    → (if c.stands_at.result then remove c.self.inside.ranges.items c.place_of-place.result else c.self.inside.ranges.items) ≡ filter (λ e. not (same_ranked e.range c.args.range.now)) c.self.inside.ranges.items
cut_is c =
    cut-at c.args.range.now c.self.inside.ranges.items c.deref.result.now c.deref-2.result.now c.first.result.number c.place_of-place.result c.stands_at.result c.self.invariant.0 c.deref.ensures.value c.deref-2.ensures.value
    (ap (λ (u : Uid). u.number) c.first.ensures) c.place_of-place.ensures.place c.stands_at.ensures

gone : (c : goal.After-remove) → c.remove.new.self.items ≡ filter (λ e. not (same_ranked e.range c.args.range.now)) c.self.inside.ranges.items
gone c =
    let xs = c.self.inside.ranges.items in
    c.remove.ensures.items ∙ sym (ap (λ b. if b then remove xs c.place_of-place.result else xs) c.if-stands_at.true) ∙ cut_is (goal.at.invariant_of-self c).After-stands_at

pub invariant_of-self : goal.invariant_of-self
invariant_of-self c =
    let q = λ (e : OwnedRange). not (same_ranked e.range c.args.range.now) in (
      ap rise (gone c) ∙ pairwise-filter comes_before q c.self.inside.ranges.items c.self.invariant.0,
      ap are_low (gone c) ∙ list_all-filter (λ e. nat_le e.range.rank last_rank) q c.self.inside.ranges.items c.self.invariant.1,
    )

pub returns-then-stands_at-clause-ranges : goal.returns-then-stands_at-clause-ranges
returns-then-stands_at-clause-ranges c = gone c ∙ ap (λ (v : RankIndexView). filter (λ e. not (same_ranked e.range c.args.range.now)) v.ranges) c.self.view_is

pub returns-else-stands_at-clause-ranges : goal.returns-else-stands_at-clause-ranges
returns-else-stands_at-clause-ranges c =
    let xs = c.self.inside.ranges.items in
    ap (λ (v : RankIndexView). v.ranges) (sym c.self.view_is) ∙ sym (ap (λ b. if b then remove xs c.place_of-place.result else xs) c.if-stands_at.false) ∙ cut_is (goal.at.returns-else-stands_at-clause-ranges c).After-stands_at
    ∙ ap (λ (v : RankIndexView). filter (λ e. not (same_ranked e.range c.args.range.now)) v.ranges) c.self.view_is

pub returns-then-stands_at-clause-owners : goal.returns-then-stands_at-clause-owners
returns-then-stands_at-clause-owners c = λ r. ap (λ xs. owner_of xs r) (returns-then-stands_at-clause-ranges c) ∙ owner-remove c.args.range.now c.args.self.now.ranges r

pub returns-else-stands_at-clause-owners : goal.returns-else-stands_at-clause-owners
returns-else-stands_at-clause-owners c = λ r. ap (λ xs. owner_of xs r) (returns-else-stands_at-clause-ranges c) ∙ owner-remove c.args.range.now c.args.self.now.ranges r
