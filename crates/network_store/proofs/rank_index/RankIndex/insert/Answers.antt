use Rattle.std.proofs.Common.{◌≡◌, ◌<◌, ◌∙◌, cond, Some, sym, ap, subst, true, false, nat_le, arith, vec_len, vec_capacity}
use Rattle.std.specs.List.{list_any, insert, prefix_len}
use Rattle.std.proofs.lemmas.Bool.Decides.{nat_tests}
use Rattle.list_lemmas.proofs.Found.{then-at_ok}
use Rattle.network_store.specs.RankIndex.{RankIndexView, ends_before, clash, rise, are_low, put, owner_of, same_ranked}
use Rattle.network_store.specs.declared.rank_index.OwnedRange.{OwnedRange}
use Rattle.network_store.proofs.Sorted.{put-insert, rise-put, low-put}
use Rattle.network_store.proofs.Owned.{owner-put}
use Rattle.network_store.proofs.rank_index.RankIndex.insert.Goals as goal

placed : (c : goal.After-insert) → c.insert.new.self.items ≡ put (record { range = c.args.range; owner = c.args.owner }) c.self.inside.ranges.items
placed c =
    let one : OwnedRange = record { range = c.args.range; owner = c.args.owner } in
    let some = subst (λ (v : RankIndexView). 0 < v.room) (sym c.self.view_is) c.requires.room in
    let room : vec_len c.self.inside.ranges < vec_capacity c.self.inside.ranges = omega (arith, some) in
    let place : c.place_of-place.result ≡ prefix_len (λ (e : OwnedRange). ends_before c.args.range.rank c.args.range.users.first.number e.range) c.self.inside.ranges.items =
    c.place_of-place.ensures.place
    ∙ ap (λ n. prefix_len (λ (e : OwnedRange). ends_before c.args.range.rank n e.range) c.deref.result.now) (ap (λ u. u.number) c.first.ensures)
    ∙ ap (prefix_len (λ (e : OwnedRange). ends_before c.args.range.rank c.args.range.users.first.number e.range)) c.deref.ensures.value in
    c.insert.ensures.items ∙ then-at_ok c.insert.result _ _ (c.insert.ensures.succeeds room) ∙ ap (λ p. insert c.self.inside.ranges.items p one) place ∙ sym (put-insert one c.self.inside.ranges.items)

pub invariant_of-self : goal.invariant_of-self
invariant_of-self c =
    let one : OwnedRange = record { range = c.args.range; owner = c.args.owner } in
    let apart = subst (λ (v : RankIndexView). list_any (λ e. clash e.range c.args.range) v.ranges ≡ false) (sym c.self.view_is) c.requires.apart in
    let low : nat_le c.args.range.rank 99 ≡ true = grind (arith, nat_tests, c.requires.low) in (
      ap rise (placed c) ∙ rise-put one c.self.inside.ranges.items c.self.invariant.0 apart,
      ap are_low (placed c) ∙ low-put one c.self.inside.ranges.items low c.self.invariant.1,
    )

pub returns-clause-ranges : goal.returns-clause-ranges
returns-clause-ranges c = placed c ∙ ap (λ (v : RankIndexView). put (record { range = c.args.range; owner = c.args.owner }) v.ranges) c.self.view_is

pub returns-clause-owners : goal.returns-clause-owners
returns-clause-owners c =
    let apart = subst (λ (v : RankIndexView). list_any (λ e. clash e.range c.args.range) v.ranges ≡ false) (sym c.self.view_is) c.requires.apart in
    let one : OwnedRange = record { range = c.args.range; owner = c.args.owner } in
    λ r.
    ap (λ xs. owner_of xs r) (placed c) ∙ owner-put one c.self.inside.ranges.items apart r
    ∙ ap (λ (v : RankIndexView). cond (same_ranked c.args.range r) (Some c.args.owner) (owner_of v.ranges r)) c.self.view_is
