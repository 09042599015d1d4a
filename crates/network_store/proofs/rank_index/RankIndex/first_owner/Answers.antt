use Rattle.std.proofs.Common.{◌≡◌, ◌<◌, ◌≤◌, ◌∙◌, nat_lt, None, sym, ap, arith, inl, inr}
use Rattle.std.proofs.lemmas.Bool.{cases_Bool, ltb-true, ltb-false}
use Rattle.network_store.specs.RankIndex.{RankIndexView, owner_at}
use Rattle.network_store.proofs.Holders.{none-past}
use Rattle.network_store.proofs.rank_index.RankIndex.first_owner.Goals as goal

pub returns-clause-none : goal.returns-clause-none
returns-clause-none c =
    λ rank.
    elim (cases_Bool (nat_lt rank 100)) as (λ _. owner_at rank c.args.uid.number c.args.self.now.ranges ≡ None) [
      | inl low ↦ let below : rank < 100 = ltb-true rank 100 low in c.loop-rank.invariant rank (omega (arith, below, c.loop-rank-test.false))
      | inr high ↦
          let past : 100 ≤ rank = ltb-false rank 100 high in
          ap (λ (v : RankIndexView). owner_at rank c.args.uid.number v.ranges) (sym c.self.view_is) ∙ none-past rank c.args.uid.number c.self.inside.ranges.items (omega (arith, past)) c.self.invariant.1
    ]
