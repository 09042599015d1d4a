use Rattle.std.proofs.Common.{◌≡◌, ◌∙◌, Some, length, slice_get, take, sym, ap, refl, arith}
use Rattle.std.specs.List.{list_any}
use Rattle.std.proofs.lemmas.Bool.{or_from}
use Rattle.std.proofs.lemmas.Option.{slice_get_read}
use Rattle.list_lemmas.proofs.Places.{take-next}
use Rattle.network_store.specs.RankIndex.{RankIndexView, any_meets, clash}
use Rattle.network_store.proofs.Owned.{at_rank, none-meets, meets-more, meets-at}
use Rattle.network_store.proofs.rank_index.RankIndex.meets_at.Goals.{After-meets_one}
use Rattle.network_store.proofs.rank_index.RankIndex.meets_at.Goals as goal

pub loop-users-init : goal.loop-users-init
loop-users-init c = none-meets c.args.rank c.args.self.now.ranges

-- what the range that is looked at meets, as it was told
told : (c : After-meets_one) → list_any (λ e. clash e.range (at_rank c.args.rank c.users-item.result)) c.args.self.now.ranges ≡ c.meets_one.result
told c =
    let u = c.users-item.result in
    ap (λ (v : RankIndexView). list_any (λ e. clash e.range (at_rank c.args.rank u)) v.ranges) (sym c.self.view_is) ∙ ap (list_any (λ e. clash e.range (at_rank c.args.rank u))) (sym c.deref.ensures.value)
    ∙ ap (λ one. list_any (λ e. clash e.range one) c.deref.result.now) (sym c.ranked.ensures) ∙ sym c.meets_one.ensures

item : (c : After-meets_one) → slice_get c.args.more.now c.loop-users.users-index ≡ Some c.users-item.result
item c = slice_get_read c.args.more.now (length c.args.more.now) c.loop-users.users-index c.users-item.result refl (omega (arith, c.loop-users-test.true)) c.users-item.is

pub returns-then-meets_one : goal.returns-then-meets_one
returns-then-meets_one c =
    let here = (goal.at.returns-then-meets_one c).After-meets_one in
    sym (meets-at c.args.rank c.loop-users.users-index c.args.more.now c.users-item.result c.args.self.now.ranges (item here) (told here ∙ c.if-meets_one.true))

pub loop-users-preserved : goal.loop-users-preserved
loop-users-preserved c =
    let more = c.args.more.now in
    let i = c.loop-users.users-index in
    let u = c.users-item.result in
    let here = (goal.at.loop-users-preserved c).After-meets_one in
    ap (λ xs. any_meets c.args.rank xs c.args.self.now.ranges) (take-next more i u (item here)) ∙ meets-more c.args.rank (take i more) u c.args.self.now.ranges
    ∙ or_from (any_meets c.args.rank (take i more) c.args.self.now.ranges) (list_any (λ e. clash e.range (at_rank c.args.rank u)) c.args.self.now.ranges) c.loop-users.invariant (told here ∙ c.if-meets_one.false)
