use Rattle.std.proofs.Common.{◌∙◌, sym, ap}
use Rattle.network_store.proofs.Sorted.{met, met-at}
use Rattle.network_store.proofs.rank_index.meets_one.Goals as goal

pub returns-in-Some : goal.returns-in-Some
returns-in-Some c =
    let r = c.args.range.now in
    c.clashes.ensures ∙ ap (met r) (sym c.in-Some.is)
    ∙ met-at r c.args.ranges.now c.place_of-place.result c.first.result.number c.range_at.result c.requires (ap (λ u. u.number) c.first.ensures) c.place_of-place.ensures.place c.range_at.ensures

pub returns-in-None : goal.returns-in-None
returns-in-None c =
    let r = c.args.range.now in
    ap (met r) (sym c.in-None.is)
    ∙ met-at r c.args.ranges.now c.place_of-place.result c.first.result.number c.range_at.result c.requires (ap (λ u. u.number) c.first.ensures) c.place_of-place.ensures.place c.range_at.ensures
