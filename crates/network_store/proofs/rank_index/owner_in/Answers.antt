use Rattle.std.proofs.Common.{◌≡◌, ◌∙◌, sym, ap, refl, Some, None}
use Rattle.std.specs.Option.{option_map}
use Rattle.network_store.specs.declared.rank_index.OwnedRange.{OwnedRange}
use Rattle.network_store.proofs.Sorted.{held-at, held}
use Rattle.network_store.proofs.rank_index.owner_in.Goals as goal

pub returns-in_default : goal.returns-in_default
returns-in_default c =
    let xs = c.args.ranges.now in
    ap (option_map (λ (e : OwnedRange). e.owner)) (sym (held-at c.args.rank c.args.uid.number xs xs xs c.place_of-place.result c.range_at.result c.requires refl refl c.place_of-place.ensures.place c.range_at.ensures ∙ ap (held c.args.rank c.args.uid.number) c.in_default.is))

pub returns-then-not-holds_at : goal.returns-then-not-holds_at
returns-then-not-holds_at c =
    let xs = c.args.ranges.now in
    let none : held c.args.rank c.args.uid.number (Some c.in-Some.one) ≡ None = rw (sym c.holds_at.ensures ∙ c.if-not-holds_at.true) refl in
    ap (option_map (λ (e : OwnedRange). e.owner)) (sym (held-at c.args.rank c.args.uid.number xs xs xs c.place_of-place.result c.range_at.result c.requires refl refl c.place_of-place.ensures.place c.range_at.ensures ∙ ap (held c.args.rank c.args.uid.number) c.in-Some.is ∙ none))

pub returns : goal.returns
returns c =
    let xs = c.args.ranges.now in
    let there : held c.args.rank c.args.uid.number (Some c.in-Some.one) ≡ Some c.in-Some.one = rw (sym c.holds_at.ensures ∙ c.if-not-holds_at.false) refl in
    ap (option_map (λ (e : OwnedRange). e.owner)) (sym (held-at c.args.rank c.args.uid.number xs xs xs c.place_of-place.result c.range_at.result c.requires refl refl c.place_of-place.ensures.place c.range_at.ensures ∙ ap (held c.args.rank c.args.uid.number) c.in-Some.is ∙ there))
