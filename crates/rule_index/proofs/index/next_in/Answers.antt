use Rattle.std.proofs.Common.{◌∙◌, ap, sym, Some}
use Rattle.rule_index.specs.declared.spot.Sorting.TheVariants.{ByArrival, ByKey}
use Rattle.rule_index.specs.declared.spot.Spot.{Spot}
use Rattle.rule_index.specs.Spots.{spot_by}
use Rattle.rule_index.specs.Sorted.{place_of, spots_by}
use Rattle.rule_index.proofs.Numbers.{there-map, past-map}
use Rattle.rule_index.proofs.Nexts.{next-past, ends-none, ends-some, ends-never, are-keyed}
use Rattle.rule_index.proofs.index.next_in.Goals as goal

pub returns-in_default : goal.returns-in_default
returns-in_default c =
    sym (next-past c.args.rules.now (spots_by ByArrival c.args.rules.now c.args.order.now.numbers) c.args.packet.now c.args.from
    (past-map (spot_by ByArrival c.args.rules.now) c.args.order.now.numbers c.args.from (sym c.get.ensures ∙ c.in_default.is)))

pub least-requires-clause-keys : goal.least-requires-clause-keys
least-requires-clause-keys c = are-keyed c.args.rules.now (spots_by ByKey c.args.rules.now c.args.keyed.now.numbers) c.requires.stand

pub returns-in_default-least : goal.returns-in_default-least
returns-in_default-least c =
    let there = there-map (spot_by ByArrival c.args.rules.now) c.args.order.now.numbers c.args.from c.in-Some.number (sym c.get.ensures ∙ c.in-Some.is) ∙ ap Some (sym c.spot_by-first.ensures) in
    sym (ends-none c.args.rules.now (spots_by ByArrival c.args.rules.now c.args.order.now.numbers) (spots_by ByKey c.args.rules.now c.args.keyed.now.numbers) c.requires c.args.packet.now c.args.from c.spot_by-first.result there
    (sym c.least.ensures ∙ c.in_default-least.is))

pub returns-in-Some-rule_of : goal.returns-in-Some-rule_of
returns-in-Some-rule_of c =
    let there = there-map (spot_by ByArrival c.args.rules.now) c.args.order.now.numbers c.args.from c.in-Some.number (sym c.get.ensures ∙ c.in-Some.is) ∙ ap Some (sym c.spot_by-first.ensures) in
    sym (ends-some c.args.rules.now (spots_by ByArrival c.args.rules.now c.args.order.now.numbers) (spots_by ByKey c.args.rules.now c.args.keyed.now.numbers) c.requires c.args.packet.now c.args.from c.spot_by-first.result there
    c.in-Some-least.spot c.in-Some-rule_of.rule c.place_of-place.result (sym c.least.ensures ∙ c.in-Some-least.is)
    (c.place_of-place.ensures ∙ ap (λ (s : Spot). place_of s (spots_by ByArrival c.args.rules.now c.args.order.now.numbers)) c.flat.ensures)
    (sym c.rule_of.ensures ∙ c.in-Some-rule_of.is))

pub returns-in-None : goal.returns-in-None
returns-in-None c =
    let there = there-map (spot_by ByArrival c.args.rules.now) c.args.order.now.numbers c.args.from c.in-Some.number (sym c.get.ensures ∙ c.in-Some.is) ∙ ap Some (sym c.spot_by-first.ensures) in
    absurd (ends-never c.args.rules.now (spots_by ByArrival c.args.rules.now c.args.order.now.numbers) (spots_by ByKey c.args.rules.now c.args.keyed.now.numbers) c.requires c.args.packet.now c.args.from c.spot_by-first.result there
    c.in-Some-least.spot (sym c.least.ensures ∙ c.in-Some-least.is) (sym c.rule_of.ensures ∙ c.in-None.is))
