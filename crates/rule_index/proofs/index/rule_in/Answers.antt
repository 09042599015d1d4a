use Rattle.std.proofs.Common.{◌∙◌, sym}
use Rattle.rule_index.specs.declared.spot.Sorting.TheVariants.{ByArrival, ByKey}
use Rattle.rule_index.specs.Spots.{spot_by}
use Rattle.rule_index.specs.Sorted.{spots_by}
use Rattle.rule_index.proofs.Numbers.{there-map, past-map}
use Rattle.rule_index.proofs.Nexts.{list-some, list-none}
use Rattle.rule_index.proofs.index.rule_in.Goals as goal

pub returns-in-Some : goal.returns-in-Some
returns-in-Some c =
    c.rule_of.ensures
    ∙ sym (list-some c.args.rules.now (spots_by ByArrival c.args.rules.now c.args.order.now.numbers) (spots_by ByKey c.args.rules.now c.args.keyed.now.numbers) c.requires c.args.place (spot_by ByArrival c.args.rules.now c.in-Some.number)
    (there-map (spot_by ByArrival c.args.rules.now) c.args.order.now.numbers c.args.place c.in-Some.number (sym c.get.ensures ∙ c.in-Some.is)))

pub returns-in-None : goal.returns-in-None
returns-in-None c =
    sym (list-none c.args.rules.now (spots_by ByArrival c.args.rules.now c.args.order.now.numbers) c.args.place
    (past-map (spot_by ByArrival c.args.rules.now) c.args.order.now.numbers c.args.place (sym c.get.ensures ∙ c.in-None.is)))
