use Rattle.std.proofs.Common.{◌∙◌, ap}
use Rattle.std.specs.List.{find}
use Rattle.std.specs.Option.{option_map}
use Rattle.rule_index.specs.declared.spot.Sorting.TheVariants.{ByKey}
use Rattle.rule_index.specs.Spots.{spot_by}
use Rattle.rule_index.specs.Search.{is_same}
use Rattle.rule_index.proofs.Numbers.{find-map}
use Rattle.rule_index.proofs.search.first_same.Goals as goal

pub returns : goal.returns
returns c =
    ap (option_map (spot_by ByKey c.args.rules.now)) c.find_same.ensures
    ∙ find-map (spot_by ByKey c.args.rules.now) (is_same c.args.rules.now c.args.rule.now) c.rest_from-rest.result
    ∙ ap (find (is_same c.args.rules.now c.args.rule.now)) c.rest_from-rest.ensures
