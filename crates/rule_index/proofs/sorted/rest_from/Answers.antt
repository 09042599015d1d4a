use Rattle.rule_index.specs.Spots.{spot_by}
use Rattle.rule_index.proofs.Numbers.{rest-numbers, parted-rises}
use Rattle.rule_index.proofs.sorted.rest_from.Goals as goal

pub after-requires : goal.after-requires
after-requires c = parted-rises (spot_by c.args.sorting c.args.rules.now) c.args.target.now c.args.list.now.numbers c.requires

pub returns : goal.returns
returns c = rest-numbers (spot_by c.args.sorting c.args.rules.now) c.args.list.now.numbers c.after.result c.args.target.now c.after.ensures
