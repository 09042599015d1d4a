use Rattle.rule_index.specs.Spots.{spot_by}
use Rattle.rule_index.proofs.Numbers.{rest-numbers, parted-rises}
use Rattle.rule_index.proofs.sorted.skip.Goals as goal

pub skip-requires : goal.skip-requires
skip-requires c = parted-rises (spot_by c.args.sorting c.args.rules.now) c.args.target.now c.args.rest.now c.requires

pub returns : goal.returns
returns c = rest-numbers (spot_by c.args.sorting c.args.rules.now) c.args.rest.now c.skip.new.self c.args.target.now c.skip.ensures
