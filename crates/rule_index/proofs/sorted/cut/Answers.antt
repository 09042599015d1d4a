use Rattle.rule_index.specs.Spots.{spot_by}
use Rattle.rule_index.proofs.Numbers.{cut-numbers, parted-rises}
use Rattle.rule_index.proofs.sorted.cut.Goals as goal

pub cut-requires : goal.cut-requires
cut-requires c = parted-rises (spot_by c.args.sorting c.args.rules.now) c.spot_by-target.result c.args.list.now.numbers c.requires.rises

pub returns-clause-items : goal.returns-clause-items
returns-clause-items c =
    cut-numbers (spot_by c.args.sorting c.args.rules.now) c.args.list.now.numbers c.cut.new.self.numbers c.args.number c.spot_by-target.result c.spot_by-target.ensures c.cut.ensures.numbers
