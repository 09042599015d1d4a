use Rattle.rule_index.specs.Spots.{spot_by}
use Rattle.rule_index.proofs.Numbers.{put-numbers, parted-rises}
use Rattle.rule_index.proofs.sorted.put.Goals as goal

pub put-requires-clause-parted : goal.put-requires-clause-parted
put-requires-clause-parted c = parted-rises (spot_by c.args.sorting c.args.rules.now) c.spot_by-target.result c.args.list.now.numbers c.requires.rises

pub returns-clause-items : goal.returns-clause-items
returns-clause-items c =
    put-numbers (spot_by c.args.sorting c.args.rules.now) c.args.list.now.numbers c.put.new.self.numbers c.args.number c.spot_by-target.result c.spot_by-target.ensures c.put.ensures.numbers
