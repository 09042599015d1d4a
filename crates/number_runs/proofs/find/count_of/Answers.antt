use Rattle.std.proofs.Common.{arith}
use Rattle.number_runs.proofs.Flat.{count-within}
use Rattle.number_runs.proofs.find.count_of.Goals as goal

pub count-requires : goal.count-requires
count-requires c = omega (arith, count-within c.args.first c.args.runs.now, c.requires.bounded)
