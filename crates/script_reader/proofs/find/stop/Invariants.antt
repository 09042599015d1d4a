use Rattle.script_reader.proofs.Neighbours.{Reaches}
use Rattle.script_reader.proofs.find.stop.Given as goal

abbrev pub invariant-loop-count : goal.invariant-loop-count
invariant-loop-count l = Reaches l.kinds l.fn.words l.count l.after
