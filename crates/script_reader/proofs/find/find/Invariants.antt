use Rattle.script_reader.proofs.Neighbours.{Tried}
use Rattle.script_reader.proofs.find.find.Given as goal

abbrev pub invariant-loop-entry : goal.invariant-loop-entry
invariant-loop-entry l = Tried l.words l.entry-index l.reached l.farthest
