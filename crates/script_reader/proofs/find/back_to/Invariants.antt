use Rattle.script_reader.specs.Cursor.{IsAfter}
use Rattle.script_reader.proofs.find.back_to.Given as goal

abbrev pub invariant-loop-gone : goal.invariant-loop-gone
invariant-loop-gone l = IsAfter l._gone l.fn.words l.after
