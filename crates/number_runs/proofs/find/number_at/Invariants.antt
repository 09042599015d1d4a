use Rattle.std.proofs.Common.{◌≡◌, drop, slice_get}
use Rattle.number_runs.specs.Runs.{numbers_of}
use Rattle.number_runs.proofs.find.number_at.Given as goal

abbrev pub invariant-loop-run : goal.invariant-loop-run
invariant-loop-run l = slice_get (numbers_of l.runs) l.place ≡ slice_get (numbers_of (drop l.run-index l.runs)) l.left
