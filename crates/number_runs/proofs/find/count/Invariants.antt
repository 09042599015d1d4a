use Rattle.std.proofs.Common.{◌≡◌, length, take}
use Rattle.number_runs.specs.Runs.{numbers_of}
use Rattle.number_runs.proofs.find.count.Given as goal

abbrev pub invariant-loop-run : goal.invariant-loop-run
invariant-loop-run l = l.count ≡ length (numbers_of (take l.run-index l.runs))
