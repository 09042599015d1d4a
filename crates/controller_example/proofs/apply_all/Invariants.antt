use Rattle.net_control.specs.View.{IsKept}
use Rattle.controller_example.proofs.apply_all.Given as goal

abbrev pub invariant-loop-command : goal.invariant-loop-command
invariant-loop-command g l = IsKept l.controller (g.K.Kernel.seen l.kernel)
