use Rattle.std.proofs.Common.{◌-◌}
use Rattle.kernel_model.specs.View.{state_of}
use Rattle.kernel_model.proofs.Follows.{IsTold}
use Rattle.packet_trace.proofs.trail.follow.Given as goal

abbrev pub invariant-loop-from : goal.invariant-loop-from
invariant-loop-from g l = IsTold (state_of (g.K.Kernel.seen l.kernel)) l.packet l.steps.items l.from

abbrev pub decreases-loop-from : goal.decreases-loop-from
decreases-loop-from g l = l.count - l.from
