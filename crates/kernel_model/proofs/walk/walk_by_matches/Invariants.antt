use Rattle.std.proofs.Common.{◌-◌, List}
use Rattle.kernel_model.specs.View.{state_of}
use Rattle.kernel_model.specs.declared.step.Step.{Step}
use Rattle.kernel_model.proofs.Follows.{IsTold}
use Rattle.kernel_model.proofs.walk.walk_by_matches.Given as goal

-- some steps are told
abbrev pub invariant-loop-from : goal.invariant-loop-from
invariant-loop-from g l = (steps : List Step) × IsTold (state_of (g.K.Kernel.seen l.kernel)) l.packet steps l.from

abbrev pub decreases-loop-from : goal.decreases-loop-from
decreases-loop-from g l = l.count - l.from
