use Rattle.std.proofs.Common.{◌≡◌, map, take, drop}
use Rattle.kernel_model.specs.Journal.{entry}
use Rattle.kernel_model.specs.declared.request.EntryKind.TheVariants.{Added}
use Rattle.plan_exec.specs.InTurn.{standing, after, MayAddInTurn}
use Rattle.plan_exec.proofs.add_all.Given as goal

-- the additions so far were made, and the rest may be asked for
abbrev pub invariant-loop-place : goal.invariant-loop-place
invariant-loop-place g l = record {
  made : standing (g.K.Kernel.seen l.kernel) (g.K.Kernel.room l.kernel) ≡ after (standing (g.K.Kernel.seen l.fn.kernel) (g.K.Kernel.room l.fn.kernel)) (map (entry Added) (take l.place l.adds));
  rest : MayAddInTurn (standing (g.K.Kernel.seen l.kernel) (g.K.Kernel.room l.kernel)) (drop l.place l.adds);
}
