use Rattle.std.proofs.Common.{◌≡◌, map, take, drop}
use Rattle.kernel_model.specs.Journal.{entry}
use Rattle.kernel_model.specs.declared.request.EntryKind.TheVariants.{Deleted}
use Rattle.plan_exec.specs.InTurn.{standing, after, MayDeleteInTurn, ordered}
use Rattle.plan_exec.proofs.delete_all.Given as goal

-- the deletions so far were made, and the rest may be asked for
abbrev pub invariant-loop-place : goal.invariant-loop-place
invariant-loop-place g l = record {
  made : standing (g.K.Kernel.seen l.kernel) (g.K.Kernel.room l.kernel) ≡ after (standing (g.K.Kernel.seen l.fn.kernel) (g.K.Kernel.room l.fn.kernel)) (map (entry Deleted) (take l.place (ordered l.backward l.requests)));
  rest : MayDeleteInTurn (standing (g.K.Kernel.seen l.kernel) (g.K.Kernel.room l.kernel)) (drop l.place (ordered l.backward l.requests));
}
