use Rattle.std.proofs.Common.{sym, ◌∙◌, ap, subst, drop, ◌+◌}
use Rattle.kernel_model.specs.Journal.{entry}
use Rattle.kernel_model.specs.declared.request.EntryKind.TheVariants.{Deleted, Broken}
use Rattle.plan_exec.specs.InTurn.{standing, noted, MayDeleteInTurn, ordered}
use Rattle.plan_exec.proofs.Turns.{stands_by, made_more, delete_next}
use Rattle.plan_exec.proofs.delete_all.Goals as goal

pub ask_delete-requires : goal.ask_delete-requires
ask_delete-requires g c =
    let next = delete_next (standing (g.K.Kernel.seen c.loop-place.kernel) (g.K.Kernel.room c.loop-place.kernel)) (ordered c.args.backward c.args.requests.now) c.loop-place.place c.nth.result.now c.nth.ensures c.loop-place.invariant.rest in
    record { present = next.0.present; spare = next.0.room }

pub returns-in-Err : goal.returns-in-Err
returns-in-Err g c = record {
  request = c.nth.result.now;
  next = c.nth.ensures;
  grew = (stands_by c.in-Err.ensures.grown c.in-Err.ensures.used) ∙ ap (λ k. noted k (entry Broken c.nth.result.now)) c.loop-place.invariant.made;
}

pub loop-place-preserved : goal.loop-place-preserved
loop-place-preserved g c =
    let next = delete_next (standing (g.K.Kernel.seen c.loop-place.kernel) (g.K.Kernel.room c.loop-place.kernel)) (ordered c.args.backward c.args.requests.now) c.loop-place.place c.nth.result.now c.nth.ensures c.loop-place.invariant.rest in
    record {
      made = made_more Deleted (standing (g.K.Kernel.seen c.args.kernel.now) (g.K.Kernel.room c.args.kernel.now)) (standing (g.K.Kernel.seen c.loop-place.kernel) (g.K.Kernel.room c.loop-place.kernel)) (standing (g.K.Kernel.seen c.ask_delete.new.kernel) (g.K.Kernel.room c.ask_delete.new.kernel)) (ordered c.args.backward c.args.requests.now) c.loop-place.place c.nth.result.now c.nth.ensures c.loop-place.invariant.made (stands_by c.in-Ok.ensures.grown c.in-Ok.ensures.used);
      rest = subst (λ k. MayDeleteInTurn k (drop (c.loop-place.place + 1) (ordered c.args.backward c.args.requests.now))) (sym (stands_by c.in-Ok.ensures.grown c.in-Ok.ensures.used)) next.1;
    }
