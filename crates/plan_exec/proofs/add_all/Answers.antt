use Rattle.std.proofs.Common.{sym, ◌∙◌, ap, subst, drop, ◌+◌}
use Rattle.kernel_model.specs.Journal.{entry}
use Rattle.kernel_model.specs.declared.request.EntryKind.TheVariants.{Added, Refused}
use Rattle.plan_exec.specs.InTurn.{standing, noted, MayAddInTurn}
use Rattle.plan_exec.proofs.Turns.{stands_by, made_more, add_next}
use Rattle.plan_exec.proofs.add_all.Goals as goal

pub ask_add-requires : goal.ask_add-requires
ask_add-requires g c =
    let next = add_next (standing (g.K.Kernel.seen c.loop-place.kernel) (g.K.Kernel.room c.loop-place.kernel)) c.args.adds.now c.loop-place.place c.nth.result.now c.nth.ensures c.loop-place.invariant.rest in
    record { absent = next.0.absent; spare = next.0.room; ready = next.0.ready }

pub returns-in-Err : goal.returns-in-Err
returns-in-Err g c = record {
  request = c.nth.result.now;
  next = c.nth.ensures;
  grew = (stands_by c.in-Err.ensures.grown c.in-Err.ensures.used) ∙ ap (λ k. noted k (entry Refused c.nth.result.now)) c.loop-place.invariant.made;
}

pub loop-place-preserved : goal.loop-place-preserved
loop-place-preserved g c =
    let next = add_next (standing (g.K.Kernel.seen c.loop-place.kernel) (g.K.Kernel.room c.loop-place.kernel)) c.args.adds.now c.loop-place.place c.nth.result.now c.nth.ensures c.loop-place.invariant.rest in
    record {
      made = made_more Added (standing (g.K.Kernel.seen c.args.kernel.now) (g.K.Kernel.room c.args.kernel.now)) (standing (g.K.Kernel.seen c.loop-place.kernel) (g.K.Kernel.room c.loop-place.kernel)) (standing (g.K.Kernel.seen c.ask_add.new.kernel) (g.K.Kernel.room c.ask_add.new.kernel)) c.args.adds.now c.loop-place.place c.nth.result.now c.nth.ensures c.loop-place.invariant.made (stands_by c.in-Ok.ensures.grown c.in-Ok.ensures.used);
      rest = subst (λ k. MayAddInTurn k (drop (c.loop-place.place + 1) c.args.adds.now)) (sym (stands_by c.in-Ok.ensures.grown c.in-Ok.ensures.used)) next.1;
    }
