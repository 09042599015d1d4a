use Rattle.std.proofs.Common.{sym, arith}
use Rattle.std.proofs.lemmas.List.{length-take-le}
use Rattle.std.proofs.lemmas.Option.{slice_get_within}
use Rattle.plan_exec.specs.InTurn.{standing}
use Rattle.plan_exec.proofs.Carrying.{may_make, may_take, may_undo}
use Rattle.plan_exec.proofs.Forms.{carried_done, carried_broken, carried_undone, carried_halted}
use Rattle.plan_exec.proofs.Causes.{causes, as_before}
use Rattle.plan_exec.specs.declared.Carried.TheVariants.{Done, Undone, Halted}
use Rattle.plan_exec.proofs.carry.Goals as goal

pub add_all-requires : goal.add_all-requires
add_all-requires g c = rw c.adds-adds.ensures (may_make c.args.plan.now (standing (g.K.Kernel.seen c.args.kernel.now) (g.K.Kernel.room c.args.kernel.now)) c.requires)

pub delete_all-requires : goal.delete_all-requires
delete_all-requires g c =
    rw c.deletes.ensures (may_take c.args.plan.now (standing (g.K.Kernel.seen c.args.kernel.now) (g.K.Kernel.room c.args.kernel.now)) c.requires (standing (g.K.Kernel.seen c.add_all.new.kernel) (g.K.Kernel.room c.add_all.new.kernel)) (rw c.adds-adds.ensures at c.in-None.ensures))

pub slice_bounds-delete_all-end : goal.slice_bounds-delete_all-end
slice_bounds-delete_all-end g c =
    sym (length-take-le c.in-Some.refused c.adds-adds.result.now (omega (arith, slice_get_within c.adds-adds.result.now c.in-Some.refused c.in-Some.ensures.request c.in-Some.ensures.next)))

pub delete_all-requires-in-Some : goal.delete_all-requires-in-Some
delete_all-requires-in-Some g c =
    rw c.adds-adds.ensures (may_undo c.args.plan.now (standing (g.K.Kernel.seen c.args.kernel.now) (g.K.Kernel.room c.args.kernel.now)) c.requires (standing (g.K.Kernel.seen c.add_all.new.kernel) (g.K.Kernel.room c.add_all.new.kernel)) c.in-Some.refused (rw c.adds-adds.ensures at c.in-Some.ensures))

pub returns-in-None-delete_all-clause-carries : goal.returns-in-None-delete_all-clause-carries
returns-in-None-delete_all-clause-carries g c =
    carried_done c.args.plan.now (standing (g.K.Kernel.seen c.args.kernel.now) (g.K.Kernel.room c.args.kernel.now)) (standing (g.K.Kernel.seen c.add_all.new.kernel) (g.K.Kernel.room c.add_all.new.kernel)) (standing (g.K.Kernel.seen c.delete_all.new.kernel) (g.K.Kernel.room c.delete_all.new.kernel)) (rw c.adds-adds.ensures at c.in-None.ensures) (rw c.deletes.ensures at c.in-None-delete_all.ensures)

pub returns-in-Some-delete_all-clause-carries : goal.returns-in-Some-delete_all-clause-carries
returns-in-Some-delete_all-clause-carries g c =
    carried_broken c.args.plan.now (standing (g.K.Kernel.seen c.args.kernel.now) (g.K.Kernel.room c.args.kernel.now)) (standing (g.K.Kernel.seen c.add_all.new.kernel) (g.K.Kernel.room c.add_all.new.kernel)) (standing (g.K.Kernel.seen c.delete_all.new.kernel) (g.K.Kernel.room c.delete_all.new.kernel)) c.in-Some-delete_all.field-0 c.entry_count.result
    (rw c.adds-adds.ensures at c.in-None.ensures) (rw c.deletes.ensures at c.in-Some-delete_all.ensures) c.entry_count.ensures

pub returns-in-None-delete_all-2-clause-carries : goal.returns-in-None-delete_all-2-clause-carries
returns-in-None-delete_all-2-clause-carries g c =
    carried_undone c.args.plan.now (standing (g.K.Kernel.seen c.args.kernel.now) (g.K.Kernel.room c.args.kernel.now)) (standing (g.K.Kernel.seen c.add_all.new.kernel) (g.K.Kernel.room c.add_all.new.kernel)) (standing (g.K.Kernel.seen c.delete_all-in-Some.new.kernel) (g.K.Kernel.room c.delete_all-in-Some.new.kernel)) c.in-Some.refused c.entry_count-request.result
    (rw c.adds-adds.ensures at c.in-Some.ensures) c.entry_count-request.ensures (rw c.adds-adds.ensures at c.in-None-delete_all-2.ensures)

pub returns-in-Some-delete_all-2-clause-carries : goal.returns-in-Some-delete_all-2-clause-carries
returns-in-Some-delete_all-2-clause-carries g c =
    carried_halted c.args.plan.now (standing (g.K.Kernel.seen c.args.kernel.now) (g.K.Kernel.room c.args.kernel.now)) (standing (g.K.Kernel.seen c.add_all.new.kernel) (g.K.Kernel.room c.add_all.new.kernel)) (standing (g.K.Kernel.seen c.delete_all-in-Some.new.kernel) (g.K.Kernel.room c.delete_all-in-Some.new.kernel)) c.in-Some.refused c.in-Some-delete_all-2.field-0 c.entry_count-in-Some-delete_all-2.result
    (rw c.adds-adds.ensures at c.in-Some.ensures) (rw c.adds-adds.ensures at c.in-Some-delete_all-2.ensures) c.entry_count-in-Some-delete_all-2.ensures

pub returns-in-None-delete_all-clause-caused : goal.returns-in-None-delete_all-clause-caused
returns-in-None-delete_all-clause-caused g c = causes c.args.plan.now (g.K.Kernel.seen c.args.kernel.now) (g.K.Kernel.seen c.delete_all.new.kernel) Done (returns-in-None-delete_all-clause-carries g c)

pub returns-in-Some-delete_all-clause-caused : goal.returns-in-Some-delete_all-clause-caused
returns-in-Some-delete_all-clause-caused g c = causes c.args.plan.now (g.K.Kernel.seen c.args.kernel.now) (g.K.Kernel.seen c.delete_all.new.kernel) (Halted c.entry_count.result) (returns-in-Some-delete_all-clause-carries g c)

pub returns-in-None-delete_all-2-clause-caused : goal.returns-in-None-delete_all-2-clause-caused
returns-in-None-delete_all-2-clause-caused g c = causes c.args.plan.now (g.K.Kernel.seen c.args.kernel.now) (g.K.Kernel.seen c.delete_all-in-Some.new.kernel) (Undone c.entry_count-request.result) (returns-in-None-delete_all-2-clause-carries g c)

pub returns-in-None-delete_all-2-clause-as_before : goal.returns-in-None-delete_all-2-clause-as_before
returns-in-None-delete_all-2-clause-as_before g c =
    as_before c.args.plan.now (g.K.Kernel.seen c.args.kernel.now) (g.K.Kernel.seen c.delete_all-in-Some.new.kernel) (g.K.Kernel.room c.args.kernel.now) (g.K.Kernel.room c.delete_all-in-Some.new.kernel) (Undone c.entry_count-request.result) c.requires (g.met.K.Kernel.sound c.delete_all-in-Some.new.kernel) (returns-in-None-delete_all-2-clause-carries g c)

pub returns-in-Some-delete_all-2-clause-caused : goal.returns-in-Some-delete_all-2-clause-caused
returns-in-Some-delete_all-2-clause-caused g c = causes c.args.plan.now (g.K.Kernel.seen c.args.kernel.now) (g.K.Kernel.seen c.delete_all-in-Some.new.kernel) (Halted c.entry_count-in-Some-delete_all-2.result) (returns-in-Some-delete_all-2-clause-carries g c)
