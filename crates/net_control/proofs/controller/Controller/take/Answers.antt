use Rattle.std.proofs.Common.{◌≡◌, ◌∙◌, ◌+◌, ◌*◌, ◌≤◌, None, Option, ℕ, length, sym, ap, subst, arith}
use Rattle.commands.specs.declared.command.Command.{Command}
use Rattle.kernel_model.specs.PlanView.{PlanView}
use Rattle.kernel_model.specs.View.{KernelView, state_of}
use Rattle.policy_state.specs.Change.{turned}
use Rattle.policy_state.specs.View.{StateView}
use Rattle.rule_compile.specs.Asked.{asked, MayStep}
use Rattle.net_control.specs.Applied.{IsAnswered}
use Rattle.net_control.specs.Brought.{IsBrought}
use Rattle.net_control.specs.View.{ControllerView, IsKept}
use Rattle.net_control.proofs.Bringing.{brought_answer, brought_kept}
use Rattle.net_control.proofs.Carrying.{may_carry, may_step, taken}
use Rattle.net_control.proofs.controller.Controller.take.Goals as goal

-- a controller of this state
abbrev of : StateView → Option ℕ → ControllerView
of state halted = record { state = state; halted = halted }

pub bring-requires-clause-may : goal.bring-requires-clause-may
bring-requires-clause-may g c =
    let s : StateView = c.self.inside.state in
    let command : Command = c.args.command.now in
    let before : KernelView = g.K.Kernel.seen c.args.kernel.now in
    let plan : PlanView = c.in_ok-plan.plan in
    let kept : IsKept (of s c.self.inside.halted) before = subst (λ (v : ControllerView). IsKept v before) (sym c.self.view_is) c.requires.kept in
    let runs : c.self.inside.halted ≡ None = ap (λ (v : ControllerView). v.halted) c.self.view_is ∙ c.requires.runs in
    let may : MayStep (state_of before) s command =
    may_step (of s c.self.inside.halted) before command kept runs c.fits_types.ensures (sym c.in-Ok.ensures.code) in
    let is : plan ≡ asked s command = c.in_ok-plan.ensures command c.in-Ok.ensures.makes.routes c.in-Ok.ensures.makes.turned in
    let room : 2 * length plan.adds + length plan.deletes ≤ (g.K.Kernel.room c.make_room.new.kernel).spare =
    omega (arith, c.in-Some.ensures.0, c.in_ok-make_room.ensures.spare) in
    may_carry plan (asked s command) before (g.K.Kernel.seen c.make_room.new.kernel) (g.K.Kernel.room c.make_room.new.kernel) is c.make_room.ensures.seen
    (c.requests_can_be_asked.ensures.distinct (state_of before) s command may) (c.requests_can_be_asked.ensures.absent (state_of before) s command may)
    (c.requests_can_be_asked.ensures.present (state_of before) s command may) (c.requests_can_be_asked.ensures.one_kind s command)
    room c.in_ok-make_room.ensures.ready

pub returns-clause-answer : goal.returns-clause-answer
returns-clause-answer g c =
    let s : StateView = c.self.inside.state in
    let command : Command = c.args.command.now in
    let before : KernelView = g.K.Kernel.seen c.args.kernel.now in
    let plan : PlanView = c.in_ok-plan.plan in
    let old : ControllerView = of s c.self.inside.halted in
    let runs : c.self.inside.halted ≡ None = ap (λ (v : ControllerView). v.halted) c.self.view_is ∙ c.requires.runs in
    let is : plan ≡ asked s command = c.in_ok-plan.ensures command c.in-Ok.ensures.makes.routes c.in-Ok.ensures.makes.turned in
    let room : length before.journal + (2 * length plan.adds + length plan.deletes) ≤ 1000000 = omega (arith, c.in-Some.ensures.0, c.in-Some.ensures.1) in
    let did : IsBrought c.bring.result plan (turned c.in-Ok.change s) old c.bring.new.self (g.K.Kernel.seen c.make_room.new.kernel) (g.K.Kernel.seen c.bring.new.kernel) =
    subst (λ (v : ControllerView). IsBrought c.bring.result plan (turned c.in-Ok.change v.state) v c.bring.new.self (g.K.Kernel.seen c.make_room.new.kernel) (g.K.Kernel.seen c.bring.new.kernel))
    (sym c.self.view_is) c.bring.ensures in
    subst (λ (v : ControllerView). IsAnswered c.bring.result command v c.bring.new.self before (g.K.Kernel.seen c.bring.new.kernel)) c.self.view_is
    (brought_answer c.bring.result plan (turned c.in-Ok.change s) command old c.bring.new.self before (g.K.Kernel.seen c.make_room.new.kernel) (g.K.Kernel.seen c.bring.new.kernel)
    (taken old before plan command runs (sym c.in-Ok.ensures.code) is room) is c.make_room.ensures.seen c.in-Ok.ensures.makes.turned did)

pub returns-clause-kept : goal.returns-clause-kept
returns-clause-kept g c =
    let s : StateView = c.self.inside.state in
    let command : Command = c.args.command.now in
    let before : KernelView = g.K.Kernel.seen c.args.kernel.now in
    let plan : PlanView = c.in_ok-plan.plan in
    let old : ControllerView = of s c.self.inside.halted in
    let kept : IsKept old before = subst (λ (v : ControllerView). IsKept v before) (sym c.self.view_is) c.requires.kept in
    let runs : c.self.inside.halted ≡ None = ap (λ (v : ControllerView). v.halted) c.self.view_is ∙ c.requires.runs in
    let may : MayStep (state_of before) s command = may_step old before command kept runs c.fits_types.ensures (sym c.in-Ok.ensures.code) in
    let is : plan ≡ asked s command = c.in_ok-plan.ensures command c.in-Ok.ensures.makes.routes c.in-Ok.ensures.makes.turned in
    let did : IsBrought c.bring.result plan (turned c.in-Ok.change s) old c.bring.new.self (g.K.Kernel.seen c.make_room.new.kernel) (g.K.Kernel.seen c.bring.new.kernel) =
    subst (λ (v : ControllerView). IsBrought c.bring.result plan (turned c.in-Ok.change v.state) v c.bring.new.self (g.K.Kernel.seen c.make_room.new.kernel) (g.K.Kernel.seen c.bring.new.kernel))
    (sym c.self.view_is) c.bring.ensures in
    brought_kept c.bring.result plan (turned c.in-Ok.change s) command old c.bring.new.self before (g.K.Kernel.seen c.make_room.new.kernel) (g.K.Kernel.seen c.bring.new.kernel)
    kept c.in-Ok.ensures.good (c.plan_ends.ensures.done (state_of before) s command may) is c.make_room.ensures.seen c.in-Ok.ensures.makes.turned did
