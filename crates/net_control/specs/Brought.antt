-- What bringing a kernel and a state over to a change does to both.
use Rattle.std.specs.Prelude.{◌≡◌, Some, Result, Ok, Err}
use Rattle.std.specs.declared.alloc.AllocError.{AllocError}
use Rattle.kernel_model.specs.PlanView.{PlanView}
use Rattle.kernel_model.specs.View.{KernelView, state_of}
use Rattle.net_control.specs.View.{ControllerView}
use Rattle.net_control.specs.declared.bring.Stopped.{Stopped}
use Rattle.net_control.specs.declared.bring.Stopped.TheVariants as stopped
use Rattle.plan_exec.specs.Carries.{Carries, IsAsBefore}
use Rattle.plan_exec.specs.declared.Carried.{Carried}
use Rattle.plan_exec.specs.declared.Carried.TheVariants as carried
use Rattle.policy_state.specs.View.{StateView}
use Rattle.turn_text.specs.declared.answer.Answer.{Answer}
use Rattle.turn_text.specs.declared.answer.Answer.TheVariants as answer

-- how a plan was carried out, by what stopped it, if anything did
abbrev pub carried_as : Result (Unit {0}) Stopped → Carried
carried_as (Ok u) = carried.Done
carried_as (Err (stopped.Undone request)) = carried.Undone request
carried_as (Err (stopped.Halted request)) = carried.Halted request

-- the plan was carried out like this, and where it was undone the kernel's state is the one from before
pub record IsAsked (plan : PlanView) (before after : KernelView) (result : Result (Unit {0}) Stopped) : Type 0 where
  pub carries : Carries plan before after (carried_as result)
  pub as_before : IsAsBefore before after (carried_as result)

-- The state becomes another one just where the whole plan was carried out. Out of memory leaves all as it was.
abbrev pub IsBrought : Result Answer AllocError → PlanView → StateView → (old new : ControllerView) → (before after : KernelView) → Type 0
IsBrought (Ok answer.Done) plan next old new before after = Carries plan before after carried.Done × (new ≡ record old { state = next })
IsBrought (Ok (answer.Refused c)) plan next old new before after = ⊥
IsBrought (Ok (answer.KernelRefused request)) plan next old new before after =
    Carries plan before after (carried.Undone request) × (state_of after ≡ state_of before) × (new ≡ old)
IsBrought (Ok (answer.Halted request)) plan next old new before after =
    Carries plan before after (carried.Halted request) × (new ≡ record old { halted = Some request })
IsBrought (Err e) plan next old new before after = (after ≡ before) × (new ≡ old)
