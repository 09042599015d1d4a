-- What contracts see of a controller, and when a kernel is as a controller left it.
use Rattle.std.specs.Prelude.{◌≡◌, ℕ, Option, None}
use Rattle.kernel_model.specs.Stands.{Stands}
use Rattle.kernel_model.specs.View.{KernelView, state_of}
use Rattle.policy_state.specs.Table.{rule_table, route_list}
use Rattle.policy_state.specs.Good.{IsGood}
use Rattle.policy_state.specs.View.{StateView}

pub record ControllerView : Type 0 where
  pub state : StateView
  -- the number of the request by which it halted
  pub halted : Option ℕ

abbrev pub running : StateView → ControllerView
running state = record { state = state; halted = None }

-- the kernel has the rules and the routes of the state
abbrev pub StandsFor : KernelView → StateView → Type 0
StandsFor kernel state = Stands (state_of kernel) (rule_table state) (route_list state)

-- the state is good, and unless the controller has halted the kernel stands for it
pub record IsKept (controller : ControllerView) (kernel : KernelView) : Type 0 where
  pub good : IsGood controller.state
  pub stands : controller.halted ≡ None → StandsFor kernel controller.state
