-- Why a controller answers as it does: what the policy and the journal say, and what the kernel's counts tell.
use Rattle.std.specs.Prelude.{◌≡◌, ◌⊎◌, ◌↔◌, ℕ, ◌<◌, Some, None, Result, Ok, Err, IsOk, IsSome}
use Rattle.std.specs.declared.alloc.AllocError.{AllocError}
use Rattle.net_names.specs.declared.code.Code.{Code}
use Rattle.kernel_model.specs.View.{KernelView, refusals_of, breaks_of}
use Rattle.commands.specs.declared.command.Command.{Command}
use Rattle.net_control.specs.Applied.{IsTaken, code_of}
use Rattle.net_control.specs.View.{ControllerView}
use Rattle.turn_text.specs.declared.answer.Answer.{Answer}
use Rattle.turn_text.specs.declared.answer.Answer.TheVariants as answer
use Rattle.net_control.specs.declared.controller.StartFault.{StartFault}
use Rattle.net_control.specs.declared.controller.StartFault.TheVariants as fault

-- an addition was refused
abbrev pub RefusedSome : (before after : KernelView) → Type 0
RefusedSome before after = refusals_of before < refusals_of after

-- a deletion broke
abbrev pub BrokeSome : (before after : KernelView) → Type 0
BrokeSome before after = breaks_of before < breaks_of after

abbrev pub BrokeNone : (before after : KernelView) → Type 0
BrokeNone before after = breaks_of after ≡ breaks_of before

abbrev pub RefusedNone : (before after : KernelView) → Type 0
RefusedNone before after = refusals_of after ≡ refusals_of before

-- Each answer to a command comes exactly where this holds; the first two, unless memory ran out.
pub record HasCause (a : Result Answer AllocError) (command : Command) (old new : ControllerView)
    (before after : KernelView) : Type 0 where
  -- the controller runs, the policy accepts, the journal has room, and nothing was refused or broke
  pub done : IsOk a → (a ≡ Ok answer.Done)
      ↔ (IsTaken old before command × RefusedNone before after × BrokeNone before after)
  -- the controller runs, and this is the first code
  pub refused : IsOk a → (c : Code) → (a ≡ Ok (answer.Refused c))
      ↔ ((old.halted ≡ None) × (code_of old.state before.journal command ≡ Some c))
  -- an addition was refused, and undoing did not break
  pub kernel_refused : ((request : ℕ) × (a ≡ Ok (answer.KernelRefused request)))
      ↔ (RefusedSome before after × BrokeNone before after)
  -- a deletion broke, or one broke before
  pub halted : ((request : ℕ) × (a ≡ Ok (answer.Halted request)))
      ↔ (BrokeSome before after ⊎ IsSome old.halted)
  -- then it is that request again
  pub halted_before : (request : ℕ) → old.halted ≡ Some request → a ≡ Ok (answer.Halted request)
  -- only thereby does the controller halt
  pub halts : IsSome new.halted ↔ (BrokeSome before after ⊎ IsSome old.halted)

-- the same of the start
pub record HasStartCause (result : Result ControllerView StartFault)
    (before after : KernelView) : Type 0 where
  pub started : IsOk result → RefusedNone before after × BrokeNone before after
  pub refused : ((request : ℕ) × (result ≡ Err (fault.Refused request)))
      ↔ (RefusedSome before after × BrokeNone before after)
  pub halted : ((request : ℕ) × (result ≡ Err (fault.Halted request))) ↔ BrokeSome before after
