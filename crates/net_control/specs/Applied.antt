-- What a controller answers to a command, and what it asks of the kernel.
use Rattle.std.specs.Prelude.{◌≡◌, ◌⊎◌, ℕ, ◌+◌, ◌*◌, nat_lt, if◌then◌else◌, List, length, Option, Some, None, Result, Ok, Err}
use Rattle.std.specs.declared.alloc.AllocError.{AllocError}
use Rattle.net_names.specs.declared.code.Code.{Code}
use Rattle.net_names.specs.declared.code.Code.TheVariants as code
use Rattle.kernel_model.specs.Segment.{done, IsUndoneAt, IsHalted}
use Rattle.kernel_model.specs.View.{KernelView, grown}
use Rattle.kernel_model.specs.declared.request.Entry.{Entry}
use Rattle.kernel_model.specs.declared.request.Request.{Request}
use Rattle.policy_state.specs.Step.{refusal, changed}
use Rattle.policy_state.specs.View.{StateView}
use Rattle.commands.specs.declared.command.Command.{Command}
use Rattle.rule_compile.specs.Asked.{asked_adds, asked_deletes}
use Rattle.net_control.specs.Limit.{journal_limit}
use Rattle.net_control.specs.View.{ControllerView, running}
use Rattle.turn_text.specs.declared.answer.Answer.{Answer}
use Rattle.turn_text.specs.declared.answer.Answer.TheVariants as answer

abbrev pub adds_of : StateView → Command → List Request
adds_of state command = asked_adds state command

abbrev pub deletes_of : StateView → Command → List Request
deletes_of state command = asked_deletes state command

-- how many requests a command may take: each addition may have to be undone
abbrev pub most_requests : StateView → Command → ℕ
most_requests state command = 2 * length (adds_of state command) + length (deletes_of state command)

-- the first of two codes
abbrev pub or_else : Option Code → Option Code → Option Code
or_else (Some c) other = Some c
or_else None other = other

-- the policy's code, or else ENOSPC where the journal has no room for what the command may ask
abbrev pub code_of : StateView → List Entry → Command → Option Code
code_of state journal command =
    or_else (refusal state command)
    (if nat_lt journal_limit (length journal + most_requests state command) then Some code.NoSpace
    else None)

-- a running controller takes the command: neither the policy nor the journal refuses it
pub record IsTaken (old : ControllerView) (kernel : KernelView) (command : Command) : Type 0 where
  pub runs : old.halted ≡ None
  pub accepted : code_of old.state kernel.journal command ≡ None

-- What an answer says of the controller and the kernel, before and after. Running out of memory leaves both as they were.
abbrev pub IsAnswered : Result Answer AllocError → Command → (old new : ControllerView)
    → (before after : KernelView) → Type 0
IsAnswered (Ok answer.Done) command old new before after =
    IsTaken old before command
    × (after ≡ grown before (done (adds_of old.state command) (deletes_of old.state command)))
    × (new ≡ running (changed old.state command))
IsAnswered (Ok (answer.Refused c)) command old new before after =
    (old.halted ≡ None) × (code_of old.state before.journal command ≡ Some c) × (after ≡ before)
    × (new ≡ old)
IsAnswered (Ok (answer.KernelRefused request)) command old new before after =
    IsTaken old before command
    × ((k : ℕ) × (entries : List Entry) × IsUndoneAt (adds_of old.state command) k entries
    × (after ≡ grown before entries) × (request ≡ length before.journal + k + 1))
    × (new ≡ old)
IsAnswered (Ok (answer.Halted request)) command old new before after =
    ((old.halted ≡ Some request) × (after ≡ before) × (new ≡ old))
    ⊎ (IsTaken old before command
    × ((entries : List Entry)
    × IsHalted (adds_of old.state command) (deletes_of old.state command) entries
    × (after ≡ grown before entries) × (request ≡ length before.journal + length entries))
    × (new ≡ record old { halted = Some request }))
IsAnswered (Err e) command old new before after =
    (old.halted ≡ None) × (after ≡ before) × (new ≡ old)
