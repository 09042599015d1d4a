-- Where packets go, at every moment between two requests and after them.
use Rattle.std.specs.Prelude.{◌++◌, ◌≡◌, ◌≢◌, ℕ, ◌≤◌, List, length, None, Result, Ok, Err}
use Rattle.std.specs.declared.alloc.AllocError.{AllocError}
use Rattle.kernel_model.specs.Switch.{walk_along}
use Rattle.kernel_model.specs.View.{KernelView, grown, state_of}
use Rattle.kernel_model.specs.Walk.{walk}
use Rattle.kernel_model.specs.declared.request.Entry.{Entry}
use Rattle.net_control.specs.Causes.{RefusedNone}
use Rattle.net_control.specs.View.{ControllerView}
use Rattle.turn_text.specs.declared.answer.Answer.{Answer}
use Rattle.turn_text.specs.declared.answer.Answer.TheVariants as answer
use Rattle.net_control.specs.declared.controller.StartFault.{StartFault}
use Rattle.net_control.specs.declared.controller.StartFault.TheVariants as fault
use Rattle.policy_meaning.specs.Policy.{IsBarred, policy}
use Rattle.policy_meaning.specs.Promise.{StaysIn}
use Rattle.policy_state.specs.View.{StateView}
use Rattle.rule_law.specs.Plans.{GoesOver, GoesOverAndBack}
use Rattle.rule_match.specs.declared.packet.Packet.{Packet}

-- Unless the controller has halted, the kernel's rules send every packet where the policy of its state does, and what a
-- user other than root sends unprotected leaves by no link but one of a secure VPN, if that user is locked down.
pub record SendsByPolicy (controller : ControllerView) (kernel : KernelView) : Type 0 where
  pub everywhere : controller.halted ≡ None → (packet : Packet)
      → walk (state_of kernel) packet ≡ policy controller.state packet
  pub locked : controller.halted ≡ None → (packet : Packet) → IsBarred controller.state packet
      → packet.uid.number ≢ 0
      → StaysIn controller.state.networks (walk (state_of kernel) packet)

-- Between any two of the requests that were asked, each packet goes where the old state's policy sends it, or where the
-- new state's does: over once, and back where the requests were undone.
pub record KeepsPolicy (before after : KernelView) (old new : StateView) : Type 0 where
  pub entries : List Entry
  pub grew : after ≡ grown before entries
  pub moments : (packet : Packet)
      → GoesOverAndBack (length entries) (walk_along (state_of before) packet entries)
      (policy old packet) (policy new packet)

-- Lockdown at every moment: between any two of the requests that were asked, undoing and halts included, what a user
-- other than root sends unprotected leaves by no link but one of a VPN that is secure before or after, if that user is
-- locked down in both states.
abbrev pub KeepsLockdown : (before after : KernelView) (old new : StateView) → Type 0
KeepsLockdown before after old new =
    (entries : List Entry) → after ≡ grown before entries
    → (packet : Packet) → IsBarred old packet → IsBarred new packet → packet.uid.number ≢ 0
    → (i : ℕ) → i ≤ length entries
    → StaysIn (old.networks ++ new.networks) (walk_along (state_of before) packet entries i)

-- One switch: where no addition was refused, each packet goes over once at most and never back, also where a deletion
-- broke on the way.
abbrev pub GoesOnce : (before after : KernelView) (old new : StateView) → Type 0
GoesOnce before after old new =
    RefusedNone before after → (entries : List Entry) → after ≡ grown before entries
    → (packet : Packet)
    → GoesOver (length entries) (walk_along (state_of before) packet entries)
    (policy old packet) (policy new packet)

-- After a refusal by the kernel its rules, their order and its tables are the very ones from before.
abbrev pub IsAsBefore : Result Answer AllocError → (before after : KernelView) → Type 0
IsAsBefore a before after =
    (request : ℕ) → a ≡ Ok (answer.KernelRefused request) → state_of after ≡ state_of before

-- the same of a start that was refused
abbrev pub IsStartAsBefore : Result ControllerView StartFault → (before after : KernelView) → Type 0
IsStartAsBefore result before after =
    (request : ℕ) → result ≡ Err (fault.Refused request) → state_of after ≡ state_of before
