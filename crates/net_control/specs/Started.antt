-- What starting a controller asks of the kernel, and what it answers.
use Rattle.std.specs.Prelude.{◌≡◌, ℕ, ◌+◌, List, [], length, Result, Ok, Err}
use Rattle.kernel_model.specs.Segment.{done, IsUndoneAt, IsHalted}
use Rattle.kernel_model.specs.View.{KernelView, grown}
use Rattle.kernel_model.specs.declared.request.Entry.{Entry}
use Rattle.kernel_model.specs.declared.request.Request.{Request}
use Rattle.kernel_model.specs.Switch.{twins}
use Rattle.policy_state.specs.Table.{start_rules}
use Rattle.policy_state.specs.View.{start}
use Rattle.net_control.specs.View.{ControllerView, running}
use Rattle.net_control.specs.declared.controller.StartFault.{StartFault}
use Rattle.net_control.specs.declared.controller.StartFault.TheVariants as fault

-- the additions of the start: its rules, each for IPv4 and then for IPv6
abbrev pub start_adds : List Request
start_adds = twins start_rules

-- what an answer says of the kernel before and after; out of memory leaves it as it was
abbrev pub IsStarted : Result ControllerView StartFault → (before after : KernelView) → Type 0
IsStarted (Ok controller) before after = (after ≡ grown before (done start_adds []))
    × (controller ≡ running start)
IsStarted (Err (fault.Refused request)) before after =
    (k : ℕ) × (entries : List Entry) × IsUndoneAt start_adds k entries
    × (after ≡ grown before entries) × (request ≡ length before.journal + k + 1)
IsStarted (Err (fault.Halted request)) before after =
    (entries : List Entry) × IsHalted start_adds [] entries
    × (after ≡ grown before entries) × (request ≡ length before.journal + length entries)
IsStarted (Err (fault.Memory e)) before after = after ≡ before

-- the same of the requests alone, which leave a controller that runs to be made
abbrev pub IsStartAsked : Result (Unit {0}) StartFault → (before after : KernelView) → Type 0
IsStartAsked (Ok u) before after = IsStarted (Ok (running start)) before after
IsStartAsked (Err e) before after = IsStarted (Err e) before after
