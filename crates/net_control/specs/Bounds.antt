-- How much a command asks, and that a journal keeps its limit.
use Rattle.std.specs.Prelude.{◌+◌, ◌≤◌, length}
use Rattle.kernel_model.specs.View.{KernelView}
use Rattle.policy_state.specs.View.{StateView}
use Rattle.commands.specs.declared.command.Command.{Command}
use Rattle.net_control.specs.Applied.{most_requests}
use Rattle.net_control.specs.Limit.{journal_limit}

-- a command asks at most twice for each addition and once for each deletion, and a journal within its limit stays within it
pub record KeepsLimit (state : StateView) (command : Command)
    (before after : KernelView) : Type 0 where
  pub asked : length after.journal ≤ length before.journal + most_requests state command
  pub within : length before.journal ≤ journal_limit → length after.journal ≤ journal_limit
