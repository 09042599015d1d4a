-- What is found of a command that no reason is against.
use Rattle.std.specs.Prelude.{◌≡◌, Bool}
use Rattle.commands.specs.declared.command.Command.{Command}
use Rattle.networks.specs.Kinds.{is_physical, is_virtual}
use Rattle.policy_state.specs.Change.{turned, Fits}
use Rattle.policy_state.specs.Routed.{NamesRoutes}
use Rattle.policy_state.specs.Step.{changed}
use Rattle.policy_state.specs.View.{Kind, StateView}
use Rattle.policy_state.specs.declared.accept_ranges.RangeKind.{RangeKind}
use Rattle.policy_state.specs.declared.accept_ranges.RangeKind.TheVariants.{Users, Apps}
use Rattle.policy_state.specs.declared.change.Change.{Change}

-- the change is what the command makes of the state, fits it, and takes the routes in or out that the command names
pub record Makes (s : StateView) (command : Command) (change : Change) : Type 0 where
  pub turned : turned change s ≡ changed s command
  pub fits : Fits change s
  pub routes : NamesRoutes change s command

-- which networks have such ranges
abbrev pub takes : RangeKind → Kind → Bool
takes Users kind = is_virtual kind
takes Apps kind = is_physical kind
