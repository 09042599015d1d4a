-- What a rule does, as it is printed: after the ip-rule manual.
use Rattle.std.specs.Prelude.{ℕ, List, ◌++◌, codes}
use Rattle.std.specs.Fmt.{decimal}
use Rattle.rule_match.specs.declared.rule.Action.{Action}
use Rattle.rule_match.specs.declared.rule.Action.TheVariants as action

abbrev pub action_text : Action → List ℕ
action_text (action.Table table) = codes "lookup " ++ decimal table
action_text action.Prohibit = codes "prohibit"
action_text action.Unreachable = codes "unreachable"
