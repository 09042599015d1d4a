use Rattle.std.proofs.Common.{◌≡◌, ◌++◌, map, take}
use Rattle.rule_compile.specs.Shapes.{shape_net}
use Rattle.policy_state.specs.Rows.{split_item}
use Rattle.policy_state.specs.Table.{rule_of}
use Rattle.rule_compile.proofs.rows.push_interfaces_of.Given as goal

abbrev pub invariant-loop-link : goal.invariant-loop-link
invariant-loop-link l = l.rules.items ≡ l.initial.rules.items ++ map (rule_of l.row) (map (split_item (shape_net l.network) l.needs) (take l.link-index l.links))
