use Rattle.std.proofs.Common.{◌≡◌, ◌++◌, map, take}
use Rattle.rule_compile.specs.Shapes.{shape_net}
use Rattle.networks.specs.Kinds.{ranges_of}
use Rattle.policy_state.specs.Rows.{user_item}
use Rattle.policy_state.specs.Table.{rule_of}
use Rattle.rule_compile.proofs.rows.push_ranges_at.Given as goal

abbrev pub invariant-loop-range : goal.invariant-loop-range
invariant-loop-range l = l.rules.items ≡ l.initial.rules.items ++ map (rule_of l.row) (map (user_item (shape_net l.network) l.link) (take l.range-index (ranges_of (shape_net l.network).kind)))
