use Rattle.std.proofs.Common.{◌≡◌, ◌++◌, map, take}
use Rattle.std.specs.Prelude.{flat_map}
use Rattle.rule_compile.specs.Shapes.{shape_net}
use Rattle.networks.specs.Kinds.{ranges_of}
use Rattle.policy_state.specs.Rows.{user_item}
use Rattle.policy_state.specs.Table.{rule_of}
use Rattle.rule_compile.proofs.rows.push_ranges.Given as goal

abbrev pub invariant-loop-link : goal.invariant-loop-link
invariant-loop-link l = l.rules.items ≡ l.initial.rules.items ++ map (rule_of l.row) (flat_map (λ link. map (user_item (shape_net l.network) link) (ranges_of (shape_net l.network).kind)) (take l.link-index (shape_net l.network).interfaces))
