use Rattle.std.proofs.Common.{◌≡◌, ◌++◌, map, take}
use Rattle.std.specs.Prelude.{flat_map}
use Rattle.std.specs.Option.{option_map}
use Rattle.network_store.specs.Store.{nets_of}
use Rattle.policy_state.specs.Rows.{items_at}
use Rattle.policy_state.specs.Table.{rule_of}
use Rattle.rule_compile.specs.Shapes.{shape_net}
use Rattle.rule_compile.proofs.rows.push_networks.Given as goal

abbrev pub invariant-loop-place : goal.invariant-loop-place
invariant-loop-place l = l.rules.items ≡ l.initial.rules.items ++ map (rule_of l.row) (flat_map (items_at l.set l.part l.default (option_map shape_net l.home)) (take l.place (nets_of l.networks)))
