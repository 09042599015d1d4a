use Rattle.std.proofs.Common.{◌≡◌, ◌++◌, map, take}
use Rattle.policy_state.specs.Table.{rule_of}
use Rattle.rule_compile.proofs.rows.push_each.Given as goal

abbrev pub invariant-loop-one : goal.invariant-loop-one
invariant-loop-one g l = l.rules.items ≡ l.initial.rules.items ++ map (rule_of l.row) (map g.T.HasItem.item (take l.one-index l.each))
