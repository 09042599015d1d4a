use Rattle.std.proofs.Common.{◌≡◌, ◌++◌, take}
use Rattle.std.specs.Prelude.{flat_map}
use Rattle.rule_kinds.specs.Kind.{rule_kind}
use Rattle.policy_state.specs.Table.{in_order, rules_in}
use Rattle.rule_compile.proofs.table.push_rows.Given as goal

abbrev pub invariant-loop-row : goal.invariant-loop-row
invariant-loop-row l = l.rules.items ≡ l.initial.rules.items ++ flat_map (λ row. in_order rule_kind (rules_in l.state row)) (take l.row-index l.rows)
