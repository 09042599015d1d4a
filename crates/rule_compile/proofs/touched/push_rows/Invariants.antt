use Rattle.std.proofs.Common.{◌≡◌, ◌++◌, map, take}
use Rattle.std.specs.Prelude.{flat_map}
use Rattle.policy_state.specs.Table.{rule_of}
use Rattle.rule_compile.specs.PartOf.{part_of}
use Rattle.rule_compile.specs.Touched.{part_items}
use Rattle.rule_compile.proofs.touched.push_rows.Given as goal

abbrev pub invariant-loop-row : goal.invariant-loop-row
invariant-loop-row l = l.rules.items ≡ l.initial.rules.items ++ flat_map (λ row. map (rule_of row) (part_items row.per (part_of l.touched))) (take l.row-index l.rows)
