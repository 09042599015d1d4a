-- The rule table of a state: it rises, and past the kernel's own rule. Proofs that don't open the table go by these.
use Rattle.std.proofs.Common.{◌≡◌, ◌≤◌, refl, sym, subst, arith}
use Rattle.rule_kinds.specs.Kind.{rule_kind}
use Rattle.rule_law.specs.Rules.{Rises, NoneBelow}
use Rattle.rule_match.specs.declared.rule.Rule.{Rule}
use Rattle.policy_state.specs.Counts.{count_by_rows, rule_count}
use Rattle.policy_state.specs.Table.{table_by_rows, rule_table}
use Rattle.policy_state.specs.View.{StateView}
use Rattle.policy_state.proofs.Sorted.{Rises-in_order}
use Rattle.std.specs.Prelude.{nat_le, flat_map}
use Rattle.std.proofs.lemmas.Bool.{leb-true}
use Rattle.rule_law.proofs.Orders.{NoneBelow-from}
use Rattle.policy_state.specs.Rows.{Row}
use Rattle.policy_state.specs.Table.{rows, rules_in, priority_at}
use Rattle.policy_state.proofs.AlikeRules.{OfSomeRow, of_table, all-has}
use Rattle.policy_state.proofs.RowTests.{each_past}

pub table-is : (s : StateView) → rule_table s ≡ table_by_rows s
unfolding rule_table
table-is s = refl

pub count-is : (s : StateView) → rule_count s ≡ count_by_rows s
unfolding rule_count
count-is s = refl

table-past : (s : StateView) → NoneBelow rule_kind 1 (table_by_rows s)
table-past s = NoneBelow-from rule_kind 1 (table_by_rows s) (λ x there.
    let it : OfSomeRow s rows x = of_table s x there in
    let base : 1 ≤ it.row.base = leb-true 1 it.row.base (all-has (λ (row : Row). nat_le 1 row.base) rows it.row each_past it.there) in
    let above : it.row.base ≤ priority_at it.row it.item = omega arith in
    subst (λ (x : Rule). 1 ≤ x.priority) (sym it.is) (omega (arith, base, above)))

pub table-rises : (s : StateView) → Rises rule_kind (rule_table s)
table-rises s = subst (Rises rule_kind) (sym (table-is s)) (Rises-in_order rule_kind (flat_map (rules_in s) rows))

pub table-behind_own : (s : StateView) → NoneBelow rule_kind 1 (rule_table s)
table-behind_own s = subst (NoneBelow rule_kind 1) (sym (table-is s)) (table-past s)
