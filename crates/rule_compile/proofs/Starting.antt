-- The start: from the kernel's own rule alone to the table of the first state.
use Rattle.std.proofs.Common.{◌≡◌, ◌≢◌, ◌==◌, ◌∷◌, [], ℕ, refl, sym, inl, inr}
use Rattle.std.proofs.lemmas.Bool.{cases_Bool, eqb-true}
use Rattle.policy_state.proofs.Tables.{table-rises, table-behind_own}
use Rattle.prefixes.specs.declared.addr.Family.{Family}
use Rattle.prefixes.specs.declared.addr.Family.TheVariants as family
use Rattle.rule_law.specs.Rules as law
use Rattle.rule_law.specs.Plans.{AreOldAndNew}
use Rattle.rule_kinds.specs.Kind.{rule_kind}
use Rattle.kernel_model.specs.State.{start as kernel_start, rules_of, routes_of, own_rule}
use Rattle.fib_table.specs.Table.{routes_in}
use Rattle.kernel_model.specs.Stands.{Stands}
use Rattle.kernel_model.specs.Switch.{IsSwitch}
use Rattle.policy_state.specs.Table.{rule_table}
use Rattle.policy_state.specs.View.{start}
use Rattle.policy_state.proofs.FirstState.{good-start}
use Rattle.rule_compile.proofs.Tables.{table-once}

own-stands : (f : Family) → law.Stands rule_kind (rules_of kernel_start f) (own_rule ∷ [])
own-stands family.V4 = record { rises = (tt, tt); classes = λ rule. refl }
own-stands family.V6 = record { rises = (tt, tt); classes = λ rule. refl }

other_tables : (n : ℕ) → n ≢ 255 → routes_of n kernel_start.tables ≡ routes_in n []
other_tables n other = elim (cases_Bool (255 == n)) [
  | inl same ↦ absurd (other (sym (eqb-true 255 n same)))
  | inr apart ↦ rw apart refl
]

-- the starting kernel stands for no rule and no route
pub start-stands : Stands kernel_start [] []
start-stands = record { in_family = own-stands; own_table = refl; in_table = other_tables }

nothing_before : AreOldAndNew rule_kind [] (rule_table start)
unfolding rule_table
nothing_before = record {
  old_rises = tt;
  new_rises = table-rises start;
  old_once = tt;
  new_once = table-once start good-start.formed;
  same_order = λ rule. refl;
  new_behind = λ rule. refl;
}

pub start-is_switch : IsSwitch kernel_start [] (rule_table start) []
start-is_switch = record {
  in_family = own-stands;
  old_and_new = nothing_before;
  old_behind = tt;
  new_behind = table-behind_own start;
  unused = tt;
}
