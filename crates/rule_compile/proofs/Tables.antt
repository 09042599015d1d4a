-- The tables of a state before and after a command are as the two-lists law asks.
use Rattle.std.proofs.Common.{ℕ, [], ◌∷◌, List, subst, sym}
use Rattle.prefixes.specs.declared.addr.Family.{Family}
use Rattle.prefixes.specs.declared.route.Route.{Route}
use Rattle.rule_law.specs.Rules as law
use Rattle.rule_law.specs.Rules.{HasEachOnce, GiversAreAlike}
use Rattle.rule_law.specs.Plans.{AreOldAndNew}
use Rattle.rule_law.proofs.Turning.{TurnsInto-conditions}
use Rattle.rule_match.specs.declared.packet.Packet.{Packet}
use Rattle.rule_match.specs.declared.rule.Rule.{Rule}
use Rattle.rule_kinds.specs.Kind.{rule_kind}
use Rattle.kernel_model.specs.State.{KernelState, NumberedTable, rules_of, own_rule}
use Rattle.kernel_model.specs.Switch.{AreUnused, IsSwitch}
use Rattle.kernel_model.specs.Walk.{rule_gives}
use Rattle.kernel_model.proofs.Levels.{givers-alike}
use Rattle.policy_state.specs.Good.{IsGood, IsWellFormed}
use Rattle.policy_state.specs.Step.{changed}
use Rattle.policy_state.specs.Table.{table_by_rows, rule_table}
use Rattle.policy_state.specs.View.{StateView}
use Rattle.commands.specs.declared.command.Command.{Command}
use Rattle.policy_state.proofs.Goodness.{good-changed}
use Rattle.policy_state.proofs.AlikeRules as alike
use Rattle.policy_state.proofs.EachOnce as once
use Rattle.policy_state.proofs.GoodStates.{is-good, are-once}
use Rattle.policy_state.proofs.Owners.{owners_of}
use Rattle.policy_state.proofs.Tables.{table-is, table-rises, table-behind_own}
use Rattle.rule_compile.specs.Asked.{MayStep}
use Rattle.rule_compile.proofs.ChangeKinds.{TableTurns}
use Rattle.rule_compile.proofs.Steps.{step-turns}

pub table-once : (s : StateView) → IsWellFormed s → HasEachOnce rule_kind (rule_table s)
table-once s good = subst (HasEachOnce rule_kind) (sym (table-is s)) (once.table-once (owners_of s) s (is-good s good) (are-once s good))

-- any two states, the table of one of which turns into that of the other
pub tables-lawful : (s t : StateView) → IsWellFormed s → IsWellFormed t → TableTurns s t → AreOldAndNew rule_kind (rule_table s) (rule_table t)
tables-lawful s t good good' turns =
    let order = TurnsInto-conditions rule_kind (rule_table s) (rule_table t) turns in
    record {
      old_rises = table-rises s;
      new_rises = table-rises t;
      old_once = table-once s good;
      new_once = table-once t good';
      same_order = order.0;
      new_behind = order.1;
    }

-- the state after a command is good
pub after-good : (k : KernelState) (s : StateView) (command : Command) → MayStep k s command → IsGood (changed s command)
after-good k s command may = good-changed s command may.good may.fits may.accepted

-- two rules of a table that have equal priority and give a packet something have equal selectors
pub table-givers : (s : StateView) (tables : List NumberedTable) (p : Packet) → IsGood s → GiversAreAlike rule_kind (rule_gives tables p) (rule_table s)
table-givers s tables p good =
    subst (λ (rules : List Rule). GiversAreAlike rule_kind (rule_gives tables p) rules) (sym (table-is s))
    (givers-alike (table_by_rows s) tables p (λ x y in_x in_y same m n. alike.table-alike (owners_of s) s (is-good s good.formed) p x y in_x in_y m n same))

-- a kernel that has the rules of the one state is brought to those of the other, and routes go in tables that no rule looks in any more
pub switch-between : (k : KernelState) (s t : StateView) (gone : List (ℕ × Route)) → IsGood s → IsGood t → TableTurns s t
    → ((f : Family) → law.Stands rule_kind (rules_of k f) (own_rule ∷ rule_table s)) → AreUnused gone (own_rule ∷ rule_table t) → IsSwitch k (rule_table s) (rule_table t) gone
switch-between k s t gone good after turns in_family unused = record {
  in_family = in_family;
  old_and_new = tables-lawful s t good.formed after.formed turns;
  old_behind = table-behind_own s;
  new_behind = table-behind_own t;
  unused = unused;
}

pub table-turns : (k : KernelState) (s : StateView) (command : Command) → MayStep k s command → TableTurns s (changed s command)
table-turns k s command may = step-turns s command may.accepted may.good.formed (after-good k s command may).formed

pub switch-with : (k : KernelState) (s : StateView) (command : Command) → MayStep k s command → (gone : List (ℕ × Route)) → AreUnused gone (own_rule ∷ rule_table (changed s command))
    → IsSwitch k (rule_table s) (rule_table (changed s command)) gone
switch-with k s command may gone unused =
    switch-between k s (changed s command) gone may.good (after-good k s command may) (table-turns k s command may) may.stands.in_family unused

pub is_switch : (k : KernelState) (s : StateView) (command : Command) → MayStep k s command → IsSwitch k (rule_table s) (rule_table (changed s command)) []
is_switch k s command may = switch-with k s command may [] tt
