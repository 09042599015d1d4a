-- Where a change touches a part of a state, the tables before and after differ by that part's rules.
use Rattle.std.proofs.Common.{◌≡◌, ◌∙◌, Bool, true, false, List, refl, ap, ap₂, map}
use Rattle.std.specs.Prelude.{flat_map}
use Rattle.std.specs.List.{list_all}
use Rattle.rule_kinds.specs.Kind.{rule_kind}
use Rattle.rule_law.specs.Plans.{beyond}
use Rattle.rule_law.specs.Rules.{HasEachOnce}
use Rattle.rule_match.specs.declared.rule.Rule.{Rule}
use Rattle.policy_state.specs.Good.{IsWellFormed}
use Rattle.policy_state.specs.Rows.{items}
use Rattle.policy_state.specs.declared.row.Item.{Item}
use Rattle.policy_state.specs.declared.row.Row.{Row}
use Rattle.policy_state.specs.declared.row.OnePer.{OnePer}
use Rattle.policy_state.specs.declared.row.NetworkSet.TheVariants.{OfLocal, OfPhysical, OfFree, OfDefault, OfVirtual, OfSecure, OfBypass}
use Rattle.policy_state.specs.declared.row.NetworkPart.TheVariants.{Whole, EachInterface, EachRange, EachDefault}
use Rattle.policy_state.specs.declared.row.OnePer.TheVariants.{Once, EachLockdown, EachPair, EachOf}
use Rattle.policy_state.specs.Table.{in_order, rows, rule_of, rules_in, rule_table}
use Rattle.policy_state.specs.View.{StateView}
use Rattle.policy_state.proofs.AlikeRules.{all-has}
use Rattle.policy_state.proofs.EachOnce.{rows-once}
use Rattle.policy_state.proofs.GoodStates.{is-good, are-once}
use Rattle.policy_state.proofs.Owners.{owners_of}
use Rattle.policy_state.proofs.RowItems.{once-has}
use Rattle.policy_state.proofs.RowTests.{rows_told, each_single_fit}
use Rattle.policy_state.proofs.Tables.{table-is}
use Rattle.rule_compile.specs.Touched.{Part, part_items, part_rules}
use Rattle.rule_compile.proofs.Cutting.{Cut, cut-each, cut-map, beyond-cut, beyond-in_order}

-- only VPNs have rules for the default network's interfaces
abbrev pub is_plain : OnePer → Bool
is_plain Once = true
is_plain EachLockdown = true
is_plain EachPair = true
is_plain (EachOf pick Whole) = true
is_plain (EachOf pick EachInterface) = true
is_plain (EachOf pick EachRange) = true
is_plain (EachOf OfLocal EachDefault) = false
is_plain (EachOf OfPhysical EachDefault) = false
is_plain (EachOf OfFree EachDefault) = false
is_plain (EachOf OfDefault EachDefault) = false
is_plain (EachOf OfVirtual EachDefault) = true
is_plain (EachOf OfSecure EachDefault) = false
is_plain (EachOf OfBypass EachDefault) = false

each_plain : list_all (λ (row : Row). is_plain row.per) rows ≡ true
each_plain = refl

-- one part of what there are rules for goes, another comes, and all else stays
pub record IsCut (s t : StateView) (gone come : Part) : Type 0 where
  pub stay : OnePer → List Item
  pub of_old : (per : OnePer) → is_plain per ≡ true → Cut (stay per) (part_items per gone) (items per s)
  pub of_new : (per : OnePer) → is_plain per ≡ true → Cut (stay per) (part_items per come) (items per t)

pub turned-back : (s t : StateView) (gone come : Part) → IsCut s t gone come → IsCut t s come gone
turned-back s t gone come h = record { stay = h.stay; of_old = h.of_new; of_new = h.of_old }

rows-cut : (s : StateView) (stay : OnePer → List Item) (part : Part) → ((per : OnePer) → is_plain per ≡ true → Cut (stay per) (part_items per part) (items per s))
    → Cut (flat_map (λ (row : Row). map (rule_of row) (stay row.per)) rows) (part_rules part) (flat_map (rules_in s) rows)
rows-cut s stay part cut =
    cut-each (λ (row : Row). map (rule_of row) (stay row.per)) (λ (row : Row). map (rule_of row) (part_items row.per part)) (rules_in s) rows (λ row there.
    cut-map (rule_of row) (stay row.per) (part_items row.per part) (items row.per s) (cut row.per (all-has (λ (row : Row). is_plain row.per) rows row each_plain there)))

pub rules-once : (s : StateView) → IsWellFormed s → HasEachOnce rule_kind (flat_map (rules_in s) rows)
rules-once s formed = once-has (flat_map (rules_in s) rows) (rows-once (owners_of s) s (is-good s formed) (are-once s formed) rows rows_told each_single_fit)

-- what the new table has and the old one lacks is what comes and doesn't go, in order of priority
pub table-beyond : (s t : StateView) (gone come : Part) → IsWellFormed t → IsCut s t gone come
    → beyond rule_kind (rule_table s) (rule_table t) ≡ in_order rule_kind (beyond rule_kind (part_rules gone) (part_rules come))
table-beyond s t gone come formed h =
    ap₂ (λ (old new : List Rule). beyond rule_kind old new) (table-is s) (table-is t)
    ∙ (beyond-in_order rule_kind (flat_map (rules_in s) rows) (flat_map (rules_in t) rows)
    ∙ ap (in_order rule_kind) (beyond-cut rule_kind (flat_map (rules_in s) rows) (flat_map (rules_in t) rows) (flat_map (λ (row : Row). map (rule_of row) (h.stay row.per)) rows) (part_rules gone) (part_rules come)
    (rows-cut s h.stay gone h.of_old) (rows-cut t h.stay come h.of_new) (rules-once t formed)))
