-- Each rule of a table can be said: value 0 without a mask, and no link 0.
use Rattle.std.proofs.Common.{◌≡◌, ◌≢◌, ℕ, ◌≤◌, Bool, true, false, Some, None, refl, sym, subst, arith}
use Rattle.std.specs.Prelude.{Option, ◌||◌, nat_lt, if◌then◌else◌}
use Rattle.std.proofs.lemmas.Bool.{false≢true, and_parts, ltb-true}
use Rattle.fwmark.specs.Permission.{bits_of}
use Rattle.fwmark.specs.Selection.{Selection, mask_of, value_of, net_mask, net_value, flag_mask, flag_value}
use Rattle.kernel_model.specs.Form.{IsWellFormedRule}
use Rattle.rule_kinds.specs.Kind.{rule_kind}
use Rattle.rule_law.specs.Rules.{has}
use Rattle.rule_match.specs.declared.rule.Rule.{Rule}
use Rattle.policy_state.specs.View.{StateView}
use Rattle.policy_state.specs.declared.row.Item.{Item}
use Rattle.policy_state.specs.declared.row.Row.{Row}
use Rattle.policy_state.specs.declared.row.OnePer.{OnePer}
use Rattle.policy_state.specs.declared.row.OnePer.TheVariants.{Once, EachLockdown, EachPair, EachOf}
use Rattle.policy_state.specs.declared.row.Selector.{Selector}
use Rattle.policy_state.specs.declared.row.Selector.TheVariants.{Unstated, OfItem, OfRow}
use Rattle.policy_state.specs.Rows.{items, pair_item}
use Rattle.policy_state.specs.Table.{stated, rule_of, rows, table_by_rows, marks_of}
use Rattle.policy_state.proofs.RowTests.{has_links, is_formed, each_formed}
use Rattle.policy_state.proofs.Owners.{Has, HasLinks, of_map}
use Rattle.policy_state.proofs.RowItems.{Comes, comes, Linked, item-link}
use Rattle.policy_state.proofs.AlikeRules.{OfSomeRow, of_table, all-has}

net-none : (n : Option ℕ) → net_mask n ≡ 0 → net_value n ≡ 0
net-none None h = refl
net-none (Some n) h = absurd (omega (arith, h))

flag-none : (f : Option Bool) → flag_mask f ≡ 0 → flag_value f ≡ 0
flag-none None h = refl
flag-none (Some b) h = absurd (omega (arith, h))

-- without a mask there is no value
pub value-none : (m : Selection) → mask_of m ≡ 0 → value_of m ≡ 0
value-none m h =
    let net : net_value m.net ≡ 0 = net-none m.net (omega (arith, h)) in
    let explicit : flag_value m.explicit ≡ 0 = flag-none m.explicit (omega (arith, h)) in
    let guarded : flag_value m.guarded ≡ 0 = flag-none m.guarded (omega (arith, h)) in
    let bits : bits_of m.permission ≡ 0 = omega (arith, h) in
    omega (arith, net, explicit, guarded, bits)

record AreLinks (i : Item) : Type 0 where
  incoming : 1 ≤ i.incoming
  link : 1 ≤ i.link

module _ (s : StateView) (good : HasLinks s) where
  item-links : (per : OnePer) (i : Item) → has_links per ≡ true → Has (items per s) i → AreLinks i
  item-links Once i h there = absurd (false≢true h)
  item-links EachLockdown i h there = absurd (false≢true h)
  item-links EachPair i h there =
      let it = of_map pair_item s.pairs i there in
      let two = good.pairs it.one it.there in
      subst AreLinks (sym it.is) (record { incoming = omega (arith, two.0); link = two.1 })
  item-links (EachOf pick spread) i h there =
      let it : Comes s pick spread i = comes s pick spread i there in
      let linked : Linked it.net i = item-link spread h s it.net i it.item in
      let two : 2 ≤ i.link = good.interfaces it.net i.link it.there linked.link in
      record { incoming = omega (arith, two, linked.incoming); link = omega (arith, two) }

  pub row-formed : (row : Row) (i : Item) → is_formed row ≡ true → Has (items row.per s) i → IsWellFormedRule (rule_of row i)
  row-formed row i h there =
      let both = and_parts (has_links row.per || (if row.bound then false else true)) (elim row.incoming [ Unstated ↦ true | OfItem ↦ has_links row.per | OfRow link ↦ nat_lt 0 link ]) h in
      record {
        value = value-none (marks_of row i);
        incoming = incoming row.incoming both.1;
        outgoing = bound row.bound both.0;
      }
    where
      not_zero : (link : ℕ) → 1 ≤ link → (Some link ≡ Some 0) → ⊥
      not_zero link one is = let zero_is : link ≡ 0 = cc in omega (arith, one, zero_is)

      incoming : (f : Selector ℕ) → (elim f [ Unstated ↦ true | OfItem ↦ has_links row.per | OfRow link ↦ nat_lt 0 link ]) ≡ true → stated f i.incoming ≢ Some 0
      incoming Unstated t = λ e. cc
      incoming OfItem t = not_zero i.incoming (item-links row.per i t there).incoming
      incoming (OfRow link) t = not_zero link (ltb-true 0 link t)

      bound : (b : Bool) → (has_links row.per || (if b then false else true)) ≡ true → (if b then Some i.link else None) ≢ Some 0
      bound false t = λ e. cc
      bound true t = not_zero i.link (item-links row.per i (only (has_links row.per) t) there).link
        where
          only : (c : Bool) → (c || false) ≡ true → c ≡ true
          only true t = refl
          only false t = t

  pub table-formed : (x : Rule) → has rule_kind (table_by_rows s) x ≡ true → IsWellFormedRule x
  table-formed x there =
      let it : OfSomeRow s rows x = of_table s x there in
      subst IsWellFormedRule (sym it.is) (row-formed it.row it.item (all-has is_formed rows it.row each_formed it.there) it.comes)
