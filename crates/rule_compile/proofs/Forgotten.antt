-- No rule looks in the table of a link that is an interface of no network and the output of no tether pair.
use Rattle.std.proofs.Common.{◌≡◌, ◌∙◌, ◌==◌, ◌&&◌, ◌≤◌, ◌+◌, ℕ, Bool, true, false, not, Option, Some, None, List, [], ◌∷◌, refl, sym, ap, subst, inl, inr, arith}
use Rattle.std.specs.Prelude.{◌⊎◌}
use Rattle.std.specs.List.{list_any}
use Rattle.std.proofs.lemmas.Bool.{cases_Bool, false≢true, false_from_ne_true, eqb-true, eq-eqb}
use Rattle.list_lemmas.proofs.Numbers.{eqb-refl}
use Rattle.networks.specs.Kinds.{class_of}
use Rattle.networks.specs.Lists.{find_id}
use Rattle.networks.specs.declared.network.Network.{Network}
use Rattle.prefixes.specs.declared.route.Route.{Route}
use Rattle.rule_kinds.specs.Kind.{rule_kind}
use Rattle.rule_law.specs.Rules.{has}
use Rattle.rule_match.specs.Rule.{same_action}
use Rattle.rule_match.specs.declared.rule.Action.TheVariants as action
use Rattle.rule_match.specs.declared.rule.Rule.{Rule}
use Rattle.kernel_model.specs.State.{own_rule}
use Rattle.kernel_model.specs.Switch.{looks_in, AreUnused}
use Rattle.policy_state.specs.Good.{IsWellFormed}
use Rattle.policy_state.specs.Rows.{is_default, default_of, links_of, items_in, items, range_item, pair_item}
use Rattle.policy_state.specs.Step.{is_in, without_net}
use Rattle.policy_state.specs.Table.{leads_to, rule_table, rows}
use Rattle.policy_state.specs.View.{StateView}
use Rattle.policy_state.specs.declared.row.Item.{Item}
use Rattle.policy_state.specs.declared.row.NetworkPart.{NetworkPart}
use Rattle.policy_state.specs.declared.row.NetworkPart.TheVariants.{Whole, EachInterface, EachRange, EachDefault}
use Rattle.policy_state.specs.declared.row.OnePer.{OnePer}
use Rattle.policy_state.specs.declared.row.OnePer.TheVariants.{Once, EachLockdown, EachPair, EachOf}
use Rattle.policy_state.specs.declared.row.Target.{Target}
use Rattle.policy_state.specs.declared.row.Target.TheVariants.{ToLink, ToLocal, Prohibits, Refuses}
use Rattle.policy_state.specs.declared.tether.TetherPair.{TetherPair}
use Rattle.policy_state.proofs.Accepted.{is_in-at}
use Rattle.policy_state.proofs.AlikeRules.{OfSomeRow, of_table}
use Rattle.policy_state.proofs.GoodStates.{is-good, has-links}
use Rattle.policy_state.proofs.Owners.{Has, HasLinks, IsOwned, owners_of, Passing, of_any, any-from, OfMap, of_map, find-has}
use Rattle.policy_state.proofs.RowItems.{Comes, comes, Linked, item-link, of_whole, of_split, has-rule}
use Rattle.policy_state.proofs.Tables.{table-is}
use Rattle.rule_compile.proofs.RouteTables.{of_filter}
use Rattle.rule_compile.proofs.Thinning.{unlinked, after_link, stays}

pub record IsForgotten (t : StateView) (link : ℕ) : Type 0 where
  pub above : 1 ≤ link
  pub interfaces : (n : Network) → Has t.networks n → Has n.interfaces link → ⊥
  pub outputs : (pair : TetherPair) → Has t.pairs pair → pair.out ≡ link → ⊥

module _ (t : StateView) (link : ℕ) (gone : IsForgotten t link) where
  nothing-away : (i : Item) → i.link ≡ 0 → i.link ≡ link → ⊥
  nothing-away i none same = omega (arith, none, same, gone.above)

  in-home : (home : Option Network) → default_of t ≡ home → Has (links_of home) link → ⊥
  in-home None is h = h
  in-home (Some n) is h = gone.interfaces n (find-has (λ (n : Network). (class_of n.kind == 1) && is_default t.default n.id) t.networks n is) h

  in-part : (spread : NetworkPart) (n : Network) (i : Item) → Has t.networks n → Has (items_in spread (default_of t) n) i → i.link ≡ link → ⊥
  in-part Whole n i there h same = nothing-away i (ap (λ (i : Item). i.link) (of_whole t n i h)) same
  in-part EachInterface n i there h same = let it : Linked n i = item-link EachInterface refl t n i h in gone.interfaces n there (subst (Has n.interfaces) same it.link)
  in-part EachRange n i there h same = let it : Linked n i = item-link EachRange refl t n i h in gone.interfaces n there (subst (Has n.interfaces) same it.link)
  in-part EachDefault n i there h same =
      let it = of_split t n i h in
      in-home (default_of t) refl (subst (Has (links_of (default_of t))) (sym (ap (λ (i : Item). i.link) it.is) ∙ same) it.there)

  -- no item has the link
  item-away : (per : OnePer) (i : Item) → Has (items per t) i → i.link ≡ link → ⊥
  item-away Once i (inl e) same = nothing-away i (sym (ap (λ (i : Item). i.link) e)) same
  item-away Once i (inr f) same = f
  item-away EachLockdown i h same = nothing-away i (ap (λ (i : Item). i.link) (of_map range_item t.lockdown i h).is) same
  item-away EachPair i h same = let it = of_map pair_item t.pairs i h in gone.outputs it.one it.there (sym (ap (λ (i : Item). i.link) it.is) ∙ same)
  item-away (EachOf pick spread) i h same = let it : Comes t pick spread i = comes t pick spread i h in in-part spread it.net i it.there it.item same

  leads-away : (target : Target) (l : ℕ) → (l ≡ link → ⊥) → same_action (leads_to target l) (action.Table (1000 + link)) ≡ false
  leads-away ToLink l away = false_from_ne_true ((1000 + l) == (1000 + link)) (λ h. away (let same : 1000 + l ≡ 1000 + link = eqb-true (1000 + l) (1000 + link) h in omega (arith, same)))
  leads-away ToLocal l away = false_from_ne_true (97 == (1000 + link)) (λ h. let same : 97 ≡ 1000 + link = eqb-true 97 (1000 + link) h in omega (arith, same))
  leads-away Prohibits l away = refl
  leads-away Refuses l away = refl

  own-away : looks_in (1000 + link) own_rule ≡ false
  own-away = false_from_ne_true (255 == (1000 + link)) (λ h. let same : 255 ≡ 1000 + link = eqb-true 255 (1000 + link) h in omega (arith, same))

  rule-away : (x : Rule) → has rule_kind (rule_table t) x ≡ true → looks_in (1000 + link) x ≡ false
  rule-away x there =
      let it : OfSomeRow t rows x = of_table t x (subst (λ (rules : List Rule). has rule_kind rules x ≡ true) (table-is t) there) in
      ap (looks_in (1000 + link)) it.is ∙ leads-away it.row.target it.item.link (item-away it.row.per it.item it.comes)

  pub table-unused : list_any (looks_in (1000 + link)) (own_rule ∷ rule_table t) ≡ false
  table-unused = false_from_ne_true (list_any (looks_in (1000 + link)) (own_rule ∷ rule_table t)) (λ h.
      let it : Passing (looks_in (1000 + link)) (own_rule ∷ rule_table t) = of_any (looks_in (1000 + link)) (own_rule ∷ rule_table t) h in
      by it.one it.there it.passes)
    where
      by : (x : Rule) → Has (own_rule ∷ rule_table t) x → looks_in (1000 + link) x ≡ true → ⊥
      by x (inl own) passes = false≢true (sym own-away ∙ (ap (looks_in (1000 + link)) own ∙ passes))
      by x (inr there) passes = false≢true (sym (rule-away x (has-rule (rule_table t) x there)) ∙ passes)

-- routes of the tables of such links
pub tables-unused : (t : StateView) (gone : List (ℕ × Route)) → ((g : ℕ × Route) → Has gone g → (link : ℕ) × IsForgotten t link × (g.0 ≡ 1000 + link)) → AreUnused gone (own_rule ∷ rule_table t)
tables-unused t [] h = tt
tables-unused t (g ∷ gone) h =
    let it = h g (inl refl) in
    (ap (λ n. list_any (looks_in n) (own_rule ∷ rule_table t)) it.2 ∙ table-unused t it.0 it.1, tables-unused t gone (λ q there. h q (inr there)))

-- An interface that has left its network, and one whose network has gone.
module _ (s : StateView) (good : IsWellFormed s) (net : ℕ) (n : Network) (there : Has s.networks n) (id : n.id ≡ net) (link : ℕ) (has : Has n.interfaces link) where
  above : 1 ≤ link
  above = let links : HasLinks s = has-links s good in let two : 2 ≤ link = links.interfaces n link there has in omega arith

  -- it is an interface of no other network
  only-here : (m : Network) → Has s.networks m → Has m.interfaces link → (net == m.id) ≡ true
  only-here m in_m has_m =
      let own : IsOwned (owners_of s) s = is-good s good in
      eq-eqb net m.id (sym id ∙ (sym ((own.owns n there).links link has) ∙ (own.owns m in_m).links link has_m))

  passed : (b : Bool) → not b ≡ true → b ≡ true → ⊥
  passed true h e = false≢true h
  passed false h e = false≢true e

  pub link-forgotten : IsForgotten (after_link net link s) link
  link-forgotten = record {
    above = above;
    interfaces = λ k in_k h. let it : OfMap (unlinked net link) s.networks k = of_map (unlinked net link) s.networks k in_k in by it.one it.there (subst (λ (k : Network). Has k.interfaces link) it.is h) (cases_Bool (net == it.one.id));
    outputs = λ pair h same. passed (pair.out == link) (of_filter (λ (p : TetherPair). not (p.out == link)) s.pairs pair h).1 (eq-eqb pair.out link same);
  }
    where
      by : (m : Network) → Has s.networks m → Has (unlinked net link m).interfaces link → ((net == m.id) ≡ true) ⊎ ((net == m.id) ≡ false) → ⊥
      by m in_m h (inl here) = passed (link == link) (of_filter (λ i. not (i == link)) m.interfaces link (rw here at h)).1 (eqb-refl link)
      by m in_m h (inr apart) = false≢true (sym apart ∙ only-here m in_m (rw apart at h))

  pub net-forgotten : find_id net s.networks ≡ Some n → IsForgotten (without_net net s) link
  net-forgotten found = record {
    above = above;
    interfaces = λ m in_m h. let both = of_filter (stays net) s.networks m in_m in passed (net == m.id) both.1 (only-here m both.0 h);
    outputs = λ pair h same.
        passed (is_in s net pair.out) (of_filter (λ (p : TetherPair). not (is_in s net p.out)) s.pairs pair h).1
        (is_in-at s net n found pair.out ∙ any-from (λ i. i == pair.out) n.interfaces link has (eq-eqb link pair.out (sym same)));
  }
