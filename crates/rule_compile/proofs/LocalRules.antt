-- The rules of an interface that leaves the local network: those that go are for packets bound to it, and lead to the local network's table.
use Rattle.std.proofs.Common.{◌≡◌, ◌∙◌, ◌==◌, ◌&&◌, ℕ, Bool, true, false, not, Option, Some, None, List, [], refl, sym, ap, subst, inl, inr, map, arith}
use Rattle.std.specs.Prelude.{flat_map, ◌⊎◌, if◌then◌else◌}
use Rattle.std.specs.List.{list_all}
use Rattle.std.specs.Option.{option_map}
use Rattle.std.proofs.lemmas.Bool.{cases_Bool, false≢true, false_from_ne_true, and_parts, eqb-true, eq-eqb}
use Rattle.networks.specs.Kinds.{class_of, ranges_of, is_local}
use Rattle.networks.specs.declared.kind.Kind.{Kind}
use Rattle.networks.specs.declared.kind.Kind.TheVariants as kind
use Rattle.networks.specs.declared.network.Network.{Network}
use Rattle.rule_law.specs.Plans.{beyond}
use Rattle.rule_law.specs.Rules.{has}
use Rattle.rule_law.proofs.Membership.{filter-none}
use Rattle.rule_match.specs.declared.rule.Action.TheVariants as action
use Rattle.rule_match.specs.declared.rule.Rule.{Rule}
use Rattle.rule_kinds.specs.Kind.{rule_kind}
use Rattle.uid_ranges.specs.declared.ranked.Ranked.{Ranked}
use Rattle.policy_state.specs.Good.{IsWellFormed}
use Rattle.policy_state.specs.Rows.{items, items_in, items_at, picks, is_default, default_of, link_item, pair_item}
use Rattle.policy_state.specs.Step.{without_link}
use Rattle.policy_state.specs.Table.{rows, rule_of, rules_in, leads_to, table_of, local_table, rule_table}
use Rattle.policy_state.specs.View.{StateView}
use Rattle.policy_state.specs.declared.row.Item.{Item}
use Rattle.policy_state.specs.declared.row.NetworkPart.{NetworkPart}
use Rattle.policy_state.specs.declared.row.NetworkPart.TheVariants.{Whole, EachInterface, EachRange, EachDefault}
use Rattle.policy_state.specs.declared.row.NetworkSet.{NetworkSet}
use Rattle.policy_state.specs.declared.row.NetworkSet.TheVariants.{OfLocal, OfPhysical, OfFree, OfDefault, OfVirtual, OfSecure, OfBypass}
use Rattle.policy_state.specs.declared.row.OnePer.{OnePer}
use Rattle.policy_state.specs.declared.row.OnePer.TheVariants.{Once, EachLockdown, EachPair, EachOf}
use Rattle.policy_state.specs.declared.row.Row.{Row}
use Rattle.policy_state.specs.declared.row.Target.{Target}
use Rattle.policy_state.specs.declared.row.Target.TheVariants.{ToLink, ToLocal, Prohibits, Refuses}
use Rattle.policy_state.specs.declared.tether.TetherPair.{TetherPair}
use Rattle.policy_state.proofs.AlikeRules.{OfSomeRow, of_table, all-has}
use Rattle.policy_state.proofs.GoodStates.{is-good, is-whole}
use Rattle.policy_state.proofs.Owners.{Has, IsOwned, IsOutput, owners_of, OfMap, of_map}
use Rattle.policy_state.proofs.RowItems.{Comes, comes, OfUsers, of_users, of_links, picked-family, has_map, has_flat, has_at, has-rule}
use Rattle.policy_state.proofs.RowTests.{network_class}
use Rattle.policy_state.proofs.Sorted.{has_in_order}
use Rattle.policy_state.proofs.Tables.{table-is}
use Rattle.rule_compile.proofs.ChangeKinds.{default-mapped, thins-shrinks}
use Rattle.rule_compile.proofs.Changes.{Left, Nothing, Stays, Goes}
use Rattle.rule_compile.proofs.Defaults.{Found, of_find}
use Rattle.rule_compile.proofs.RouteTables.{has_filtered}
use Rattle.rule_compile.proofs.Thinning.{unlinked, after_link, link-thins}

-- Rows with a rule for each interface of the local network: bound to it, and to the local network's table.

abbrev is_to_local : Target → Bool
is_to_local ToLink = false
is_to_local ToLocal = true
is_to_local Prohibits = false
is_to_local Refuses = false

abbrev is_bound_local : OnePer → Row → Bool
is_bound_local (EachOf OfLocal EachInterface) row = row.bound && is_to_local row.target
is_bound_local _ row = true

each_bound_local : list_all (λ row. is_bound_local row.per row) rows ≡ true
each_bound_local = refl

to_local : (target : Target) (link : ℕ) → is_to_local target ≡ true → leads_to target link ≡ action.Table local_table
to_local ToLink link h = absurd (false≢true h)
to_local ToLocal link h = refl
to_local Prohibits link h = absurd (false≢true h)
to_local Refuses link h = absurd (false≢true h)

-- the local network

local-class : (k : Kind) → is_local k ≡ true → class_of k ≡ 0
local-class kind.Local h = refl
local-class (kind.Physical permission apps) h = absurd (false≢true h)
local-class (kind.Virtual secure users) h = absurd (false≢true h)

local-users : (k : Kind) → is_local k ≡ true → ranges_of k ≡ []
local-users kind.Local h = refl
local-users (kind.Physical permission apps) h = absurd (false≢true h)
local-users (kind.Virtual secure users) h = absurd (false≢true h)

local-table : (k : Kind) (link : ℕ) → is_local k ≡ true → table_of k link ≡ local_table
local-table kind.Local link h = refl
local-table (kind.Physical permission apps) link h = absurd (false≢true h)
local-table (kind.Virtual secure users) link h = absurd (false≢true h)

picked-local : (pick : NetworkSet) → network_class pick ≡ 0 → pick ≡ OfLocal
picked-local OfLocal h = refl
picked-local OfPhysical h = absurd (omega (arith, h))
picked-local OfFree h = absurd (omega (arith, h))
picked-local OfDefault h = absurd (omega (arith, h))
picked-local OfVirtual h = absurd (omega (arith, h))
picked-local OfSecure h = absurd (omega (arith, h))
picked-local OfBypass h = absurd (omega (arith, h))

left-has : {A : Type 0} (xs ys : List A) (y : A) → Left xs ys → Has ys y → Has xs y
left-has _ _ y Nothing h = h
left-has _ _ y (Stays x xs ys l) (inl e) = inl e
left-has _ _ y (Stays x xs ys l) (inr h) = inr (left-has xs ys y l h)
left-has _ _ y (Goes x xs ys l) h = inr (left-has xs ys y l h)

-- a rule of a row's item is one of the table
in-table : (s : StateView) (row : Row) (i : Item) (x : Rule) → Has rows row → Has (items row.per s) i → x ≡ rule_of row i → has rule_kind (rule_table s) x ≡ true
in-table s row i x there comes is =
    ap (λ rules. has rule_kind rules x) (table-is s)
    ∙ (has_in_order rule_kind x (flat_map (rules_in s) rows)
    ∙ has-rule (flat_map (rules_in s) rows) x (has_flat (rules_in s) rows row x there (subst (Has (rules_in s row)) (sym is) (has_map (rule_of row) (items row.per s) i comes))))

from-table : (s : StateView) (x : Rule) → has rule_kind (rule_table s) x ≡ true → OfSomeRow s rows x
from-table s x h = of_table s x (sym (ap (λ rules. has rule_kind rules x) (table-is s)) ∙ h)

-- An interface of the local network leaves, in a good state.
module _ (s : StateView) (good : IsWellFormed s) (net link : ℕ) (n : Network) (there : Has s.networks n) (id : n.id ≡ net) (has_link : Has n.interfaces link) (local : is_local n.kind ≡ true) where
  abbrev t : StateView
  t = after_link net link s

  own : IsOwned (owners_of s) s
  own = is-good s good

  is-it : (m : Network) → Has s.networks m → (net == m.id) ≡ true → m ≡ n
  is-it m h here = own.one_id m n h there (sym (eqb-true net m.id here) ∙ sym id)

  -- another network stays as it is
  other-stays : (m : Network) → (net == m.id) ≡ false → unlinked net link m ≡ m
  other-stays m apart = ap (λ b. if b then without_link link m else m) apart

  in-after : (m : Network) → Has s.networks m → (net == m.id) ≡ false → Has t.networks m
  in-after m h apart = subst (Has (map (unlinked net link) s.networks)) (other-stays m apart) (has_map (unlinked net link) s.networks m h)

  it-after : Has t.networks (without_link link n)
  it-after = subst (Has (map (unlinked net link) s.networks)) (ap (λ b. if b then without_link link n else n) (eq-eqb net n.id (sym id))) (has_map (unlinked net link) s.networks n there)

  default-same : default_of t ≡ default_of s
  default-same = default-mapped (unlinked net link) ids classes s.default s.networks ∙ by (default_of s) refl
    where
      ids : (m : Network) → (unlinked net link m).id ≡ m.id
      ids m = each (net == m.id)
        where
          each : (b : Bool) → (if b then without_link link m else m).id ≡ m.id
          each true = refl
          each false = refl

      classes : (m : Network) → class_of (unlinked net link m).kind ≡ class_of m.kind
      classes m = each (net == m.id)
        where
          each : (b : Bool) → class_of (if b then without_link link m else m).kind ≡ class_of m.kind
          each true = refl
          each false = refl

      by : (o : Option Network) → default_of s ≡ o → option_map (unlinked net link) o ≡ o
      by None is = refl
      by (Some m) is =
          let it : Found (λ (n : Network). (class_of n.kind == 1) && is_default s.default n.id) s.networks m = of_find (λ (n : Network). (class_of n.kind == 1) && is_default s.default n.id) s.networks m is in
          let physical : class_of m.kind ≡ 1 = eqb-true (class_of m.kind) 1 (and_parts (class_of m.kind == 1) (is_default s.default m.id) it.passes).0 in
          ap Some (other-stays m (false_from_ne_true (net == m.id) (λ here.
          omega (arith, physical, ap (λ (m : Network). class_of m.kind) (is-it m it.there here), local-class n.kind local))))

  -- which item goes
  record Going (per : OnePer) (i : Item) : Type 0 where
    per_is : per ≡ EachOf OfLocal EachInterface
    item : i ≡ link_item n link

  -- of the local network's items
  of-local : (spread : NetworkPart) (i : Item) → Has (items_in spread (default_of s) n) i → Has (items_in spread (default_of t) (without_link link n)) i ⊎ Going (EachOf OfLocal spread) i
  of-local Whole i h = inl h
  of-local EachInterface i h = elim (cases_Bool (it.one == link)) [
    | inl goes ↦ inr (record { per_is = refl; item = it.is ∙ ap (link_item n) (eqb-true it.one link goes) })
    | inr stays ↦ inl (subst (Has (map (link_item n) (without_link link n).interfaces)) (sym it.is)
        (has_map (link_item n) (without_link link n).interfaces it.one (has_filtered (λ i. not (i == link)) n.interfaces it.one it.there (ap not stays))))
  ]
    where
      it : OfMap (link_item n) n.interfaces i
      it = of_links s n i h
  of-local EachRange i h =
      let it : OfUsers n i = of_users s n i h in
      absurd (subst (λ (rs : List Ranked). Has rs it.r) (local-users n.kind local) it.ranged)
  of-local EachDefault i h = inl (subst (λ home. Has (items_in EachDefault home (without_link link n)) i) (sym default-same) h)

  of-net : (pick : NetworkSet) (spread : NetworkPart) (i : Item) → Comes s pick spread i → Has (items (EachOf pick spread) t) i ⊎ Going (EachOf pick spread) i
  of-net pick spread i it = elim (cases_Bool (net == it.net.id)) [
    | inl here ↦
        let is : it.net ≡ n = is-it it.net it.there here in
        let picked : picks pick s.default n ≡ true = subst (λ m. picks pick s.default m ≡ true) is it.picked in
        let local_pick : pick ≡ OfLocal = picked-local pick (sym (picked-family pick s n picked) ∙ local-class n.kind local) in
        elim (of-local spread i (subst (λ m. Has (items_in spread (default_of s) m) i) is it.item)) [
          | inl stays ↦ inl (has_at pick spread t (without_link link n) i it-after
              (subst (λ pick. Has (items_at pick spread t.default (default_of t) (without_link link n)) i) (sym local_pick)
              (picked-has (picks OfLocal s.default n) (items_in spread (default_of t) (without_link link n)) (ap (λ c. c == 0) (local-class n.kind local)) stays)))
          | inr goes ↦ inr (record { per_is = ap (λ pick. EachOf pick spread) local_pick ∙ goes.per_is; item = goes.item })
        ]
    | inr apart ↦ inl (has_at pick spread t it.net i (in-after it.net it.there apart)
        (picked-has (picks pick s.default it.net) (items_in spread (default_of t) it.net) it.picked (subst (λ home. Has (items_in spread home it.net) i) (sym default-same) it.item)))
  ]
    where
      picked-has : (b : Bool) (xs : List Item) → b ≡ true → Has xs i → Has (if b then xs else []) i
      picked-has true xs e h = h
      picked-has false xs e h = absurd (false≢true e)

  -- no tether pair goes, since its output is in another network
  pair-stays : (pair : TetherPair) → Has s.pairs pair → Has t.pairs pair
  pair-stays pair h =
      let out : IsOutput s pair.out = (is-whole s good).outputs pair h in
      has_filtered (λ p. not (p.out == link)) s.pairs pair h (ap not (false_from_ne_true (pair.out == link) (λ same.
      let links : pair.out ≡ link = eqb-true pair.out link same in
      let ids : out.net.id ≡ n.id = sym ((own.owns out.net out.there).links pair.out out.has) ∙ (ap (owners_of s).of_link links ∙ (own.owns n there).links link has_link) in
      false≢true (sym out.not_local ∙ (ap (λ (m : Network). is_local m.kind) (own.one_id out.net n out.there there ids) ∙ local)))))

  item-stays : (per : OnePer) (i : Item) → Has (items per s) i → Has (items per t) i ⊎ Going per i
  item-stays Once i h = inl h
  item-stays EachLockdown i h = inl h
  item-stays EachPair i h =
      let it : OfMap pair_item s.pairs i = of_map pair_item s.pairs i h in
      inl (subst (Has (map pair_item t.pairs)) (sym it.is) (has_map pair_item t.pairs it.one (pair-stays it.one it.there)))
  item-stays (EachOf pick spread) i h = of-net pick spread i (comes s pick spread i h)

  pub local-rules : (x : Rule) → has rule_kind (rule_table s) x ≡ true → has rule_kind (rule_table t) x ≡ false → (x.action ≡ action.Table (table_of n.kind link)) × (x.outgoing ≡ Some link)
  local-rules x was goes = elim (item-stays it.row.per it.item it.comes) [
    | inl stays ↦ absurd (false≢true (sym goes ∙ in-table t it.row it.item x it.there stays it.is))
    | inr gone ↦
        let bound : (it.row.bound && is_to_local it.row.target) ≡ true =
        subst (λ per. is_bound_local per it.row ≡ true) gone.per_is (all-has (λ (row : Row). is_bound_local row.per row) rows it.row each_bound_local it.there) in
        let both = and_parts it.row.bound (is_to_local it.row.target) bound in (
          ap (λ (r : Rule). r.action) it.is ∙ (to_local it.row.target it.item.link both.1 ∙ ap action.Table (sym (local-table n.kind link local))),
          ap (λ (r : Rule). r.outgoing) it.is ∙ (ap (λ b. if b then Some it.item.link else None) both.0 ∙ ap (λ (i : Item). Some i.link) gone.item),
        )
  ]
    where
      it : OfSomeRow s rows x
      it = from-table s x was

  pub local-adds : beyond rule_kind (rule_table s) (rule_table t) ≡ []
  local-adds = filter-none rule_kind (λ x. not (has rule_kind (rule_table s) x)) (rule_table t) (λ x h. ap not (before x h))
    where
      before : (x : Rule) → has rule_kind (rule_table t) x ≡ true → has rule_kind (rule_table s) x ≡ true
      before x h =
          let it : OfSomeRow t rows x = from-table t x h in
          in-table s it.row it.item x it.there
          (left-has (items it.row.per s) (items it.row.per t) it.item (thins-shrinks s t (λ m. true) (unlinked net link) (link-thins net link s) it.row.per) it.comes) it.is
