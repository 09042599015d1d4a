-- No rule both goes and comes: a permission shows in a rule's mask, and the default network in the table to which a rule leads.
use Rattle.std.proofs.Common.{◌≡◌, ◌∙◌, ◌==◌, ℕ, Bool, true, false, not, Option, Some, None, List, refl, sym, ap, subst, inl, inr, map}
use Rattle.std.specs.Prelude.{◌&&◌, flat_map, if◌then◌else◌}
use Rattle.std.specs.List.{list_all}
use Rattle.std.proofs.lemmas.Bool.{false≢true, false_from_ne_true, and_parts, not-true, eqb-true, eq-eqb}
use Rattle.fwmark.specs.Permission.{bits_of}
use Rattle.fwmark.specs.Selection.{mask_of}
use Rattle.fwmark.specs.declared.permission.Permission.{Permission}
use Rattle.fwmark.specs.declared.permission.Permission.TheVariants as needs
use Rattle.networks.specs.Kinds.{class_of, is_free, is_secure, is_bypass, is_physical, permission_of, ranges_of}
use Rattle.networks.specs.declared.kind.Kind.{Kind}
use Rattle.networks.specs.declared.kind.Kind.TheVariants as kind
use Rattle.networks.specs.declared.network.Network.{Network}
use Rattle.rule_kinds.specs.Kind.{rule_kind}
use Rattle.rule_law.specs.Rules.{has}
use Rattle.rule_law.specs.Plans.{beyond}
use Rattle.rule_law.proofs.Membership.{filter-all}
use Rattle.rule_match.specs.declared.rule.Rule.{Rule}
use Rattle.policy_state.specs.Good.{IsWellFormed}
use Rattle.policy_state.specs.Rows.{picks, items_at, items_in, link_item, user_item, split_item, default_among, is_default}
use Rattle.policy_state.specs.declared.row.Item.{Item}
use Rattle.policy_state.specs.declared.row.Row.{Row}
use Rattle.policy_state.specs.declared.row.NetworkSet.{NetworkSet}
use Rattle.policy_state.specs.declared.row.NetworkPart.{NetworkPart}
use Rattle.policy_state.specs.declared.row.OnePer.{OnePer}
use Rattle.policy_state.specs.declared.row.Selector.{Selector}
use Rattle.policy_state.specs.declared.row.Target.{Target}
use Rattle.policy_state.specs.declared.row.NetworkSet.TheVariants.{OfLocal, OfPhysical, OfFree, OfDefault, OfVirtual, OfSecure, OfBypass}
use Rattle.policy_state.specs.declared.row.NetworkPart.TheVariants.{Whole, EachInterface, EachRange, EachDefault}
use Rattle.policy_state.specs.declared.row.OnePer.TheVariants.{Once as OncePer, EachLockdown, EachPair, EachOf}
use Rattle.policy_state.specs.declared.row.Selector.TheVariants.{Unstated, OfItem, OfRow}
use Rattle.policy_state.specs.declared.row.Target.TheVariants.{ToLink, ToLocal, Prohibits, Refuses}
use Rattle.policy_state.specs.Step.{asking_for, with_permission}
use Rattle.policy_state.specs.Table.{rows, rule_of, needed, marks_of, leads_to}
use Rattle.policy_state.specs.View.{StateView}
use Rattle.policy_state.proofs.AlikeRules.{all-has}
use Rattle.policy_state.proofs.GoodStates.{is-good}
use Rattle.policy_state.proofs.Members.{find-passes}
use Rattle.policy_state.proofs.Owners.{Has, OfMap, OfFlat, of_map, of_flat, of_test, of_rules, find-has, owners_of, IsOwned}
use Rattle.policy_state.proofs.RowTests.{is_own, is_to_link, is_split, is_linked, is_of_default}
use Rattle.policy_state.proofs.EachOnce.{link-led}
use Rattle.policy_state.specs.declared.change.Change.{Change}
use Rattle.policy_state.specs.declared.change.Change.TheVariants as change
use Rattle.networks.specs.Lists.{find_id}
use Rattle.rule_compile.proofs.TouchedStates.{reached, unreached}
use Rattle.rule_compile.specs.Touched.{Part, no_part, part_items, part_rules, items_of, is_home, asking_part, asks_other, default_part, same_default, go_part, come_part}
use Rattle.rule_compile.proofs.Permissions.{mask-bits, own-needed}

-- a rule of a part, with its row and its item
pub record OfPart (p : Part) (x : Rule) : Type 0 where
  row : Row
  there : Has rows row
  item : Item
  has_item : Has (part_items row.per p) item
  is : x ≡ rule_of row item

of_part : (p : Part) (x : Rule) → Has (part_rules p) x → OfPart p x
of_part p x h =
    let by_row : OfFlat (λ (row : Row). map (rule_of row) (part_items row.per p)) rows x = of_flat (λ (row : Row). map (rule_of row) (part_items row.per p)) rows x h in
    let by_item : OfMap (rule_of by_row.one) (part_items by_row.one.per p) x = of_map (rule_of by_row.one) (part_items by_row.one.per p) x by_row.has in
    record { row = by_row.one; there = by_row.there; item = by_item.one; has_item = by_item.there; is = by_item.is }

-- parts that have no rule in common
abbrev pub AreApart : Part → Part → Type 0
AreApart p q = (x : Rule) → Has (part_rules p) x → Has (part_rules q) x → ⊥

pub apart-beyond : (p q : Part) → AreApart p q → beyond rule_kind (part_rules p) (part_rules q) ≡ part_rules q
apart-beyond p q apart = filter-all rule_kind (λ x. not (has rule_kind (part_rules p) x)) (part_rules q) (λ x in_q.
    let none : has rule_kind (part_rules p) x ≡ false = false_from_ne_true (has rule_kind (part_rules p) x) (λ in_p. apart x (of_rules (part_rules p) x in_p) (of_rules (part_rules q) x in_q)) in
    ap not none)

pub apart-turned : (p q : Part) → AreApart p q → AreApart q p
apart-turned p q apart x in_q in_p = apart x in_p in_q

pub none-before : (q : Part) → AreApart no_part q
none-before q x in_none in_q = absurd in_none

-- A permission.

abbrev is_unstated : {A : Type 0} → Selector A → Bool
is_unstated Unstated = true
is_unstated OfItem = false
is_unstated (OfRow value) = false

-- a row of physical networks selects by the permission, or has rules only where there is none
abbrev asks_own : NetworkSet → Row → Bool
asks_own OfLocal row = true
asks_own OfPhysical row = is_own row.needs
asks_own OfFree row = is_unstated row.needs
asks_own OfDefault row = is_own row.needs
asks_own OfVirtual row = true
asks_own OfSecure row = true
asks_own OfBypass row = true

abbrev asks_fit : OnePer → Row → Bool
asks_fit OncePer row = true
asks_fit EachLockdown row = true
asks_fit EachPair row = true
asks_fit (EachOf pick Whole) row = asks_own pick row
asks_fit (EachOf pick EachInterface) row = asks_own pick row
asks_fit (EachOf pick EachRange) row = asks_own pick row
asks_fit (EachOf pick EachDefault) row = is_own row.needs

each_asks_fit : list_all (λ (row : Row). asks_fit row.per row) rows ≡ true
each_asks_fit = refl

module _ (n : Network) (physical : is_physical n.kind ≡ true) (asked : Permission) where
  now : Network
  now = with_permission asked n

  asked-now : (k : Kind) → is_physical k ≡ true → permission_of (asking_for asked k) ≡ asked
  asked-now kind.Local h = absurd (false≢true h)
  asked-now (kind.Physical old apps) h = refl
  asked-now (kind.Virtual secure users) h = absurd (false≢true h)

  pub now-asks : permission_of (with_permission asked n).kind ≡ asked
  now-asks = asked-now n.kind physical

  -- where the row has rules for the network, a rule shows the permission that is asked
  shown-by : (pick : NetworkSet) (d : Option ℕ) (row : Row) → picks pick d (with_permission asked n) ≡ true → asks_own pick row ≡ true → needed row.needs asked ≡ asked
  shown-by OfLocal d row picked fit = absurd (by n.kind physical picked)
    where
      by : (k : Kind) → is_physical k ≡ true → (class_of (asking_for asked k) == 0) ≡ true → ⊥
      by kind.Local h e = false≢true h
      by (kind.Physical old apps) h e = false≢true e
      by (kind.Virtual secure users) h e = false≢true h
  shown-by OfPhysical d row picked fit = own-needed row.needs asked fit
  shown-by OfFree d row picked fit = by row.needs fit (free n.kind picked)
    where
      nothing : (p : Permission) → (elim p [ needs.Nothing ↦ true | needs.Network ↦ false | needs.System ↦ false ]) ≡ true → p ≡ needs.Nothing
      nothing needs.Nothing h = refl
      nothing needs.Network h = absurd (false≢true h)
      nothing needs.System h = absurd (false≢true h)

      free : (k : Kind) → is_free (asking_for asked k) ≡ true → asked ≡ needs.Nothing
      free kind.Local h = absurd (false≢true h)
      free (kind.Physical old apps) h = nothing asked h
      free (kind.Virtual secure users) h = absurd (false≢true h)

      by : (f : Selector Permission) → is_unstated f ≡ true → asked ≡ needs.Nothing → needed f asked ≡ asked
      by Unstated h e = sym e
      by OfItem h e = refl
      by (OfRow value) h e = absurd (false≢true h)
  shown-by OfDefault d row picked fit = own-needed row.needs asked fit
  shown-by OfVirtual d row picked fit = absurd (by n.kind physical picked)
    where
      by : (k : Kind) → is_physical k ≡ true → (class_of (asking_for asked k) == 2) ≡ true → ⊥
      by kind.Local h e = false≢true h
      by (kind.Physical old apps) h e = false≢true e
      by (kind.Virtual secure users) h e = false≢true h
  shown-by OfSecure d row picked fit = absurd (by n.kind physical picked)
    where
      by : (k : Kind) → is_physical k ≡ true → is_secure (asking_for asked k) ≡ true → ⊥
      by kind.Local h e = false≢true h
      by (kind.Physical old apps) h e = false≢true e
      by (kind.Virtual secure users) h e = false≢true h
  shown-by OfBypass d row picked fit = absurd (by n.kind physical picked)
    where
      by : (k : Kind) → is_physical k ≡ true → is_bypass (asking_for asked k) ≡ true → ⊥
      by kind.Local h e = false≢true h
      by (kind.Physical old apps) h e = false≢true e
      by (kind.Virtual secure users) h e = false≢true h

  item-asks : (spread : NetworkPart) → is_split spread ≡ false → (i : Item) → Has (items_in spread None (with_permission asked n)) i → i.needs ≡ asked
  item-asks Whole plain i (inl e) = ap (λ (j : Item). j.needs) (sym e) ∙ now-asks
  item-asks Whole plain i (inr none) = absurd none
  item-asks EachInterface plain i h = ap (λ (j : Item). j.needs) (of_map (link_item (with_permission asked n)) n.interfaces i h).is ∙ now-asks
  item-asks EachRange plain i h =
      let by_link = of_flat (λ link. map (user_item (with_permission asked n) link) (ranges_of (with_permission asked n).kind)) n.interfaces i h in
      ap (λ (j : Item). j.needs) (of_map (user_item (with_permission asked n) by_link.one) (ranges_of (with_permission asked n).kind) i by_link.has).is ∙ now-asks
  item-asks EachDefault plain i h = absurd (false≢true (sym plain))

  own-asks : (s : StateView) (pick : NetworkSet) (spread : NetworkPart) → is_split spread ≡ false → (row : Row) (i : Item) → Has (items_at pick spread s.default None (with_permission asked n)) i
      → asks_own pick row ≡ true → needed row.needs i.needs ≡ asked
  own-asks s pick spread plain row i h fit =
      let both = of_test (picks pick s.default (with_permission asked n)) (items_in spread None (with_permission asked n)) i h in
      ap (needed row.needs) (item-asks spread plain i both.1) ∙ shown-by pick s.default row both.0 fit

  split-asks : (s : StateView) (b : Bool) (pick : NetworkSet) (row : Row) (i : Item)
      → Has (flat_map (items_at pick EachDefault s.default (if b then Some (with_permission asked n) else None)) s.networks) i → is_own row.needs ≡ true → needed row.needs i.needs ≡ asked
  split-asks s true pick row i h own =
      let by_net = of_flat (items_at pick EachDefault s.default (Some (with_permission asked n))) s.networks i h in
      let both = of_test (picks pick s.default by_net.one) (items_in EachDefault (Some (with_permission asked n)) by_net.one) i by_net.has in
      let it = of_map (split_item by_net.one (permission_of (with_permission asked n).kind)) n.interfaces i both.1 in
      own-needed row.needs i.needs own ∙ (ap (λ (j : Item). j.needs) it.is ∙ now-asks)
  split-asks s false pick row i h own =
      let by_net = of_flat (items_at pick EachDefault s.default None) s.networks i h in
      absurd (of_test (picks pick s.default by_net.one) (items_in EachDefault None by_net.one) i by_net.has).1

  part-asks : (s : StateView) (per : OnePer) (row : Row) (i : Item) → Has (part_items per (asking_part s n asked)) i → asks_fit per row ≡ true → needed row.needs i.needs ≡ asked
  part-asks s OncePer row i h fit = absurd h
  part-asks s EachLockdown row i h fit = absurd h
  part-asks s EachPair row i h fit = absurd h
  part-asks s (EachOf pick Whole) row i h fit = own-asks s pick Whole refl row i h fit
  part-asks s (EachOf pick EachInterface) row i h fit = own-asks s pick EachInterface refl row i h fit
  part-asks s (EachOf pick EachRange) row i h fit = own-asks s pick EachRange refl row i h fit
  part-asks s (EachOf pick EachDefault) row i h fit = split-asks s (is_home s n) pick row i h fit

  pub rule-asks : (s : StateView) (x : Rule) (it : OfPart (asking_part s n asked) x) → bits_of (needed it.row.needs it.item.needs) ≡ bits_of asked
  rule-asks s x it = ap bits_of (part-asks s it.row.per it.row it.item it.has_item (all-has (λ (row : Row). asks_fit row.per row) rows it.row each_asks_fit it.there))

pub permissions-apart : (s : StateView) (n : Network) (permission : Permission) → asks_other permission n ≡ true → AreApart (asking_part s n (permission_of n.kind)) (asking_part s n permission)
permissions-apart s n permission other x in_old in_new =
    let both = and_parts (is_physical n.kind) (not (bits_of (permission_of n.kind) == bits_of permission)) other in
    let old : OfPart (asking_part s n (permission_of n.kind)) x = of_part (asking_part s n (permission_of n.kind)) x in_old in
    let new : OfPart (asking_part s n permission) x = of_part (asking_part s n permission) x in_new in
    let masks : mask_of (marks_of old.row old.item) ≡ mask_of (marks_of new.row new.item) = ap (λ (x : Rule). x.mask) (sym old.is ∙ new.is) in
    let bits : bits_of (permission_of n.kind) ≡ bits_of permission =
    sym (rule-asks n both.0 (permission_of n.kind) s x old) ∙ (mask-bits (marks_of old.row old.item) (marks_of new.row new.item) masks ∙ rule-asks n both.0 permission s x new) in
    false≢true (sym (not-true (bits_of (permission_of n.kind) == bits_of permission) both.1) ∙ eq-eqb (bits_of (permission_of n.kind)) (bits_of permission) bits)

-- Another default network.

-- a row of the default network leads to its interface
abbrev leads_own : NetworkSet → NetworkPart → Row → Bool
leads_own OfLocal spread row = true
leads_own OfPhysical spread row = true
leads_own OfFree spread row = true
leads_own OfDefault spread row = is_linked spread && is_to_link row.target
leads_own OfVirtual spread row = true
leads_own OfSecure spread row = true
leads_own OfBypass spread row = true

abbrev leads_home : OnePer → Row → Bool
leads_home OncePer row = true
leads_home EachLockdown row = true
leads_home EachPair row = true
leads_home (EachOf pick Whole) row = leads_own pick Whole row
leads_home (EachOf pick EachInterface) row = leads_own pick EachInterface row
leads_home (EachOf pick EachRange) row = leads_own pick EachRange row
leads_home (EachOf pick EachDefault) row = is_to_link row.target

each_leads_home : list_all (λ (row : Row). leads_home row.per row) rows ≡ true
each_leads_home = refl

-- the item has an interface of the default network, to which the row leads
record OfHome (s : StateView) (d : Option ℕ) (row : Row) (i : Item) : Type 0 where
  net : Network
  there : Has s.networks net
  home : picks OfDefault d net ≡ true
  link : Has net.interfaces i.link
  leads : is_to_link row.target ≡ true

module _ (s : StateView) (formed : IsWellFormed s) (d : Option ℕ) where
  own-link : (spread : NetworkPart) → is_linked spread ≡ true → (n : Network) (i : Item) → Has (items_in spread None n) i → Has n.interfaces i.link
  own-link Whole linked n i h = absurd (false≢true linked)
  own-link EachInterface linked n i h =
      let it = of_map (link_item n) n.interfaces i h in subst (λ (j : Item). Has n.interfaces j.link) (sym it.is) it.there
  own-link EachRange linked n i h =
      let by_link = of_flat (λ link. map (user_item n link) (ranges_of n.kind)) n.interfaces i h in
      let it = of_map (user_item n by_link.one) (ranges_of n.kind) i by_link.has in
      subst (λ (j : Item). Has n.interfaces j.link) (sym it.is) by_link.there
  own-link EachDefault linked n i h = absurd (false≢true linked)

  own-home : (spread : NetworkPart) (row : Row) (i : Item) → Has (items_of OfDefault spread d (default_among s.networks d)) i → (is_linked spread && is_to_link row.target) ≡ true → OfHome s d row i
  own-home spread row i h leads = by (default_among s.networks d) refl h
    where
      by : (o : Option Network) → default_among s.networks d ≡ o → Has (items_of OfDefault spread d o) i → OfHome s d row i
      by None is h = absurd h
      by (Some n) is h =
          let both = of_test (picks OfDefault d n) (items_in spread None n) i h in
          let tests = and_parts (is_linked spread) (is_to_link row.target) leads in
          record { net = n; there = find-has (λ (m : Network). picks OfDefault d m) s.networks n is; home = both.0; link = own-link spread tests.0 n i both.1; leads = tests.1 }

  split-home : (pick : NetworkSet) (row : Row) (i : Item) → Has (flat_map (items_at pick EachDefault d (default_among s.networks d)) s.networks) i → is_to_link row.target ≡ true → OfHome s d row i
  split-home pick row i h leads = by (default_among s.networks d) refl h
    where
      by : (o : Option Network) → default_among s.networks d ≡ o → Has (flat_map (items_at pick EachDefault d o) s.networks) i → OfHome s d row i
      by None is h =
          let by_net = of_flat (items_at pick EachDefault d None) s.networks i h in
          absurd (of_test (picks pick d by_net.one) (items_in EachDefault None by_net.one) i by_net.has).1
      by (Some n) is h =
          let by_net = of_flat (items_at pick EachDefault d (Some n)) s.networks i h in
          let both = of_test (picks pick d by_net.one) (items_in EachDefault (Some n) by_net.one) i by_net.has in
          let it = of_map (split_item by_net.one (permission_of n.kind)) n.interfaces i both.1 in
          record {
            net = n;
            there = find-has (λ (m : Network). picks OfDefault d m) s.networks n is;
            home = find-passes (λ (m : Network). picks OfDefault d m) s.networks n is;
            link = subst (λ (j : Item). Has n.interfaces j.link) (sym it.is) it.there;
            leads = leads;
          }

  none-of : (pick : NetworkSet) (spread : NetworkPart) → is_of_default pick ≡ false → is_split spread ≡ false → (row : Row) (i : Item) → Has (part_items (EachOf pick spread) (default_part s d)) i → OfHome s d row i
  none-of pick spread other plain row i h = absurd (subst (λ (is : List Item). Has is i) (unreached s formed d pick other spread plain) h)

  part-home : (pick : NetworkSet) (spread : NetworkPart) → is_split spread ≡ false → (row : Row) (i : Item) → Has (part_items (EachOf pick spread) (default_part s d)) i → leads_own pick spread row ≡ true → OfHome s d row i
  part-home OfDefault spread plain row i h leads = own-home spread row i (subst (λ (is : List Item). Has is i) (reached s formed d spread plain) h) leads
  part-home OfLocal spread plain row i h leads = none-of OfLocal spread refl plain row i h
  part-home OfPhysical spread plain row i h leads = none-of OfPhysical spread refl plain row i h
  part-home OfFree spread plain row i h leads = none-of OfFree spread refl plain row i h
  part-home OfVirtual spread plain row i h leads = none-of OfVirtual spread refl plain row i h
  part-home OfSecure spread plain row i h leads = none-of OfSecure spread refl plain row i h
  part-home OfBypass spread plain row i h leads = none-of OfBypass spread refl plain row i h

  item-home : (per : OnePer) (row : Row) (i : Item) → Has (part_items per (default_part s d)) i → leads_home per row ≡ true → OfHome s d row i
  item-home OncePer row i h leads = absurd h
  item-home EachLockdown row i h leads = absurd h
  item-home EachPair row i h leads = absurd h
  item-home (EachOf pick Whole) row i h leads = part-home pick Whole refl row i h leads
  item-home (EachOf pick EachInterface) row i h leads = part-home pick EachInterface refl row i h leads
  item-home (EachOf pick EachRange) row i h leads = part-home pick EachRange refl row i h leads
  item-home (EachOf pick EachDefault) row i h leads = split-home pick row i h leads

  rule-home : (x : Rule) (it : OfPart (default_part s d) x) → OfHome s d it.row it.item
  rule-home x it = item-home it.row.per it.row it.item it.has_item (all-has (λ (row : Row). leads_home row.per row) rows it.row each_leads_home it.there)

defaults-same : (d e : Option ℕ) (id : ℕ) → is_default d id ≡ true → is_default e id ≡ true → same_default d e ≡ true
defaults-same None e id one other = absurd (false≢true one)
defaults-same (Some d) None id one other = absurd (false≢true other)
defaults-same (Some d) (Some e) id one other = eq-eqb d e (eqb-true d id one ∙ sym (eqb-true e id other))

pub defaults-apart : (s : StateView) → IsWellFormed s → (d e : Option ℕ) → same_default d e ≡ false → AreApart (default_part s d) (default_part s e)
defaults-apart s formed d e differ x in_old in_new =
    let old : OfPart (default_part s d) x = of_part (default_part s d) x in_old in
    let new : OfPart (default_part s e) x = of_part (default_part s e) x in_new in
    let one : OfHome s d old.row old.item = rule-home s formed d x old in
    let other : OfHome s e new.row new.item = rule-home s formed e x new in
    let same : old.item.link ≡ new.item.link = links-led old.row.target new.row.target old.item new.item one.leads other.leads (ap (λ (x : Rule). x.action) (sym old.is ∙ new.is)) in
    let owned : IsOwned (owners_of s) s = is-good s formed in
    let ids : one.net.id ≡ other.net.id =
    sym ((owned.owns one.net one.there).links old.item.link one.link) ∙ (ap (owners_of s).of_link same ∙ (owned.owns other.net other.there).links new.item.link other.link) in
    false≢true (sym differ ∙ defaults-same d e one.net.id (and_parts (class_of one.net.kind == 1) (is_default d one.net.id) one.home).1
    (subst (λ id. is_default e id ≡ true) (sym ids) (and_parts (class_of other.net.kind == 1) (is_default e other.net.id) other.home).1))
  where
    links-led : (a b : Target) (i j : Item) → is_to_link a ≡ true → is_to_link b ≡ true → leads_to a i.link ≡ leads_to b j.link → i.link ≡ j.link
    links-led ToLink ToLink i j one other e = link-led ToLink i j refl e
    links-led ToLink ToLocal i j one other e = absurd (false≢true other)
    links-led ToLink Prohibits i j one other e = absurd (false≢true other)
    links-led ToLink Refuses i j one other e = absurd (false≢true other)
    links-led ToLocal b i j one other e = absurd (false≢true one)
    links-led Prohibits b i j one other e = absurd (false≢true one)
    links-led Refuses b i j one other e = absurd (false≢true one)

-- Any change.

pub changes-apart : (c : Change) (s : StateView) → IsWellFormed s → AreApart (go_part s c) (come_part s c)
changes-apart (change.DefaultBecomes default) s formed = by (same_default s.default default) refl
  where
    by : (b : Bool) → same_default s.default default ≡ b → AreApart (if b then no_part else default_part s s.default) (if b then no_part else default_part s default)
    by true same = none-before no_part
    by false other = defaults-apart s formed s.default default other
changes-apart (change.NetworkPermission net permission) s formed = by (find_id net s.networks)
  where
    asked : Network → Permission → Part
    asked n needed = if asks_other permission n then asking_part s n needed else no_part

    by : (o : Option Network) → AreApart (elim o [ Some n ↦ asked n (permission_of n.kind) | None ↦ no_part ]) (elim o [ Some n ↦ asked n permission | None ↦ no_part ])
    by None = none-before no_part
    by (Some n) = other (asks_other permission n) refl
      where
        other : (b : Bool) → asks_other permission n ≡ b → AreApart (if b then asking_part s n (permission_of n.kind) else no_part) (if b then asking_part s n permission else no_part)
        other true differs = permissions-apart s n permission differs
        other false same = none-before no_part
changes-apart (change.NetworkGoes net) s formed = apart-turned no_part (go_part s (change.NetworkGoes net)) (none-before (go_part s (change.NetworkGoes net)))
changes-apart (change.InterfaceGoes net link) s formed = apart-turned no_part (go_part s (change.InterfaceGoes net link)) (none-before (go_part s (change.InterfaceGoes net link)))
changes-apart (change.RangesGo net ranges) s formed = apart-turned no_part (go_part s (change.RangesGo net ranges)) (none-before (go_part s (change.RangesGo net ranges)))
changes-apart (change.LockdownGoes range) s formed = apart-turned no_part (go_part s (change.LockdownGoes range)) (none-before (go_part s (change.LockdownGoes range)))
changes-apart (change.PairGoes pair) s formed = apart-turned no_part (go_part s (change.PairGoes pair)) (none-before (go_part s (change.PairGoes pair)))
changes-apart (change.PhysicalComes net permission) s formed = none-before (come_part s (change.PhysicalComes net permission))
changes-apart (change.VirtualComes net secure) s formed = none-before (come_part s (change.VirtualComes net secure))
changes-apart (change.InterfaceComes net link) s formed = none-before (come_part s (change.InterfaceComes net link))
changes-apart (change.RangesCome net rank ranges) s formed = none-before (come_part s (change.RangesCome net rank ranges))
changes-apart (change.LockdownComes range) s formed = none-before (come_part s (change.LockdownComes range))
changes-apart (change.PairComes pair) s formed = none-before (come_part s (change.PairComes pair))
changes-apart change.Nothing s formed = none-before no_part
changes-apart (change.LinkComes link) s formed = none-before no_part
changes-apart (change.LinkGoes name) s formed = none-before no_part
changes-apart (change.RouteComes net link route) s formed = none-before no_part
changes-apart (change.RouteGoes net link key) s formed = none-before no_part
changes-apart (change.UserPermission uid permission) s formed = none-before no_part
changes-apart (change.UserForgotten uid) s formed = none-before no_part
changes-apart (change.ProtectAllowed uid) s formed = none-before no_part
changes-apart (change.ProtectDenied uid) s formed = none-before no_part
