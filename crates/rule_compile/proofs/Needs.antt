-- A network's permission is replaced: the rules that ask for it are replaced, all others stay.
use Rattle.std.proofs.Common.{◌≡◌, ◌∙◌, ◌==◌, ℕ, Bool, true, false, Option, List, [], ◌∷◌, ◌++◌, refl, sym, ap, ap₂, subst, inl, inr, map}
use Rattle.std.specs.Prelude.{flat_map, if◌then◌else◌}
use Rattle.std.proofs.lemmas.Bool.{cases_Bool, false≢true, false_from_ne_true, eqb-true, eq-eqb}
use Rattle.fwmark.specs.Permission.{bits_of}
use Rattle.fwmark.specs.declared.permission.Permission.{Permission}
use Rattle.fwmark.specs.Selection.{Selection, mask_of, value_of}
use Rattle.rule_law.specs.Rules.{has}
use Rattle.rule_law.specs.Parts.{TurnsInto}
use Rattle.rule_law.proofs.Turning.{TurnsInto-same, TurnsInto-replaced}
use Rattle.rule_match.specs.declared.rule.Rule.{Rule}
use Rattle.rule_kinds.specs.Kind.{rule_kind}
use Rattle.rule_compile.proofs.Changes.{Touches}
use Rattle.networks.specs.declared.kind.Kind.{Kind}
use Rattle.networks.specs.declared.kind.Kind.TheVariants.{Local, Physical, Virtual}
use Rattle.networks.specs.declared.network.Network.{Network}
use Rattle.policy_state.specs.View.{StateView}
use Rattle.policy_state.specs.Rows.{default_of, items_in, picks, links_of, needs_of, link_item, user_item, split_item}
use Rattle.policy_state.specs.declared.row.Item.{Item}
use Rattle.policy_state.specs.declared.row.Row.{Row}
use Rattle.policy_state.specs.declared.row.NetworkPart.{NetworkPart}
use Rattle.policy_state.specs.declared.row.NetworkPart.TheVariants.{Whole, EachInterface, EachRange, EachDefault}
use Rattle.policy_state.specs.declared.row.Selector.{Selector}
use Rattle.policy_state.specs.declared.row.Selector.TheVariants.{Unstated, OfItem, OfRow}
use Rattle.networks.specs.Kinds.{permission_of, ranges_of}
use Rattle.policy_state.specs.Table.{rule_of, needed, marks_of, table_by_rows}
use Rattle.policy_state.proofs.RowTests.{is_own}
use Rattle.rule_compile.proofs.Permissions.{same_bits, mask-bits, own-needed}
use Rattle.policy_state.proofs.Owners.{Has, Owners, OfMap, OfFlat, of_map, of_flat, of_rules}
use Rattle.policy_state.proofs.RowItems.{part, map-flat}
use Rattle.rule_compile.proofs.Comes.{touched-turn}

abbrev pub with_needs : Permission → Item → Item
with_needs q i = record i { needs = q }

-- every item asks for the permission
abbrev pub Asks : Permission → List Item → Type 0
Asks p items = (i : Item) → Has items i → i.needs ≡ p

other-needed : (f : Selector Permission) (x y : Permission) → is_own f ≡ false → needed f x ≡ needed f y
other-needed Unstated x y h = refl
other-needed OfItem x y h = absurd (false≢true (sym h))
other-needed (OfRow value) x y h = refl

module _ (row : Row) (p q : Permission) where
  same-rule : is_own row.needs ≡ false → (i : Item) → rule_of row (with_needs q i) ≡ rule_of row i
  same-rule other i = ap (λ (m : Permission). let marks : Selection = record (marks_of row i) { permission = m } in record (rule_of row i) { mark = value_of marks; mask = mask_of marks }) (other-needed row.needs q i.needs other)

  same-rules : is_own row.needs ≡ false → (items : List Item) → map (rule_of row) (map (with_needs q) items) ≡ map (rule_of row) items
  same-rules other [] = refl
  same-rules other (i ∷ items) = ap₂ (λ (x : Rule) (xs : List Rule). x ∷ xs) (same-rule other i) (same-rules other items)

  same-items : p ≡ q → (items : List Item) → Asks p items → map (with_needs q) items ≡ items
  same-items same [] h = refl
  same-items same (i ∷ items) h = ap₂ (λ (n : Permission) (is : List Item). record i { needs = n } ∷ is) (sym same ∙ sym (h i (inl refl))) (same-items same items (λ j t. h j (inr t)))

  replaced : is_own row.needs ≡ true → (p ≡ q → ⊥) → (items : List Item) → Asks p items → TurnsInto rule_kind (map (rule_of row) items) (map (rule_of row) (map (with_needs q) items))
  replaced own differ items asks =
      TurnsInto-replaced rule_kind (map (rule_of row) items) (map (rule_of row) (map (with_needs q) items)) (λ x in_old. false_from_ne_true (has rule_kind (map (rule_of row) (map (with_needs q) items)) x) (λ in_new.
      let one : OfMap (rule_of row) items x = of_map (rule_of row) items x (of_rules (map (rule_of row) items) x in_old) in
      let other : OfMap (rule_of row) (map (with_needs q) items) x = of_map (rule_of row) (map (with_needs q) items) x (of_rules (map (rule_of row) (map (with_needs q) items)) x in_new) in
      let origin : OfMap (with_needs q) items other.one = of_map (with_needs q) items other.one other.there in
      let masks : mask_of (marks_of row one.one) ≡ mask_of (marks_of row other.one) = ap (λ (x : Rule). x.mask) (sym one.is ∙ other.is) in
      let bits : bits_of (needed row.needs one.one.needs) ≡ bits_of (needed row.needs other.one.needs) = mask-bits (marks_of row one.one) (marks_of row other.one) masks in
      differ (sym (asks one.one one.there) ∙ (sym (own-needed row.needs one.one.needs own) ∙ (same_bits (needed row.needs one.one.needs) (needed row.needs other.one.needs) bits
      ∙ (own-needed row.needs other.one.needs own ∙ ap (λ (i : Item). i.needs) origin.is))))))

  pub needs-turn : (items : List Item) → Asks p items → TurnsInto rule_kind (map (rule_of row) items) (map (rule_of row) (map (with_needs q) items))
  needs-turn items asks = elim (cases_Bool (is_own row.needs)) [
    | inl own ↦ elim (cases_Bool (bits_of p == bits_of q)) [
      | inl same ↦
          subst (λ (is : List Item). TurnsInto rule_kind (map (rule_of row) items) (map (rule_of row) is)) (sym (same-items (same_bits p q (eqb-true (bits_of p) (bits_of q) same)) items asks)) (TurnsInto-same rule_kind (map (rule_of row) items))
      | inr differ ↦ replaced own (λ e. false≢true (sym differ ∙ eq-eqb (bits_of p) (bits_of q) (ap bits_of e))) items asks
    ]
    | inr other ↦ subst (λ rules. TurnsInto rule_kind (map (rule_of row) items) rules) (sym (same-rules other items)) (TurnsInto-same rule_kind (map (rule_of row) items))
  ]

  -- whether or not the network is still picked
  pub part-needs : (b c : Bool) (items : List Item) → Asks p items → TurnsInto rule_kind (map (rule_of row) (if b then items else [])) (map (rule_of row) (if c then map (with_needs q) items else []))
  part-needs true true items asks = needs-turn items asks
  part-needs true false items asks = TurnsInto-replaced rule_kind (map (rule_of row) items) [] (λ x h. refl)
  part-needs false true items asks = TurnsInto-replaced rule_kind [] (map (rule_of row) (map (with_needs q) items)) (λ x h. absurd (false≢true h))
  part-needs false false items asks = TurnsInto-same rule_kind []

-- any network by any row, where its own permission and that of the default network may be another

abbrev pub turned_kind : Permission → Kind → Kind
turned_kind q Local = Local
turned_kind q (Physical p apps) = Physical q apps
turned_kind q (Virtual secure users) = Virtual secure users

map-map : {A B C : Type 0} (f : B → C) (g : A → B) (xs : List A) → map f (map g xs) ≡ map (λ x. f (g x)) xs
map-map f g [] = refl
map-map f g (x ∷ xs) = ap (λ zs. f (g x) ∷ zs) (map-map f g xs)

users-needs : (home : Option Network) (n : Network) (i : Item) → Has (items_in EachRange home n) i → i.needs ≡ permission_of n.kind
users-needs home n i h =
    let by_link : OfFlat (λ link. map (user_item n link) (ranges_of n.kind)) n.interfaces i = of_flat (λ link. map (user_item n link) (ranges_of n.kind)) n.interfaces i h in
    ap (λ (i : Item). i.needs) (of_map (user_item n by_link.one) (ranges_of n.kind) i by_link.has).is

-- the network with another kind that has the same ranges, and the default network with the same interfaces
pub in-needs : (spread : NetworkPart) (home home' : Option Network) (n : Network) (k : Kind) → ranges_of k ≡ ranges_of n.kind → links_of home' ≡ links_of home
    → (p : Permission) × (q : Permission) × Asks p (items_in spread home n) × (items_in spread home' (record n { kind = k }) ≡ map (with_needs q) (items_in spread home n))
in-needs Whole home home' n k ranges links = (permission_of n.kind, permission_of k, (λ i h. elim h [ inl e ↦ sym (ap (λ (i : Item). i.needs) e) | inr f ↦ absurd f ]), refl)
in-needs EachInterface home home' n k ranges links = (
  permission_of n.kind,
  permission_of k,
  (λ i h. ap (λ (i : Item). i.needs) (of_map (link_item n) n.interfaces i h).is),
  sym (map-map (with_needs (permission_of k)) (link_item n) n.interfaces),
)
in-needs EachRange home home' n k ranges links = (
  permission_of n.kind,
  permission_of k,
  users-needs home n,
  ap (λ rs. flat_map (λ link. map (user_item (record n { kind = k }) link) rs) n.interfaces) ranges ∙ each n.interfaces,
)
  where
    each : (links : List ℕ) → flat_map (λ link. map (user_item (record n { kind = k }) link) (ranges_of n.kind)) links ≡ map (with_needs (permission_of k)) (flat_map (λ link. map (user_item n link) (ranges_of n.kind)) links)
    each links = go links ∙ sym (map-flat (with_needs (permission_of k)) (λ link. map (user_item n link) (ranges_of n.kind)) links)
      where
        go : (links : List ℕ) → flat_map (λ link. map (user_item (record n { kind = k }) link) (ranges_of n.kind)) links ≡ flat_map (λ link. map (with_needs (permission_of k)) (map (user_item n link) (ranges_of n.kind))) links
        go [] = refl
        go (l ∷ ls) = ap₂ (λ (xs ys : List Item). xs ++ ys) (sym (map-map (with_needs (permission_of k)) (user_item n l) (ranges_of n.kind))) (go ls)
in-needs EachDefault home home' n k ranges links = (
  needs_of home,
  needs_of home',
  (λ i h. ap (λ (i : Item). i.needs) (of_map (split_item n (needs_of home)) (links_of home) i h).is),
  ap (map (split_item n (needs_of home'))) links ∙ sym (map-map (with_needs (needs_of home')) (split_item n (needs_of home)) (links_of home)),
)

-- A permission is replaced, for any row.
module _ (o : Owners) (s t : StateView) (kind_of : Network → Kind) (touches : Touches o s t (λ n. record n { kind = kind_of n }))
    (ranges : (n : Network) → ranges_of (kind_of n) ≡ ranges_of n.kind) (links : links_of (default_of t) ≡ links_of (default_of s)) where
  pub permission-turns : TurnsInto rule_kind (table_by_rows s) (table_by_rows t)
  permission-turns = touched-turn o s t (λ n. record n { kind = kind_of n }) touches (λ row pick spread there is n in_n.
      let it = in-needs spread (default_of s) (default_of t) n (kind_of n) (ranges n) links in
      subst (λ (zs : List Item). TurnsInto rule_kind (part row pick spread s n) (map (rule_of row) (if picks pick t.default (record n { kind = kind_of n }) then zs else []))) (sym it.3)
      (part-needs row it.0 it.1 (picks pick s.default n) (picks pick t.default (record n { kind = kind_of n })) (items_in spread (default_of s) n) it.2))
