-- Another network becomes the default: the rows of the default network are replaced, all others stay.
use Rattle.std.proofs.Common.{◌≡◌, ◌∙◌, ℕ, Bool, true, false, Option, Some, None, List, [], ◌∷◌, ◌++◌, refl, sym, ap, ap₂, subst, inl, inr, map}
use Rattle.std.specs.Prelude.{◌&&◌, ◌==◌, find, flat_map, if◌then◌else◌}
use Rattle.std.proofs.lemmas.Bool.{cases_Bool, false≢true, false_from_ne_true, and_parts}
use Rattle.rule_law.specs.Rules.{has}
use Rattle.rule_law.specs.Parts.{TurnsInto}
use Rattle.rule_law.proofs.Turning.{TurnsInto-same, TurnsInto-replaced}
use Rattle.rule_match.specs.declared.rule.Rule.{Rule}
use Rattle.rule_kinds.specs.Kind.{rule_kind}
use Rattle.networks.specs.declared.network.Network.{Network}
use Rattle.policy_state.specs.View.{StateView}
use Rattle.policy_state.specs.Rows.{default_of, items, items_in, items_at, picks, links_of, is_default, range_item, pair_item}
use Rattle.policy_state.specs.declared.row.Item.{Item}
use Rattle.policy_state.specs.declared.row.Row.{Row}
use Rattle.policy_state.specs.declared.row.NetworkSet.{NetworkSet}
use Rattle.policy_state.specs.declared.row.NetworkSet.TheVariants.{OfLocal, OfPhysical, OfFree, OfDefault, OfVirtual, OfSecure, OfBypass}
use Rattle.policy_state.specs.declared.row.NetworkPart.{NetworkPart}
use Rattle.policy_state.specs.declared.row.NetworkPart.TheVariants.{Whole, EachInterface, EachRange, EachDefault}
use Rattle.policy_state.specs.declared.row.OnePer.{OnePer}
use Rattle.policy_state.specs.declared.row.OnePer.TheVariants.{Once as OncePer, EachLockdown, EachPair, EachOf}
use Rattle.networks.specs.Kinds.{class_of}
use Rattle.policy_state.specs.Table.{rule_of, rules_in, rows, table_by_rows}
use Rattle.policy_state.proofs.RowTests.{is_linked, is_split, is_of_default, is_told_apart, is_fit, is_led, is_to_link, each_told, each_fit, each_led}
use Rattle.policy_state.proofs.Owners.{Has, Once, Owners, IsOwned, OfMap, of_map, of_rules}
use Rattle.policy_state.proofs.RowItems.{Comes, comes, item-link, of_split, part}
use Rattle.policy_state.proofs.EachOnce.{link-led}
use Rattle.policy_state.proofs.AlikeRules.{all-has}
use Rattle.rule_compile.proofs.Turning.{table-turns, each-turns}

-- lists of rules that lead to different links have no rule in common
replaced-by_link : (row : Row) → is_to_link row.target ≡ true → (old new : List Item) → ((i j : Item) → Has old i → Has new j → i.link ≡ j.link → ⊥)
    → TurnsInto rule_kind (map (rule_of row) old) (map (rule_of row) new)
replaced-by_link row target old new differ =
    TurnsInto-replaced rule_kind (map (rule_of row) old) (map (rule_of row) new) (λ x in_old. false_from_ne_true (has rule_kind (map (rule_of row) new) x) (λ in_new.
    let one : OfMap (rule_of row) old x = of_map (rule_of row) old x (of_rules (map (rule_of row) old) x in_old) in
    let other : OfMap (rule_of row) new x = of_map (rule_of row) new x (of_rules (map (rule_of row) new) x in_new) in
    differ one.one other.one one.there other.there (link-led row.target one.one other.one target (ap (λ (x : Rule). x.action) (sym one.is ∙ other.is)))))

picks-other : (pick : NetworkSet) → is_of_default pick ≡ false → (d e : Option ℕ) (n : Network) → picks pick d n ≡ picks pick e n
picks-other OfLocal h d e n = refl
picks-other OfPhysical h d e n = refl
picks-other OfFree h d e n = refl
picks-other OfDefault h d e n = absurd (false≢true (sym h))
picks-other OfVirtual h d e n = refl
picks-other OfSecure h d e n = refl
picks-other OfBypass h d e n = refl

in-other : (spread : NetworkPart) → is_split spread ≡ false → (home home' : Option Network) (n : Network) → items_in spread home n ≡ items_in spread home' n
in-other Whole h home home' n = refl
in-other EachInterface h home home' n = refl
in-other EachRange h home home' n = refl
in-other EachDefault h home home' n = absurd (false≢true (sym h))

pub record Found {N : Type 0} (t : N → Bool) (ns : List N) (n : N) : Type 0 where
  pub there : Has ns n
  pub passes : t n ≡ true

pub of_find : {N : Type 0} (t : N → Bool) (ns : List N) (n : N) → find t ns ≡ Some n → Found t ns n
of_find t [] n h = absurd (none h)
  where
    none : {N : Type 0} {n : N} → None ≡ Some n → ⊥
    none h = cc
of_find {N = N} t (m ∷ ms) n h = elim (cases_Bool (t m)) [
  | inl e ↦
      let both : Some m ≡ Some n = rw e at h in
      let same : m ≡ n = cc in
      record { there = inl same; passes = subst (λ (k : N). t k ≡ true) same e }
  | inr e ↦ let rest : Found t ms n = of_find t ms n (rw e at h) in record { there = inr rest.there; passes = rest.passes }
]

module _ (o : Owners) (s t : StateView) (good : IsOwned o s) (good' : IsOwned o t) (once : Once s.networks)
    (networks : t.networks ≡ s.networks) (lockdown : t.lockdown ≡ s.lockdown) (pairs : t.pairs ≡ s.pairs) (differs : (id : ℕ) → is_default s.default id ≡ true → is_default t.default id ≡ true → ⊥) where
  -- no link is the old and the new default's
  two-defaults : (m n : Network) (link : ℕ) → Has s.networks m → Has t.networks n → picks OfDefault s.default m ≡ true → picks OfDefault t.default n ≡ true → Has m.interfaces link → Has n.interfaces link → ⊥
  two-defaults m n link in_m in_n one other link_m link_n =
      let same : m.id ≡ n.id = sym ((good.owns m in_m).links link link_m) ∙ (good'.owns n in_n).links link link_n in
      differs m.id (and_parts (class_of m.kind == 1) (is_default s.default m.id) one).1
      (subst (λ id. is_default t.default id ≡ true) (sym same) (and_parts (class_of n.kind == 1) (is_default t.default n.id) other).1)

  home-link : (u : StateView) (link : ℕ) → Has (links_of (default_of u)) link → (n : Network) × Has u.networks n × (picks OfDefault u.default n ≡ true) × Has n.interfaces link
  home-link u link h = by (default_of u) refl h
    where
      by : (home : Option Network) → default_of u ≡ home → Has (links_of home) link → (n : Network) × Has u.networks n × (picks OfDefault u.default n ≡ true) × Has n.interfaces link
      by None is h = absurd h
      by (Some n) is h = let it = of_find (λ (n : Network). picks OfDefault u.default n) u.networks n is in (n, it.there, it.passes, h)

  split-part : (row : Row) → is_to_link row.target ≡ true → (pick : NetworkSet) → is_of_default pick ≡ false → (n : Network) → TurnsInto rule_kind (part row pick EachDefault s n) (part row pick EachDefault t n)
  split-part row target pick plain n =
      subst (λ b. TurnsInto rule_kind (part row pick EachDefault s n) (map (rule_of row) (if b then items_in EachDefault (default_of t) n else []))) (picks-other pick plain s.default t.default n) (by (picks pick s.default n))
    where
      by : (b : Bool) → TurnsInto rule_kind (map (rule_of row) (if b then items_in EachDefault (default_of s) n else [])) (map (rule_of row) (if b then items_in EachDefault (default_of t) n else []))
      by true = replaced-by_link row target (items_in EachDefault (default_of s) n) (items_in EachDefault (default_of t) n) (λ i j in_i in_j same.
          let one = of_split s n i in_i in
          let other = of_split t n j in_j in
          let old = home-link s one.one one.there in
          let new = home-link t other.one other.there in
          let link : one.one ≡ other.one = sym (ap (λ (i : Item). i.link) one.is) ∙ (same ∙ ap (λ (i : Item). i.link) other.is) in
          two-defaults old.0 new.0 one.one old.1 new.1 old.2 new.2 old.3 (subst (λ l. Has new.0.interfaces l) (sym link) new.3))
      by false = TurnsInto-same rule_kind []

  default-row : (row : Row) (spread : NetworkPart) → row.per ≡ EachOf OfDefault spread → is_linked spread ≡ true → is_to_link row.target ≡ true → TurnsInto rule_kind (rules_in s row) (rules_in t row)
  default-row row spread is linked target = replaced-by_link row target (items row.per s) (items row.per t) (λ i j in_i in_j same.
      let one : Comes s OfDefault spread i = comes s OfDefault spread i (subst (λ per. Has (items per s) i) is in_i) in
      let other : Comes t OfDefault spread j = comes t OfDefault spread j (subst (λ per. Has (items per t) j) is in_j) in
      two-defaults one.net other.net i.link one.there other.there one.picked other.picked (item-link spread linked s one.net i one.item).link
      (subst (λ l. Has other.net.interfaces l) (sym same) (item-link spread linked t other.net j other.item).link))

  stays : (row : Row) → items row.per t ≡ items row.per s → TurnsInto rule_kind (rules_in s row) (rules_in t row)
  stays row e = subst (λ (is : List Item). TurnsInto rule_kind (rules_in s row) (map (rule_of row) is)) (sym e) (TurnsInto-same rule_kind (rules_in s row))

  flat-same : (f g : Network → List Item) → ((n : Network) → f n ≡ g n) → (ns : List Network) → flat_map f ns ≡ flat_map g ns
  flat-same f g h [] = refl
  flat-same f g h (n ∷ ns) = ap₂ (λ (xs ys : List Item). xs ++ ys) (h n) (flat-same f g h ns)

  row-turns : (row : Row) (per : OnePer) → row.per ≡ per → is_led per row ≡ true → is_told_apart per row ≡ true → is_fit row ≡ true → TurnsInto rule_kind (rules_in s row) (rules_in t row)
  row-turns row OncePer is led told fit = stays row (ap (λ per. items per t) is ∙ sym (ap (λ per. items per s) is))
  row-turns row EachLockdown is led told fit = stays row (ap (λ per. items per t) is ∙ (ap (map range_item) lockdown ∙ sym (ap (λ per. items per s) is)))
  row-turns row EachPair is led told fit = stays row (ap (λ per. items per t) is ∙ (ap (map pair_item) pairs ∙ sym (ap (λ per. items per s) is)))
  row-turns row (EachOf pick spread) is led told fit = by (is_of_default pick) refl (is_split spread) refl
    where
      both : ((if is_of_default pick then is_linked spread && is_to_link row.target else true) ≡ true) × ((if is_split spread then is_to_link row.target else true) ≡ true)
      both = and_parts (if is_of_default pick then is_linked spread && is_to_link row.target else true) (if is_split spread then is_to_link row.target else true) led

      of_default : is_of_default pick ≡ true → pick ≡ OfDefault
      of_default h = go pick h
        where
          go : (pick : NetworkSet) → is_of_default pick ≡ true → pick ≡ OfDefault
          go OfLocal h = absurd (false≢true h)
          go OfPhysical h = absurd (false≢true h)
          go OfFree h = absurd (false≢true h)
          go OfDefault h = refl
          go OfVirtual h = absurd (false≢true h)
          go OfSecure h = absurd (false≢true h)
          go OfBypass h = absurd (false≢true h)

      of_split' : is_split spread ≡ true → spread ≡ EachDefault
      of_split' h = go spread h
        where
          go : (spread : NetworkPart) → is_split spread ≡ true → spread ≡ EachDefault
          go Whole h = absurd (false≢true h)
          go EachInterface h = absurd (false≢true h)
          go EachRange h = absurd (false≢true h)
          go EachDefault h = refl

      by : (b : Bool) → is_of_default pick ≡ b → (c : Bool) → is_split spread ≡ c → TurnsInto rule_kind (rules_in s row) (rules_in t row)
      by true d c e =
          let tests = and_parts (is_linked spread) (is_to_link row.target) (subst (λ b. (if b then is_linked spread && is_to_link row.target else true) ≡ true) d both.0) in
          default-row row spread (is ∙ ap (λ pick. EachOf pick spread) (of_default d)) tests.0 tests.1
      by false d true e =
          let target : is_to_link row.target ≡ true = subst (λ b. (if b then is_to_link row.target else true) ≡ true) e both.1 in
          each-turns o s t good.owns good'.owns row pick spread is fit told (λ h. absurd (false≢true (sym d ∙ h))) (λ n. n) (networks ∙ sym (map-id s.networks)) (λ n h. refl) once good.one_id (λ n in_n.
          subst (λ (sp : NetworkPart). TurnsInto rule_kind (part row pick sp s n) (part row pick sp t n)) (sym (of_split' e)) (split-part row target pick d n))
        where
          map-id : (ns : List Network) → map (λ n. n) ns ≡ ns
          map-id [] = refl
          map-id (n ∷ ns) = ap (λ ms. n ∷ ms) (map-id ns)
      by false d false e = stays row (
          ap (λ per. items per t) is
          ∙ (ap (flat_map (items_at pick spread t.default (default_of t))) networks
          ∙ (flat-same (items_at pick spread t.default (default_of t)) (items_at pick spread s.default (default_of s)) (λ n.
          ap₂ (λ (b : Bool) (is : List Item). if b then is else []) (picks-other pick d t.default s.default n) (in-other spread e (default_of t) (default_of s) n)) s.networks
          ∙ sym (ap (λ per. items per s) is))))

  pub default-turns : TurnsInto rule_kind (table_by_rows s) (table_by_rows t)
  default-turns = table-turns o s t good.owns good'.owns (λ row there.
      row-turns row row.per refl (all-has (λ (row : Row). is_led row.per row) rows row each_led there) (all-has (λ (row : Row). is_told_apart row.per row) rows row each_told there) (all-has is_fit rows row each_fit there))
