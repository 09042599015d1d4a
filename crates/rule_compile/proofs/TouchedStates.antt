-- Networks that come or go, another default network, lockdown ranges and pairs: what turns, and that all else stays.
use Rattle.std.proofs.Common.{◌≡◌, ◌∙◌, ◌==◌, ℕ, Bool, true, false, not, Option, Some, None, List, [], ◌∷◌, ◌++◌, refl, sym, ap, ap₂, subst, inl, inr, map, filter}
use Rattle.std.specs.Prelude.{◌&&◌, flat_map, if◌then◌else◌}
use Rattle.std.proofs.lemmas.Bool.{cases_Bool, false≢true, false_from_ne_true, and_parts, eqb-true, eq-eqb}
use Rattle.std.proofs.lemmas.Grind.{flat_map-append}
use Rattle.std.proofs.lemmas.List.{append-nil}
use Rattle.std.proofs.lemmas.Option.{same_Some}
use Rattle.networks.specs.Kinds.{class_of}
use Rattle.networks.specs.Kinds as kinds
use Rattle.networks.specs.Lists.{find_id}
use Rattle.networks.specs.Network.{has_link}
use Rattle.networks.specs.declared.kind.Kind.{Kind}
use Rattle.networks.specs.declared.network.Network.{Network}
use Rattle.network_store.specs.Stored.{bare_net}
use Rattle.policy_state.specs.Good.{IsWellFormed, is_default_there}
use Rattle.policy_state.specs.Rows.{is_default, picks, default_among, default_of, items, items_in, nothing, range_item, pair_item}
use Rattle.policy_state.specs.declared.row.Item.{Item}
use Rattle.policy_state.specs.declared.row.NetworkSet.{NetworkSet}
use Rattle.policy_state.specs.declared.row.NetworkPart.{NetworkPart}
use Rattle.policy_state.specs.declared.row.OnePer.{OnePer}
use Rattle.policy_state.specs.declared.row.NetworkSet.TheVariants.{OfLocal, OfPhysical, OfFree, OfDefault, OfVirtual, OfSecure, OfBypass}
use Rattle.policy_state.specs.declared.row.NetworkPart.TheVariants.{Whole, EachInterface, EachRange, EachDefault}
use Rattle.policy_state.specs.declared.row.OnePer.TheVariants.{Once as OncePer, EachLockdown, EachPair, EachOf}
use Rattle.policy_state.specs.Step.{with_new_net, without_net, is_in}
use Rattle.policy_state.specs.declared.tether.TetherPair.{TetherPair}
use Rattle.policy_state.specs.View.{StateView}
use Rattle.policy_state.proofs.GoodStates.{are-once}
use Rattle.policy_state.proofs.Members.{find-none}
use Rattle.policy_state.proofs.Owners.{Has, Once, Passing, of_any}
use Rattle.policy_state.proofs.RowTests.{is_split, is_of_default}
use Rattle.uid_ranges.specs.declared.range.UidRange.{UidRange}
use Rattle.rule_compile.specs.Touched.{no_part, part_items, is_home, items_of, reaches, new_part, gone_part, default_part, same_default}
use Rattle.rule_compile.specs.declared.part.Extent.TheVariants as extent
use Rattle.rule_compile.proofs.Cutting.{Cut, all-stay, all-turn, cut-map, cut-filter}
use Rattle.rule_compile.proofs.TouchedTables.{IsCut, is_plain}
use Rattle.rule_compile.proofs.TouchedNetworks.{IsOne, found-one, but, one-cut, gone-left, home-found, split_at, split-none, cut-behind, flat-alike, flat-none}
use Rattle.rule_compile.proofs.TouchedItems.{own}
use Rattle.rule_compile.proofs.TouchedKinds.{cut-none, same-cut, still}

no-default : (ns : List Network) → default_among ns None ≡ None
no-default [] = refl
no-default (n ∷ ns) = by (class_of n.kind == 1) (no-default ns)
  where
    by : (b : Bool) → default_among ns None ≡ None → (if b && false then Some n else default_among ns None) ≡ None
    by true rest = rest
    by false rest = rest

-- A network comes.

default-with : (d : Option ℕ) (ns : List Network) (n : Network) → picks OfDefault d n ≡ false → default_among (ns ++ n ∷ []) d ≡ default_among ns d
default-with d [] n other = rw other refl
default-with d (m ∷ ms) n other = ap (λ o. if picks OfDefault d m then Some m else o) (default-with d ms n other)

-- the default network is there already
new-other : (s : StateView) → IsWellFormed s → (net : ℕ) → find_id net s.networks ≡ None → is_default s.default net ≡ false
new-other s formed net unknown = by s.default formed.default
  where
    by : (d : Option ℕ) → is_default_there s.networks d ≡ true → is_default d net ≡ false
    by None there = refl
    by (Some id) there = false_from_ne_true (id == net) (λ same.
        let it : Passing (λ n. (n.id == id) && kinds.is_physical n.kind) s.networks = of_any (λ n. (n.id == id) && kinds.is_physical n.kind) s.networks there in
        let at : (it.one.id == id) ≡ true = (and_parts (it.one.id == id) (kinds.is_physical it.one.kind) it.passes).0 in
        false≢true (sym (find-none (λ (n : Network). net == n.id) s.networks it.one unknown it.there) ∙ eq-eqb net it.one.id (sym (eqb-true id net same) ∙ sym (eqb-true it.one.id id at))))

module _ (s : StateView) (formed : IsWellFormed s) (net : ℕ) (k : Kind) (unknown : find_id net s.networks ≡ None) where
  abbrev fresh : Network
  fresh = bare_net net k

  fresh-other : picks OfDefault s.default fresh ≡ false
  fresh-other = by (class_of k == 1)
    where
      by : (b : Bool) → (b && is_default s.default net) ≡ false
      by true = new-other s formed net unknown
      by false = refl

  pub network-comes : IsCut s (with_new_net net k s) no_part (new_part s fresh)
  network-comes = record { stay = λ per. items per s; of_old = λ per plain. still s per; of_new = of_new }
    where
      last : (f : Network → List Item) → Cut (flat_map f s.networks) (f fresh) (flat_map f (s.networks ++ fresh ∷ []))
      last f = subst (λ xs. Cut (flat_map f s.networks) (f fresh) xs) (sym (flat_map-append f s.networks (fresh ∷ []) ∙ ap (λ xs. flat_map f s.networks ++ xs) (append-nil (f fresh)))) (cut-behind (flat_map f s.networks) (f fresh))

      split : Cut (flat_map (split_at (default_of s)) s.networks) (flat_map (split_at (default_of s)) (fresh ∷ [])) (flat_map (split_at (default_among (s.networks ++ fresh ∷ []) s.default)) (s.networks ++ fresh ∷ []))
      split =
          subst (λ home. Cut (flat_map (split_at (default_of s)) s.networks) (flat_map (split_at (default_of s)) (fresh ∷ [])) (flat_map (split_at home) (s.networks ++ fresh ∷ []))) (sym (default-with s.default s.networks fresh fresh-other))
          (subst (λ xs. Cut (flat_map (split_at (default_of s)) s.networks) (flat_map (split_at (default_of s)) (fresh ∷ [])) xs) (sym (flat_map-append (split_at (default_of s)) s.networks (fresh ∷ [])))
          (cut-behind (flat_map (split_at (default_of s)) s.networks) (flat_map (split_at (default_of s)) (fresh ∷ []))))

      of_new : (per : OnePer) → is_plain per ≡ true → Cut (items per s) (part_items per (new_part s fresh)) (items per (with_new_net net k s))
      of_new OncePer plain = all-stay (nothing ∷ [])
      of_new EachLockdown plain = all-stay (map range_item s.lockdown)
      of_new EachPair plain = all-stay (map pair_item s.pairs)
      of_new (EachOf pick Whole) plain = last (own pick Whole s.default)
      of_new (EachOf pick EachInterface) plain = last (own pick EachInterface s.default)
      of_new (EachOf pick EachRange) plain = last (own pick EachRange s.default)
      of_new (EachOf OfLocal EachDefault) plain = absurd (false≢true plain)
      of_new (EachOf OfPhysical EachDefault) plain = absurd (false≢true plain)
      of_new (EachOf OfFree EachDefault) plain = absurd (false≢true plain)
      of_new (EachOf OfDefault EachDefault) plain = absurd (false≢true plain)
      of_new (EachOf OfVirtual EachDefault) plain = split
      of_new (EachOf OfSecure EachDefault) plain = absurd (false≢true plain)
      of_new (EachOf OfBypass EachDefault) plain = absurd (false≢true plain)

-- A network goes.

-- the default after the network of this id is gone
abbrev pub default_left : ℕ → Option ℕ → Option ℕ
default_left net d = elim d [ Some id ↦ if id == net then None else Some id | None ↦ None ]

default-left : (net : ℕ) (d : Option ℕ) (i : ℕ) → (net == i) ≡ false → is_default (default_left net d) i ≡ is_default d i
default-left net None i other = refl
default-left net (Some id) i other = elim (cases_Bool (id == net)) [
  | inl same ↦ rw same (sym other ∙ ap (λ j. j == i) (sym (eqb-true id net same)))
  | inr differ ↦ rw differ refl
]

picks-left : (net : ℕ) (d : Option ℕ) (pick : NetworkSet) (m : Network) → (net == m.id) ≡ false → picks pick (default_left net d) m ≡ picks pick d m
picks-left net d OfLocal m other = refl
picks-left net d OfPhysical m other = refl
picks-left net d OfFree m other = refl
picks-left net d OfDefault m other = ap (λ b. (class_of m.kind == 1) && b) (default-left net d m.id other)
picks-left net d OfVirtual m other = refl
picks-left net d OfSecure m other = refl
picks-left net d OfBypass m other = refl

-- the default network stays where another one goes
home-left : (net : ℕ) (d : Option ℕ) (ns : List Network) → ((m : Network) → Has ns m → picks OfDefault d m ≡ true → (net == m.id) ≡ false)
    → default_among (filter (λ m. not (net == m.id)) ns) (default_left net d) ≡ default_among ns d
home-left net d [] others = refl
home-left net d (m ∷ ms) others = elim (cases_Bool (net == m.id)) [
  | inl here ↦
      let plain : picks OfDefault d m ≡ false = false_from_ne_true (picks OfDefault d m) (λ home. false≢true (sym (others m (inl refl) home) ∙ here)) in
      rw (here, plain) (home-left net d ms (λ k h. others k (inr h)))
  | inr other ↦
      rw (other, picks-left net d OfDefault m other) (ap (λ o. if picks OfDefault d m then Some m else o) (home-left net d ms (λ k h. others k (inr h))))
]

module _ (s : StateView) (formed : IsWellFormed s) (net : ℕ) (n : Network) (at : find_id net s.networks ≡ Some n) where
  pub network-goes : IsCut s (without_net net s) (gone_part s n) no_part
  network-goes = by (is_home s n) refl
    where
      left : StateView
      left = without_net net s

      one : IsOne net s.networks n
      one = found-one s formed net n at

      once : Once s.networks
      once = (are-once s formed).networks

      same-links : (p : TetherPair) → has_link n p.out ≡ is_in s net p.out
      same-links p = sym (ap (λ o. elim o [ Some m ↦ has_link m p.out | None ↦ false ]) at)

      own-left : (pick : NetworkSet) (spread : NetworkPart) → flat_map (own pick spread left.default) left.networks ≡ flat_map (but net (own pick spread s.default) []) s.networks
      own-left pick spread =
          gone-left net (own pick spread left.default) s.networks
          ∙ flat-alike (but net (own pick spread left.default) []) (but net (own pick spread s.default) []) s.networks (λ m h. elim (cases_Bool (net == m.id)) [
            | inl here ↦ rw here refl
            | inr other ↦ rw (other, picks-left net s.default pick m other) refl
          ])

      own-gone : (pick : NetworkSet) (spread : NetworkPart) → Cut (flat_map (but net (own pick spread s.default) []) s.networks) (own pick spread s.default n) (flat_map (own pick spread s.default) s.networks)
      own-gone pick spread = one-cut net (own pick spread s.default) [] (own pick spread s.default n) s.networks n once one (all-turn (own pick spread s.default n))

      own-stays : (pick : NetworkSet) (spread : NetworkPart) → Cut (flat_map (but net (own pick spread s.default) []) s.networks) [] (flat_map (own pick spread left.default) left.networks)
      own-stays pick spread = subst (λ xs. Cut (flat_map (but net (own pick spread s.default) []) s.networks) [] xs) (sym (own-left pick spread)) (all-stay (flat_map (but net (own pick spread s.default) []) s.networks))

      pairs-stay : List TetherPair
      pairs-stay = filter (λ p. not (is_in s net p.out)) s.pairs

      pairs-gone : Cut pairs-stay (filter (λ p. has_link n p.out) s.pairs) s.pairs
      pairs-gone = subst (λ (o : Option Network). Cut pairs-stay (filter (λ p. elim o [ Some m ↦ has_link m p.out | None ↦ false ]) s.pairs) s.pairs) at (cut-filter (λ (p : TetherPair). is_in s net p.out) s.pairs)

      with-split : (split : List Item) → Cut split (part_items (EachOf OfVirtual EachDefault) (gone_part s n)) (items (EachOf OfVirtual EachDefault) s) → split ≡ items (EachOf OfVirtual EachDefault) left → IsCut s left (gone_part s n) no_part
      with-split split split-old split-new = record { stay = stay; of_old = of_old; of_new = of_new }
        where
          stay : OnePer → List Item
          stay OncePer = nothing ∷ []
          stay EachLockdown = map range_item s.lockdown
          stay EachPair = map pair_item pairs-stay
          stay (EachOf pick Whole) = flat_map (but net (own pick Whole s.default) []) s.networks
          stay (EachOf pick EachInterface) = flat_map (but net (own pick EachInterface s.default) []) s.networks
          stay (EachOf pick EachRange) = flat_map (but net (own pick EachRange s.default) []) s.networks
          stay (EachOf pick EachDefault) = split

          of_old : (per : OnePer) → is_plain per ≡ true → Cut (stay per) (part_items per (gone_part s n)) (items per s)
          of_old OncePer plain = all-stay (nothing ∷ [])
          of_old EachLockdown plain = all-stay (map range_item s.lockdown)
          of_old EachPair plain = cut-map pair_item pairs-stay (filter (λ p. has_link n p.out) s.pairs) s.pairs pairs-gone
          of_old (EachOf pick Whole) plain = own-gone pick Whole
          of_old (EachOf pick EachInterface) plain = own-gone pick EachInterface
          of_old (EachOf pick EachRange) plain = own-gone pick EachRange
          of_old (EachOf OfLocal EachDefault) plain = absurd (false≢true plain)
          of_old (EachOf OfPhysical EachDefault) plain = absurd (false≢true plain)
          of_old (EachOf OfFree EachDefault) plain = absurd (false≢true plain)
          of_old (EachOf OfDefault EachDefault) plain = absurd (false≢true plain)
          of_old (EachOf OfVirtual EachDefault) plain = split-old
          of_old (EachOf OfSecure EachDefault) plain = absurd (false≢true plain)
          of_old (EachOf OfBypass EachDefault) plain = absurd (false≢true plain)

          of_new : (per : OnePer) → is_plain per ≡ true → Cut (stay per) (part_items per no_part) (items per left)
          of_new OncePer plain = all-stay (nothing ∷ [])
          of_new EachLockdown plain = all-stay (map range_item s.lockdown)
          of_new EachPair plain = all-stay (map pair_item pairs-stay)
          of_new (EachOf pick Whole) plain = own-stays pick Whole
          of_new (EachOf pick EachInterface) plain = own-stays pick EachInterface
          of_new (EachOf pick EachRange) plain = own-stays pick EachRange
          of_new (EachOf OfLocal EachDefault) plain = absurd (false≢true plain)
          of_new (EachOf OfPhysical EachDefault) plain = absurd (false≢true plain)
          of_new (EachOf OfFree EachDefault) plain = absurd (false≢true plain)
          of_new (EachOf OfDefault EachDefault) plain = absurd (false≢true plain)
          of_new (EachOf OfVirtual EachDefault) plain = subst (λ xs. Cut split [] xs) split-new (all-stay split)
          of_new (EachOf OfSecure EachDefault) plain = absurd (false≢true plain)
          of_new (EachOf OfBypass EachDefault) plain = absurd (false≢true plain)

      -- whose split rules go
      part-split : (b : Bool) → is_home s n ≡ b → part_items (EachOf OfVirtual EachDefault) (gone_part s n) ≡ flat_map (split_at (default_of s)) (if b then s.networks else n ∷ [])
      part-split true home = ap (λ (b : Bool). flat_map (split_at (default_of s)) (elim (if b then Some s.networks else None) [ Some ns ↦ ns | None ↦ n ∷ [] ])) home
      part-split false other = ap (λ (b : Bool). flat_map (split_at (default_of s)) (elim (if b then Some s.networks else None) [ Some ns ↦ ns | None ↦ n ∷ [] ])) other

      -- it was the default network
      none-left : is_home s n ≡ true → default_of left ≡ None
      none-left home = ap (default_among left.networks) (by-id s.default (and_parts (class_of n.kind == 1) (is_default s.default n.id) home).1) ∙ no-default left.networks
        where
          by-id : (d : Option ℕ) → is_default d n.id ≡ true → default_left net d ≡ None
          by-id None is = refl
          by-id (Some id) is = let same : (id == net) ≡ true = eq-eqb id net (eqb-true id n.id is ∙ sym (eqb-true net n.id one.is)) in rw same refl

      by : (b : Bool) → is_home s n ≡ b → IsCut s left (gone_part s n) no_part
      by true home =
          with-split []
          (subst (λ xs. Cut [] xs (items (EachOf OfVirtual EachDefault) s)) (sym (part-split true home)) (all-turn (items (EachOf OfVirtual EachDefault) s)))
          (sym (ap (λ o. flat_map (split_at o) left.networks) (none-left home) ∙ split-none left.networks))
      by false other =
          with-split (flat_map (but net (split_at (default_of s)) []) s.networks)
          (subst (λ xs. Cut (flat_map (but net (split_at (default_of s)) []) s.networks) xs (items (EachOf OfVirtual EachDefault) s)) (sym (part-split false other ∙ append-nil (split_at (default_of s) n)))
          (one-cut net (split_at (default_of s)) [] (split_at (default_of s) n) s.networks n once one (all-turn (split_at (default_of s) n))))
          (sym (ap (λ o. flat_map (split_at o) left.networks) (home-left net s.default s.networks (λ m there home. false_from_ne_true (net == m.id) (λ same.
          false≢true (sym other ∙ (ap (λ (k : Network). is_home s k) (sym (one.alone m there same)) ∙ home)))))
          ∙ gone-left net (split_at (default_of s)) s.networks))

-- Another default network.

not-reached : (pick : NetworkSet) → is_of_default pick ≡ false → (spread : NetworkPart) → reaches extent.Default pick spread ≡ false
not-reached OfLocal other spread = refl
not-reached OfPhysical other spread = refl
not-reached OfFree other spread = refl
not-reached OfDefault other spread = absurd (false≢true (sym other))
not-reached OfVirtual other spread = refl
not-reached OfSecure other spread = refl
not-reached OfBypass other spread = refl

-- of all networks the default one alone is picked
only-default : (spread : NetworkPart) (d : Option ℕ) (ns : List Network) → Once ns → ((m k : Network) → Has ns m → Has ns k → picks OfDefault d m ≡ true → picks OfDefault d k ≡ true → m ≡ k)
    → flat_map (own OfDefault spread d) ns ≡ items_of OfDefault spread d (default_among ns d)
only-default spread d [] once alone = refl
only-default spread d (m ∷ ms) once alone = elim (cases_Bool (picks OfDefault d m)) [
  | inl home ↦
      let none : flat_map (own OfDefault spread d) ms ≡ [] = flat-none (own OfDefault spread d) ms (λ k h.
      let other : picks OfDefault d k ≡ false = false_from_ne_true (picks OfDefault d k) (λ also. once.0 (subst (λ (j : Network). Has ms j) (sym (alone m k (inl refl) (inr h) home also)) h)) in
      ap (λ b. if b then items_in spread None k else []) other) in
      ap₂ (λ (b : Bool) (xs : List Item). (if b then items_in spread None m else []) ++ xs) home none
      ∙ (append-nil (items_in spread None m) ∙ (sym (ap (λ b. if b then items_in spread None m else []) home) ∙ ap (λ b. items_of OfDefault spread d (if b then Some m else default_among ms d)) (sym home)))
  | inr other ↦
      ap (λ b. (if b then items_in spread None m else []) ++ flat_map (own OfDefault spread d) ms) other
      ∙ (only-default spread d ms once.1 (λ j k g h. alone j k (inr g) (inr h)) ∙ ap (λ b. items_of OfDefault spread d (if b then Some m else default_among ms d)) (sym other))
]

module _ (s : StateView) (formed : IsWellFormed s) where
  one-default : (d : Option ℕ) (m k : Network) → Has s.networks m → Has s.networks k → picks OfDefault d m ≡ true → picks OfDefault d k ≡ true → m ≡ k
  one-default d m k in_m in_k one other = same_Some m k (sym (home-found s formed d m in_m one) ∙ home-found s formed d k in_k other)

  -- what doesn't turn of a row when the default network turns
  abbrev default-stays : NetworkSet → NetworkPart → List Item
  default-stays pick spread = if is_of_default pick then [] else flat_map (own pick spread s.default) s.networks

  module _ (d : Option ℕ) where
    pub reached : (spread : NetworkPart) → is_split spread ≡ false → part_items (EachOf OfDefault spread) (default_part s d) ≡ items_of OfDefault spread d (default_among s.networks d)
    reached Whole plain = refl
    reached EachInterface plain = refl
    reached EachRange plain = refl
    reached EachDefault plain = absurd (false≢true (sym plain))

    pub unreached : (pick : NetworkSet) → is_of_default pick ≡ false → (spread : NetworkPart) → is_split spread ≡ false → part_items (EachOf pick spread) (default_part s d) ≡ []
    unreached pick other Whole plain = ap (λ b. if b then items_of pick Whole d (default_among s.networks d) else []) (not-reached pick other Whole)
    unreached pick other EachInterface plain = ap (λ b. if b then items_of pick EachInterface d (default_among s.networks d) else []) (not-reached pick other EachInterface)
    unreached pick other EachRange plain = ap (λ b. if b then items_of pick EachRange d (default_among s.networks d) else []) (not-reached pick other EachRange)
    unreached pick other EachDefault plain = absurd (false≢true (sym plain))

    default-cut : (pick : NetworkSet) (spread : NetworkPart) → is_split spread ≡ false → Cut (default-stays pick spread) (part_items (EachOf pick spread) (default_part s d)) (flat_map (own pick spread d) s.networks)
    default-cut OfDefault spread plain =
        subst (λ xs. Cut [] xs (flat_map (own OfDefault spread d) s.networks)) (only-default spread d s.networks (are-once s formed).networks (one-default d) ∙ sym (reached spread plain))
        (all-turn (flat_map (own OfDefault spread d) s.networks))
    default-cut OfLocal spread plain = cut-none (flat_map (own OfLocal spread d) s.networks) (part_items (EachOf OfLocal spread) (default_part s d)) (flat_map (own OfLocal spread d) s.networks) (unreached OfLocal refl spread plain) refl
    default-cut OfPhysical spread plain = cut-none (flat_map (own OfPhysical spread d) s.networks) (part_items (EachOf OfPhysical spread) (default_part s d)) (flat_map (own OfPhysical spread d) s.networks) (unreached OfPhysical refl spread plain) refl
    default-cut OfFree spread plain = cut-none (flat_map (own OfFree spread d) s.networks) (part_items (EachOf OfFree spread) (default_part s d)) (flat_map (own OfFree spread d) s.networks) (unreached OfFree refl spread plain) refl
    default-cut OfVirtual spread plain = cut-none (flat_map (own OfVirtual spread d) s.networks) (part_items (EachOf OfVirtual spread) (default_part s d)) (flat_map (own OfVirtual spread d) s.networks) (unreached OfVirtual refl spread plain) refl
    default-cut OfSecure spread plain = cut-none (flat_map (own OfSecure spread d) s.networks) (part_items (EachOf OfSecure spread) (default_part s d)) (flat_map (own OfSecure spread d) s.networks) (unreached OfSecure refl spread plain) refl
    default-cut OfBypass spread plain = cut-none (flat_map (own OfBypass spread d) s.networks) (part_items (EachOf OfBypass spread) (default_part s d)) (flat_map (own OfBypass spread d) s.networks) (unreached OfBypass refl spread plain) refl

    abbrev stays : OnePer → List Item
    stays OncePer = nothing ∷ []
    stays EachLockdown = map range_item s.lockdown
    stays EachPair = map pair_item s.pairs
    stays (EachOf pick Whole) = default-stays pick Whole
    stays (EachOf pick EachInterface) = default-stays pick EachInterface
    stays (EachOf pick EachRange) = default-stays pick EachRange
    stays (EachOf pick EachDefault) = []

    with-default : (per : OnePer) → is_plain per ≡ true → Cut (stays per) (part_items per (default_part s d)) (items per (record s { default = d }))
    with-default OncePer plain = all-stay (nothing ∷ [])
    with-default EachLockdown plain = all-stay (map range_item s.lockdown)
    with-default EachPair plain = all-stay (map pair_item s.pairs)
    with-default (EachOf pick Whole) plain = default-cut pick Whole refl
    with-default (EachOf pick EachInterface) plain = default-cut pick EachInterface refl
    with-default (EachOf pick EachRange) plain = default-cut pick EachRange refl
    with-default (EachOf OfLocal EachDefault) plain = absurd (false≢true plain)
    with-default (EachOf OfPhysical EachDefault) plain = absurd (false≢true plain)
    with-default (EachOf OfFree EachDefault) plain = absurd (false≢true plain)
    with-default (EachOf OfDefault EachDefault) plain = absurd (false≢true plain)
    with-default (EachOf OfVirtual EachDefault) plain = all-turn (items (EachOf OfVirtual EachDefault) (record s { default = d }))
    with-default (EachOf OfSecure EachDefault) plain = absurd (false≢true plain)
    with-default (EachOf OfBypass EachDefault) plain = absurd (false≢true plain)

  pub default-turns : (e : Option ℕ) → IsCut s (record s { default = e }) (default_part s s.default) (default_part s e)
  default-turns e = record { stay = stays s.default; of_old = with-default s.default; of_new = λ per plain. same per plain (with-default e per plain) }
    where
      same : (per : OnePer) → is_plain per ≡ true → Cut (stays e per) (part_items per (default_part s e)) (items per (record s { default = e })) → Cut (stays s.default per) (part_items per (default_part s e)) (items per (record s { default = e }))
      same OncePer plain h = h
      same EachLockdown plain h = h
      same EachPair plain h = h
      same (EachOf pick Whole) plain h = h
      same (EachOf pick EachInterface) plain h = h
      same (EachOf pick EachRange) plain h = h
      same (EachOf pick EachDefault) plain h = h

  pub default-same : (e : Option ℕ) → same_default s.default e ≡ true → IsCut s (record s { default = e }) no_part no_part
  default-same e same = same-cut s (record s { default = e }) (ap (λ d. record s { default = d }) (sym (by s.default e same)))
    where
      by : (d e : Option ℕ) → same_default d e ≡ true → d ≡ e
      by None None h = refl
      by None (Some e) h = absurd (false≢true h)
      by (Some d) None h = absurd (false≢true h)
      by (Some d) (Some e) h = ap Some (eqb-true d e h)

  -- lockdown ranges and pairs
  pub lists-cut : (lockdown ranges_stay ranges_gone ranges_come : List UidRange) (pairs pairs_stay pairs_gone pairs_come : List TetherPair)
      → Cut ranges_stay ranges_gone s.lockdown → Cut ranges_stay ranges_come lockdown → Cut pairs_stay pairs_gone s.pairs → Cut pairs_stay pairs_come pairs
      → IsCut s (record s { lockdown = lockdown; pairs = pairs }) (record no_part { lockdown = ranges_gone; pairs = pairs_gone }) (record no_part { lockdown = ranges_come; pairs = pairs_come })
  lists-cut lockdown ranges_stay ranges_gone ranges_come pairs pairs_stay pairs_gone pairs_come a b c d = record {
    stay = stay;
    of_old = λ per plain. by per s.lockdown ranges_gone s.pairs pairs_gone a c;
    of_new = λ per plain. by per lockdown ranges_come pairs pairs_come b d;
  }
    where
      stay : OnePer → List Item
      stay OncePer = nothing ∷ []
      stay EachLockdown = map range_item ranges_stay
      stay EachPair = map pair_item pairs_stay
      stay (EachOf pick spread) = items (EachOf pick spread) s

      by : (per : OnePer) (ranges range_part : List UidRange) (pairs pair_part : List TetherPair) → Cut ranges_stay range_part ranges → Cut pairs_stay pair_part pairs
          → Cut (stay per) (part_items per (record no_part { lockdown = range_part; pairs = pair_part })) (items per (record s { lockdown = ranges; pairs = pairs }))
      by OncePer ranges range_part pairs pair_part cut cut' = all-stay (nothing ∷ [])
      by EachLockdown ranges range_part pairs pair_part cut cut' = cut-map range_item ranges_stay range_part ranges cut
      by EachPair ranges range_part pairs pair_part cut cut' = cut-map pair_item pairs_stay pair_part pairs cut'
      by (EachOf pick Whole) ranges range_part pairs pair_part cut cut' = all-stay (items (EachOf pick Whole) s)
      by (EachOf pick EachInterface) ranges range_part pairs pair_part cut cut' = all-stay (items (EachOf pick EachInterface) s)
      by (EachOf pick EachRange) ranges range_part pairs pair_part cut cut' = all-stay (items (EachOf pick EachRange) s)
      by (EachOf pick EachDefault) ranges range_part pairs pair_part cut cut' = all-stay (items (EachOf pick EachDefault) s)
