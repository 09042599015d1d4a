-- For each kind of change, what goes of what there are rules for, and what comes: all else stays.
use Rattle.std.proofs.Common.{◌≡◌, ◌∙◌, ◌==◌, ℕ, Bool, true, false, not, Some, None, List, [], ◌∷◌, ◌++◌, refl, sym, ap, ap₂, subst, inl, inr, map, filter}
use Rattle.std.specs.Prelude.{flat_map, if◌then◌else◌}
use Rattle.std.proofs.lemmas.Bool.{false≢true, false_from_ne_true, eqb-true, eq-eqb}
use Rattle.networks.specs.Kinds.{class_of, permission_of}
use Rattle.networks.specs.Lists.{find_id}
use Rattle.networks.specs.Network.{has_link}
use Rattle.networks.specs.declared.network.Network.{Network}
use Rattle.policy_state.specs.Good.{IsWellFormed}
use Rattle.policy_state.specs.Rows.{default_of, items, nothing, range_item, pair_item}
use Rattle.policy_state.specs.declared.row.Item.{Item}
use Rattle.policy_state.specs.declared.row.NetworkSet.{NetworkSet}
use Rattle.policy_state.specs.declared.row.NetworkPart.{NetworkPart}
use Rattle.policy_state.specs.declared.row.OnePer.{OnePer}
use Rattle.policy_state.specs.declared.row.NetworkSet.TheVariants.{OfLocal, OfPhysical, OfFree, OfDefault, OfVirtual, OfSecure, OfBypass}
use Rattle.policy_state.specs.declared.row.NetworkPart.TheVariants.{Whole, EachInterface, EachRange, EachDefault}
use Rattle.policy_state.specs.declared.row.OnePer.TheVariants.{Once as OncePer, EachLockdown, EachPair, EachOf}
use Rattle.policy_state.specs.Step.{with_net, with_link, without_link}
use Rattle.policy_state.specs.declared.tether.TetherPair.{TetherPair}
use Rattle.policy_state.specs.View.{StateView}
use Rattle.policy_state.proofs.GoodStates.{are-once}
use Rattle.policy_state.proofs.Owners.{Has, Once}
use Rattle.policy_state.proofs.RowTests.{is_split}
use Rattle.rule_compile.specs.Touched.{Part, no_part, part_items, is_home, link_part, with_link_alone}
use Rattle.rule_compile.proofs.Cutting.{Cut, all-stay, cut-map, cut-filter}
use Rattle.rule_compile.proofs.TouchedTables.{IsCut, is_plain}
use Rattle.rule_compile.proofs.TouchedNetworks.{IsOne, found-one, but, change_at, one-cut, changed-cut, home-stays, home-changed, home-found, split_at, split-changed, split-none, split-links, cut-behind}
use Rattle.rule_compile.proofs.TouchedItems.{own, own-links, with_links}

-- A change of one network, perhaps with pairs that go.
module _ (s : StateView) (formed : IsWellFormed s) (net : ℕ) (n : Network) (at : find_id net s.networks ≡ Some n) (change : Network → Network) where
  abbrev after : List TetherPair → StateView
  after pairs = record s { networks = map (change_at net change) s.networks; pairs = pairs }

  -- what is to be shown of the network, of the split rules and of the pairs
  pub record NetCut (gone come : Part) (pairs : List TetherPair) : Type 0 where
    pub stay : NetworkSet → NetworkPart → List Item
    pub of_old : (pick : NetworkSet) (spread : NetworkPart) → is_split spread ≡ false → Cut (stay pick spread) (part_items (EachOf pick spread) gone) (own pick spread s.default n)
    pub of_new : (pick : NetworkSet) (spread : NetworkPart) → is_split spread ≡ false → Cut (stay pick spread) (part_items (EachOf pick spread) come) (own pick spread s.default (change n))
    pub split : List Item
    pub split_old : Cut split (part_items (EachOf OfVirtual EachDefault) gone) (items (EachOf OfVirtual EachDefault) s)
    pub split_new : Cut split (part_items (EachOf OfVirtual EachDefault) come) (items (EachOf OfVirtual EachDefault) (after pairs))
    pub pairs_stay : List TetherPair
    pub pairs_old : Cut pairs_stay gone.pairs s.pairs
    pub pairs_new : Cut pairs_stay come.pairs pairs
    pub no_lockdown : (gone.lockdown ≡ []) × (come.lockdown ≡ [])

  one : IsOne net s.networks n
  one = found-one s formed net n at

  once : Once s.networks
  once = (are-once s formed).networks

  pub net-cut : (gone come : Part) (pairs : List TetherPair) → NetCut gone come pairs → IsCut s (after pairs) gone come
  net-cut gone come pairs h = record { stay = stay; of_old = of_old; of_new = of_new }
    where
      stay : OnePer → List Item
      stay OncePer = nothing ∷ []
      stay EachLockdown = map range_item s.lockdown
      stay EachPair = map pair_item h.pairs_stay
      stay (EachOf pick Whole) = flat_map (but net (own pick Whole s.default) (h.stay pick Whole)) s.networks
      stay (EachOf pick EachInterface) = flat_map (but net (own pick EachInterface s.default) (h.stay pick EachInterface)) s.networks
      stay (EachOf pick EachRange) = flat_map (but net (own pick EachRange s.default) (h.stay pick EachRange)) s.networks
      stay (EachOf pick EachDefault) = h.split

      lockdown : (part : Part) → part.lockdown ≡ [] → Cut (map range_item s.lockdown) (map range_item part.lockdown) (map range_item s.lockdown)
      lockdown part none = subst (λ xs. Cut (map range_item s.lockdown) (map range_item xs) (map range_item s.lockdown)) (sym none) (all-stay (map range_item s.lockdown))

      old : (pick : NetworkSet) (spread : NetworkPart) → is_split spread ≡ false
          → Cut (flat_map (but net (own pick spread s.default) (h.stay pick spread)) s.networks) (part_items (EachOf pick spread) gone) (flat_map (own pick spread s.default) s.networks)
      old pick spread plain = one-cut net (own pick spread s.default) (h.stay pick spread) (part_items (EachOf pick spread) gone) s.networks n once one (h.of_old pick spread plain)

      new : (pick : NetworkSet) (spread : NetworkPart) → is_split spread ≡ false
          → Cut (flat_map (but net (own pick spread s.default) (h.stay pick spread)) s.networks) (part_items (EachOf pick spread) come) (flat_map (own pick spread s.default) (map (change_at net change) s.networks))
      new pick spread plain = changed-cut net (own pick spread s.default) change (h.stay pick spread) (part_items (EachOf pick spread) come) s.networks n once one (h.of_new pick spread plain)

      of_old : (per : OnePer) → is_plain per ≡ true → Cut (stay per) (part_items per gone) (items per s)
      of_old OncePer plain = all-stay (nothing ∷ [])
      of_old EachLockdown plain = lockdown gone h.no_lockdown.0
      of_old EachPair plain = cut-map pair_item h.pairs_stay gone.pairs s.pairs h.pairs_old
      of_old (EachOf pick Whole) plain = old pick Whole refl
      of_old (EachOf pick EachInterface) plain = old pick EachInterface refl
      of_old (EachOf pick EachRange) plain = old pick EachRange refl
      of_old (EachOf OfLocal EachDefault) plain = absurd (false≢true plain)
      of_old (EachOf OfPhysical EachDefault) plain = absurd (false≢true plain)
      of_old (EachOf OfFree EachDefault) plain = absurd (false≢true plain)
      of_old (EachOf OfDefault EachDefault) plain = absurd (false≢true plain)
      of_old (EachOf OfVirtual EachDefault) plain = h.split_old
      of_old (EachOf OfSecure EachDefault) plain = absurd (false≢true plain)
      of_old (EachOf OfBypass EachDefault) plain = absurd (false≢true plain)

      of_new : (per : OnePer) → is_plain per ≡ true → Cut (stay per) (part_items per come) (items per (after pairs))
      of_new OncePer plain = all-stay (nothing ∷ [])
      of_new EachLockdown plain = lockdown come h.no_lockdown.1
      of_new EachPair plain = cut-map pair_item h.pairs_stay come.pairs pairs h.pairs_new
      of_new (EachOf pick Whole) plain = new pick Whole refl
      of_new (EachOf pick EachInterface) plain = new pick EachInterface refl
      of_new (EachOf pick EachRange) plain = new pick EachRange refl
      of_new (EachOf OfLocal EachDefault) plain = absurd (false≢true plain)
      of_new (EachOf OfPhysical EachDefault) plain = absurd (false≢true plain)
      of_new (EachOf OfFree EachDefault) plain = absurd (false≢true plain)
      of_new (EachOf OfDefault EachDefault) plain = absurd (false≢true plain)
      of_new (EachOf OfVirtual EachDefault) plain = h.split_new
      of_new (EachOf OfSecure EachDefault) plain = absurd (false≢true plain)
      of_new (EachOf OfBypass EachDefault) plain = absurd (false≢true plain)

  -- no split rule turns where the network isn't the default one
  module _ (id : (change n).id ≡ n.id) (class : class_of (change n).kind ≡ class_of n.kind) where
    pub split-stays : is_home s n ≡ false → (pairs : List TetherPair) → items (EachOf OfVirtual EachDefault) (after pairs) ≡ items (EachOf OfVirtual EachDefault) s
    split-stays other pairs =
        ap (λ home. flat_map (split_at home) (map (change_at net change) s.networks)) (home-stays s formed net n one change id class other)
        ∙ split-changed (default_of s) net change s.networks n one id class

    pub split-turns : is_home s n ≡ true → (pairs : List TetherPair) → items (EachOf OfVirtual EachDefault) (after pairs) ≡ flat_map (split_at (Some (change n))) s.networks
    split-turns home pairs =
        ap (λ home. flat_map (split_at home) (map (change_at net change) s.networks)) (home-changed s formed net n one change id class home)
        ∙ split-changed (Some (change n)) net change s.networks n one id class

    pub split-old : is_home s n ≡ true → items (EachOf OfVirtual EachDefault) s ≡ flat_map (split_at (Some n)) s.networks
    split-old home = ap (λ home. flat_map (split_at home) s.networks) (home-found s formed s.default n one.there home)

  -- nothing turns in a part that is none
  pub nothing-of : (pick : NetworkSet) (spread : NetworkPart) → is_split spread ≡ false → part_items (EachOf pick spread) no_part ≡ []
  nothing-of pick Whole plain = refl
  nothing-of pick EachInterface plain = refl
  nothing-of pick EachRange plain = refl
  nothing-of pick EachDefault plain = absurd (false≢true (sym plain))

pub cut-none : (stay part whole : List Item) → part ≡ [] → stay ≡ whole → Cut stay part whole
cut-none stay part whole none same = subst (λ xs. Cut stay xs whole) (sym none) (subst (λ xs. Cut stay [] xs) same (all-stay stay))

-- Interfaces.

link-alone : (link : ℕ) (links : List ℕ) → Once links → Has links link → filter (λ i. i == link) links ≡ link ∷ []
link-alone link [] once there = absurd there
link-alone link (i ∷ links) once (inl same) = by (i == link) (eq-eqb i link same)
  where
    none : (links : List ℕ) → (Has links link → ⊥) → filter (λ i. i == link) links ≡ []
    none [] apart = refl
    none (j ∷ js) apart = rw (false_from_ne_true (j == link) (λ e. apart (inl (eqb-true j link e)))) (none js (λ h. apart (inr h)))

    by : (b : Bool) → b ≡ true → (if b then i ∷ filter (λ i. i == link) links else filter (λ i. i == link) links) ≡ link ∷ []
    by true e = ap₂ (λ (j : ℕ) (js : List ℕ). j ∷ js) same (none links (λ h. once.0 (subst (λ (j : ℕ). Has links j) (sym same) h)))
    by false e = absurd (false≢true e)
link-alone link (i ∷ links) once (inr there) =
    rw (false_from_ne_true (i == link) (λ e. once.0 (subst (λ (j : ℕ). Has links j) (sym (eqb-true i link e)) there))) (link-alone link links once.1 there)

module _ (s : StateView) (formed : IsWellFormed s) (net link : ℕ) (n : Network) (at : find_id net s.networks ≡ Some n) where
  -- an interface turns, in a network that otherwise stays: it comes or goes
  part-split : (b : Bool) → is_home s n ≡ b → part_items (EachOf OfVirtual EachDefault) (link_part s n link) ≡ flat_map (split_at (if b then Some (with_link_alone link n) else None)) s.networks
  part-split b is = ap (λ (b : Bool). flat_map (split_at (if b then Some (with_link_alone link n) else None)) s.networks) is

  pub link-comes : has_link n link ≡ false → IsCut s (with_net net (with_link link) s) no_part (link_part s n link)
  link-comes lacks = net-cut s formed net n at (with_link link) no_part (link_part s n link) s.pairs (record {
    stay = λ pick spread. own pick spread s.default n;
    of_old = λ pick spread plain. cut-none (own pick spread s.default n) (part_items (EachOf pick spread) no_part) (own pick spread s.default n) (nothing-of s formed net n at (with_link link) pick spread plain) refl;
    of_new = λ pick spread plain. subst (λ (m : Network). Cut (own pick spread s.default n) (part_items (EachOf pick spread) (link_part s n link)) (own pick spread s.default m)) (sym grown)
        (own-links s n link n.interfaces (n.interfaces ++ link ∷ []) n.routes n.routes (cut-behind n.interfaces (link ∷ [])) pick spread plain);
    split = items (EachOf OfVirtual EachDefault) s;
    split_old = all-stay (items (EachOf OfVirtual EachDefault) s);
    split_new = split (is_home s n) refl;
    pairs_stay = s.pairs;
    pairs_old = all-stay s.pairs;
    pairs_new = all-stay s.pairs;
    no_lockdown = (refl, refl);
  })
    where
      grown : with_link link n ≡ with_links n (n.interfaces ++ link ∷ []) n.routes
      grown = rw lacks refl

      id : (with_link link n).id ≡ n.id
      id = ap (λ (m : Network). m.id) grown

      class : class_of (with_link link n).kind ≡ class_of n.kind
      class = ap (λ (m : Network). class_of m.kind) grown

      split : (b : Bool) → is_home s n ≡ b
          → Cut (items (EachOf OfVirtual EachDefault) s) (part_items (EachOf OfVirtual EachDefault) (link_part s n link)) (items (EachOf OfVirtual EachDefault) (with_net net (with_link link) s))
      split false other = cut-none (items (EachOf OfVirtual EachDefault) s) (part_items (EachOf OfVirtual EachDefault) (link_part s n link)) (items (EachOf OfVirtual EachDefault) (with_net net (with_link link) s))
          (part-split false other ∙ split-none s.networks) (sym (split-stays s formed net n at (with_link link) id class other s.pairs))
      split true home =
          subst (λ xs. Cut xs (part_items (EachOf OfVirtual EachDefault) (link_part s n link)) (items (EachOf OfVirtual EachDefault) (with_net net (with_link link) s))) (sym (split-old s formed net n at (with_link link) id class home))
          (subst (λ xs. Cut (flat_map (split_at (Some n)) s.networks) xs (items (EachOf OfVirtual EachDefault) (with_net net (with_link link) s))) (sym (part-split true home))
          (subst (λ xs. Cut (flat_map (split_at (Some n)) s.networks) (flat_map (split_at (Some (with_link_alone link n))) s.networks) xs) (sym (split-turns s formed net n at (with_link link) id class home s.pairs))
          (split-links (permission_of n.kind) n.interfaces (link ∷ []) (n.interfaces ++ link ∷ []) (cut-behind n.interfaces (link ∷ [])) n (with_link_alone link n) (with_link link n)
          refl refl (ap (λ (m : Network). m.interfaces) grown) refl refl (ap (λ (m : Network). permission_of m.kind) grown) s.networks)))

  pub link-goes : Has n.interfaces link
      → IsCut s (record (with_net net (without_link link) s) { pairs = filter (λ p. not (p.out == link)) s.pairs }) (record (link_part s n link) { pairs = filter (λ p. p.out == link) s.pairs }) no_part
  link-goes there = net-cut s formed net n at (without_link link) (record (link_part s n link) { pairs = filter (λ p. p.out == link) s.pairs }) no_part (filter (λ p. not (p.out == link)) s.pairs) (record {
    stay = λ pick spread. own pick spread s.default (without_link link n);
    of_old = λ pick spread plain. old pick spread plain (own-links s n link (without_link link n).interfaces n.interfaces (without_link link n).routes n.routes thinned pick spread plain);
    of_new = λ pick spread plain. cut-none (own pick spread s.default (without_link link n)) (part_items (EachOf pick spread) no_part) (own pick spread s.default (without_link link n))
        (nothing-of s formed net n at (without_link link) pick spread plain) refl;
    split = items (EachOf OfVirtual EachDefault) (after s formed net n at (without_link link) (filter (λ p. not (p.out == link)) s.pairs));
    split_old = split (is_home s n) refl;
    split_new = all-stay (items (EachOf OfVirtual EachDefault) (after s formed net n at (without_link link) (filter (λ p. not (p.out == link)) s.pairs)));
    pairs_stay = filter (λ p. not (p.out == link)) s.pairs;
    pairs_old = cut-filter (λ (p : TetherPair). p.out == link) s.pairs;
    pairs_new = all-stay (filter (λ p. not (p.out == link)) s.pairs);
    no_lockdown = (refl, refl);
  })
    where
      thinned : Cut (filter (λ i. not (i == link)) n.interfaces) (link ∷ []) n.interfaces
      thinned =
          subst (λ xs. Cut (filter (λ i. not (i == link)) n.interfaces) xs n.interfaces)
          (link-alone link n.interfaces ((are-once s formed).interfaces n (found-one s formed net n at).there) there) (cut-filter (λ i. i == link) n.interfaces)

      old : (pick : NetworkSet) (spread : NetworkPart) → is_split spread ≡ false
          → Cut (own pick spread s.default (without_link link n)) (part_items (EachOf pick spread) (link_part s n link)) (own pick spread s.default n)
          → Cut (own pick spread s.default (without_link link n)) (part_items (EachOf pick spread) (record (link_part s n link) { pairs = filter (λ p. p.out == link) s.pairs })) (own pick spread s.default n)
      old pick Whole plain h = h
      old pick EachInterface plain h = h
      old pick EachRange plain h = h
      old pick EachDefault plain h = absurd (false≢true (sym plain))

      left : List Item
      left = items (EachOf OfVirtual EachDefault) (after s formed net n at (without_link link) (filter (λ p. not (p.out == link)) s.pairs))

      split : (b : Bool) → is_home s n ≡ b → Cut left (part_items (EachOf OfVirtual EachDefault) (link_part s n link)) (items (EachOf OfVirtual EachDefault) s)
      split false other = cut-none left (part_items (EachOf OfVirtual EachDefault) (link_part s n link)) (items (EachOf OfVirtual EachDefault) s)
          (part-split false other ∙ split-none s.networks) (split-stays s formed net n at (without_link link) refl refl other (filter (λ p. not (p.out == link)) s.pairs))
      split true home =
          subst (λ xs. Cut xs (part_items (EachOf OfVirtual EachDefault) (link_part s n link)) (items (EachOf OfVirtual EachDefault) s)) (sym (split-turns s formed net n at (without_link link) refl refl home (filter (λ p. not (p.out == link)) s.pairs)))
          (subst (λ xs. Cut (flat_map (split_at (Some (without_link link n))) s.networks) xs (items (EachOf OfVirtual EachDefault) s)) (sym (part-split true home))
          (subst (λ xs. Cut (flat_map (split_at (Some (without_link link n))) s.networks) (flat_map (split_at (Some (with_link_alone link n))) s.networks) xs) (sym (split-old s formed net n at (without_link link) refl refl home))
          (split-links (permission_of n.kind) (filter (λ i. not (i == link)) n.interfaces) (link ∷ []) n.interfaces thinned (without_link link n) (with_link_alone link n) n refl refl refl refl refl refl s.networks)))

-- where there are the same items nothing turns

pub still : (s : StateView) (per : OnePer) → Cut (items per s) (part_items per no_part) (items per s)
still s OncePer = all-stay (nothing ∷ [])
still s EachLockdown = all-stay (map range_item s.lockdown)
still s EachPair = all-stay (map pair_item s.pairs)
still s (EachOf pick Whole) = all-stay (items (EachOf pick Whole) s)
still s (EachOf pick EachInterface) = all-stay (items (EachOf pick EachInterface) s)
still s (EachOf pick EachRange) = all-stay (items (EachOf pick EachRange) s)
still s (EachOf pick EachDefault) = all-stay (items (EachOf pick EachDefault) s)

pub same-items : (s t : StateView) → ((per : OnePer) → items per t ≡ items per s) → IsCut s t no_part no_part
same-items s t same = record {
  stay = λ per. items per s;
  of_old = λ per plain. still s per;
  of_new = λ per plain. subst (λ xs. Cut (items per s) (part_items per no_part) xs) (sym (same per)) (still s per);
}

pub same-cut : (s t : StateView) → t ≡ s → IsCut s t no_part no_part
same-cut s t same = same-items s t (λ per. ap (items per) same)
