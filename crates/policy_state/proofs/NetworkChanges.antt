-- A well formed state with one of its networks changed.
use Rattle.std.proofs.Common.{◌≡◌, ◌∙◌, ◌≤◌, ◌==◌, ◌&&◌, ℕ, Bool, true, false, not, Some, None, List, [], ◌∷◌, length, map, filter, refl, sym, ap, ap₂, subst, inl, inr, if◌then◌else◌}
use Rattle.std.specs.Prelude.{◌⊎◌, nat_le, Option, option_and_then}
use Rattle.std.specs.List.{list_all, list_any}
use Rattle.std.proofs.lemmas.Bool.{cases_Bool, false≢true, and_parts, and_from, or_parts, not_from_false, not-true, eqb-true, eq-eqb}
use Rattle.std.proofs.lemmas.List.{length-map}
use Rattle.std.proofs.lemmas.List.Folds.{list_all-map}
use Rattle.list_lemmas.specs.Pairwise.{pairwise}
use Rattle.list_lemmas.proofs.Anys.{any-map}
use Rattle.list_lemmas.proofs.Numbers.{unlike-sym}
use Rattle.networks.specs.Kinds.{class_of, ranges_of, is_local, is_physical}
use Rattle.networks.specs.Lists.{find_id, AreKeyed}
use Rattle.networks.specs.Network.{has_link}
use Rattle.policy_state.specs.Good.{differ, nets_differ, ranks_differ, is_local_network, is_by_link, is_index, is_output, is_default_there, are_interfaces_links, most_routes, IsNetwork, StartsLocal, AreNetworks, ArePairs, IsWellFormed}
use Rattle.policy_state.specs.Rows.{default_among}
use Rattle.policy_state.specs.Step.{with_net}
use Rattle.policy_state.specs.View.{StateView, Network, Ranked, TetherPair}
use Rattle.policy_state.proofs.AlikeRules.{all-has}
use Rattle.policy_state.proofs.GoodStates.{each-has, same-ids}
use Rattle.policy_state.proofs.Members.{all-from, all-implied, any-implied, each-map, pairwise-map, of_filter}
use Rattle.policy_state.proofs.Differing.{Differ, differ-parts, differ-from, differ-turned}
use Rattle.policy_state.proofs.NetworkParts.{has-link, local-class, physical-class, same-test, id-found}
use Rattle.policy_state.proofs.Owners.{Has, find-has}
use Rattle.policy_state.proofs.PairLists.{pairs-kept, pairs-filter}

-- the networks with the one of this id changed
abbrev pub with_change : ℕ → (Network → Network) → List Network → List Network
with_change net change ns = map (λ n. if net == n.id then change n else n) ns

pub untouched : (net : ℕ) (change : Network → Network) (ns : List Network) → list_any (λ i. i == net) (map (λ n. n.id) ns) ≡ false → with_change net change ns ≡ ns
untouched net change [] absent = refl
untouched net change (n ∷ ns) absent =
    let parts = or_parts (n.id == net) (list_any (λ i. i == net) (map (λ m. m.id) ns)) absent in
    let other : (net == n.id) ≡ false = unlike-sym n.id net parts.0 in
    rw other (ap (λ rest. n ∷ rest) (untouched net change ns parts.1))

-- ids differ, by numbers
keyed-from : (ns : List Network) → pairwise nets_differ ns ≡ true → AreKeyed ns
keyed-from [] all = refl
keyed-from (n ∷ ns) all =
    let parts = and_parts (list_all (nets_differ n) ns) (pairwise nets_differ ns) all in
    let absent : list_any (λ i. i == n.id) (map (λ m. m.id) ns) ≡ false =
    any-map (λ m. m.id) (λ i. i == n.id) ns ∙ none-from (λ m. m.id == n.id) ns (λ m there.
    let apart : differ n.id m.id ≡ true = (and_parts (differ n.id m.id) _ (all-has (nets_differ n) ns m parts.0 there)).0 in
    unlike-sym n.id m.id (not-true (n.id == m.id) apart)) in
    and_from _ _ (not_from_false _ absent) (keyed-from ns parts.1)
  where
    none-from : {A : Type 0} (t : A → Bool) (xs : List A) → ((x : A) → Has xs x → t x ≡ false) → list_any t xs ≡ false
    none-from t [] each = refl
    none-from t (x ∷ xs) each = rw (each x (inl refl)) (none-from t xs (λ y h. each y (inr h)))

pub ids-distinct : (s : StateView) → IsWellFormed s → AreKeyed s.networks
ids-distinct s formed = keyed-from s.networks formed.networks.differ

-- a link that is no interface yet
pub record IsIdle (s : StateView) (link : ℕ) : Type 0 where
  pub known : is_index s.links link ≡ true
  pub in_none : (o : Network) → Has s.networks o → has_link o link ≡ false

-- ranges of this class that the range meets have another rank
abbrev pub IsUnranked : StateView → ℕ → Ranked → Type 0
IsUnranked s class r = (o : Network) → Has s.networks o → class_of o.kind ≡ class → (q : Ranked) → Has (ranges_of o.kind) q → ranks_differ q r ≡ true

-- What a network of the state may be changed into: it keeps its id and its kind's class, an interface that comes is a link that no network has, and a
-- range that comes is no other network's.
pub record MayBecome (s : StateView) (n m : Network) : Type 0 where
  pub id : m.id ≡ n.id
  pub class : class_of m.kind ≡ class_of n.kind
  pub good : IsNetwork m
  pub links : (link : ℕ) → Has m.interfaces link → Has n.interfaces link ⊎ IsIdle s link
  pub ranges : (r : Ranked) → Has (ranges_of m.kind) r → Has (ranges_of n.kind) r ⊎ IsUnranked s (class_of n.kind) r
  pub by_link : is_local n.kind ≡ true → list_all is_by_link m.routes ≡ true
  pub few_routes : is_local n.kind ≡ true → length m.routes ≤ most_routes

module _ (s : StateView) (formed : IsWellFormed s) (net : ℕ) (n : Network) (found : find_id net s.networks ≡ Some n) (change : Network → Network) (may : MayBecome s n (change n)) where
  there : Has s.networks n
  there = find-has (λ (m : Network). net == m.id) s.networks n found

  abbrev step : Network → Network
  step m = if net == m.id then change m else m

  -- a network of the state is the changed one, or stays
  at : (m : Network) → Has s.networks m → ((m ≡ n) × (step m ≡ change n)) ⊎ (step m ≡ m)
  at m in_m = elim (cases_Bool (net == m.id)) [
    | inl e ↦
        let same : m ≡ n = same-ids s formed m n in_m there (sym (eqb-true net m.id e) ∙ id-found net s.networks n found) in
        inl (same, rw e (ap change same))
    | inr e ↦ inr (rw e refl)
  ]

  differ-changed : (m : Network) → Has s.networks m → Differ m n → Differ m (change n)
  differ-changed m in_m h = record {
    ids = ap (λ i. m.id == i) may.id ∙ h.ids;
    links = λ link in_m' in_c. elim (may.links link in_c) [
      | inl old ↦ h.links link in_m' old
      | inr idle ↦ false≢true (sym (idle.in_none m in_m) ∙ has-link m link in_m')
    ];
    ranks = λ same r q in_r in_q. elim (may.ranges q in_q) [
      | inl old ↦ h.ranks (same ∙ may.class) r q in_r old
      | inr free ↦ free m in_m (same ∙ may.class) r in_r
    ];
  }

  kept : (x y : Network) → Has s.networks x → Has s.networks y → nets_differ x y ≡ true → nets_differ (step x) (step y) ≡ true
  kept x y in_x in_y h = elim (at x in_x) [
    | inl one ↦ elim (at y in_y) [
      | inl other ↦
          let apart : Differ x y = differ-parts x y h in
          absurd (false≢true (sym apart.ids ∙ eq-eqb x.id y.id (ap (λ m. m.id) (one.0 ∙ sym other.0))))
      | inr other ↦
          let apart : Differ x y = differ-parts x y h in
          rw (one.1, other) (differ-from (change n) y (differ-turned y (change n) (differ-changed y in_y (differ-turned n y (subst (λ m. Differ m y) one.0 apart)))))
    ]
    | inr one ↦ elim (at y in_y) [
      | inl other ↦ rw (one, other.1) (differ-from x (change n) (differ-changed x in_x (subst (λ m. Differ x m) other.0 (differ-parts x y h))))
      | inr other ↦ rw (one, other) h
    ]
  ]

  -- what holds of the changed network and of those that stay holds of all
  any-step : (P : Network → Type 0) → P (change n) → ((m : Network) → Has s.networks m → P m) → (m : Network) → Has s.networks m → P (step m)
  any-step P new old m in_m = elim (at m in_m) [
    | inl e ↦ subst P (sym e.1) new
    | inr e ↦ subst P (sym e) (old m in_m)
  ]

  -- what is the same of the changed network is the same of all
  same-step : {A : Type 0} (f : Network → A) → f (change n) ≡ f n → (m : Network) → Has s.networks m → f (step m) ≡ f m
  same-step f same m in_m = elim (at m in_m) [
    | inl e ↦ ap f e.1 ∙ (same ∙ sym (ap f e.0))
    | inr e ↦ ap f e
  ]

  local-step : (m : Network) → Has s.networks m → is_local_network (step m) ≡ is_local_network m
  local-step = same-step is_local_network (same-test is_local 0 local-class (change n).kind n.kind may.class)

  id-step : (m : Network) → Has s.networks m → (step m).id ≡ m.id
  id-step = same-step (λ m. m.id) may.id

  physical-step : (m : Network) → Has s.networks m → is_physical (step m).kind ≡ is_physical m.kind
  physical-step = same-step (λ m. is_physical m.kind) (same-test is_physical 1 physical-class (change n).kind n.kind may.class)

  starts : StartsLocal (with_change net change s.networks)
  starts =
      let start : StartsLocal s.networks = formed.networks.local_first in
      let first : Has s.networks start.local = subst (λ ns. Has ns start.local) (sym start.first) (inl refl) in
      let later : (m : Network) → Has start.others m → Has s.networks m = λ m h. subst (λ ns. Has ns m) (sym start.first) (inr h) in
      record {
        local = step start.local;
        others = map step start.others;
        first = ap (map step) start.first;
        is_local = local-step start.local first ∙ start.is_local;
        id_is = id-step start.local first ∙ start.id_is;
        by_link = elim (at start.local first) [
          | inl e ↦ ap (λ m. list_all is_by_link m.routes) e.1 ∙ may.by_link (ap is_local_network (sym e.0) ∙ start.is_local)
          | inr e ↦ ap (λ m. list_all is_by_link m.routes) e ∙ start.by_link
        ];
        few_routes = elim (at start.local first) [
          | inl e ↦ subst (λ m. length m.routes ≤ most_routes) (sym e.1) (may.few_routes (ap is_local_network (sym e.0) ∙ start.is_local))
          | inr e ↦ subst (λ m. length m.routes ≤ most_routes) (sym e) start.few_routes
        ];
        others_created = list_all-map (λ m. not (is_local_network m) && nat_le 100 m.id) step start.others
            ∙ all-implied (λ m. not (is_local_network m) && nat_le 100 m.id) (λ m. not (is_local_network (step m)) && nat_le 100 (step m).id) start.others
            (λ m in_m h. ap₂ (λ (b : Bool) (i : ℕ). not b && nat_le 100 i) (local-step m (later m in_m)) (id-step m (later m in_m)) ∙ h) start.others_created;
      }

  networks-changed : AreNetworks (with_change net change s.networks)
  networks-changed = record {
    each = each-map IsNetwork step s.networks (any-step IsNetwork may.good (λ m in_m. each-has IsNetwork s.networks m formed.networks.each in_m));
    differ = pairwise-map nets_differ step s.networks kept formed.networks.differ;
    local_first = starts;
    few = subst (λ k. k ≤ 1000) (sym (length-map s.networks step)) formed.networks.few;
  }

  interfaces-changed : are_interfaces_links s.links (with_change net change s.networks) ≡ true
  interfaces-changed =
      list_all-map (λ m. list_all (is_index s.links) m.interfaces) step s.networks
      ∙ all-from (λ m. list_all (is_index s.links) (step m).interfaces) s.networks (any-step (λ m. list_all (is_index s.links) m.interfaces ≡ true)
      (all-from (is_index s.links) (change n).interfaces (λ i in_i. elim (may.links i in_i) [
        | inl old ↦ all-has (is_index s.links) n.interfaces i (all-has (λ m. list_all (is_index s.links) m.interfaces) s.networks n formed.interfaces there) old
        | inr idle ↦ idle.known
      ]))
      (λ m in_m. all-has (λ m. list_all (is_index s.links) m.interfaces) s.networks m formed.interfaces in_m))

  default-changed : (default : Option ℕ) → is_default_there s.networks default ≡ true → is_default_there (with_change net change s.networks) default ≡ true
  default-changed None h = h
  default-changed (Some id) h =
      any-map step (λ m. (m.id == id) && is_physical m.kind) s.networks
      ∙ any-implied (λ m. (m.id == id) && is_physical m.kind) (λ m. ((step m).id == id) && is_physical (step m).kind) s.networks
      (λ m in_m both. ap₂ (λ (i : ℕ) (b : Bool). (i == id) && b) (id-step m in_m) (physical-step m in_m) ∙ both) h

  -- an interface that the changed network keeps is an output still
  pub output-stays : (link : ℕ) → (has_link n link ≡ true → has_link (change n) link ≡ true) → is_output s.networks link ≡ true → is_output (with_change net change s.networks) link ≡ true
  output-stays link keeps h =
      any-map step (λ m. has_link m link && not (is_local_network m)) s.networks
      ∙ any-implied (λ m. has_link m link && not (is_local_network m)) (λ m. has_link (step m) link && not (is_local_network (step m))) s.networks
      (λ m in_m both.
      let parts = and_parts (has_link m link) (not (is_local_network m)) both in
      let stays : has_link (step m) link ≡ true =
      elim (at m in_m) [
        | inl e ↦ ap (λ k. has_link k link) e.1 ∙ keeps (subst (λ k. has_link k link ≡ true) e.0 parts.0)
        | inr e ↦ ap (λ k. has_link k link) e ∙ parts.0
      ] in
      and_from _ _ stays (ap not (local-step m in_m) ∙ parts.1)) h

  -- the state with the network changed, and with pairs that fit
  pub formed-network : (pairs : List TetherPair) → ArePairs s.links (with_change net change s.networks) pairs → IsWellFormed (record (with_net net change s) { pairs = pairs })
  formed-network pairs good = record {
    links = formed.links;
    networks = networks-changed;
    interfaces = interfaces-changed;
    users = formed.users;
    lockdown_disjoint = formed.lockdown_disjoint;
    lockdown_few = formed.lockdown_few;
    pairs = good;
    default = default-changed s.default formed.default;
  }

  -- and the pairs that were there, where no interface goes
  pub formed-keeping : ((link : ℕ) → has_link n link ≡ true → has_link (change n) link ≡ true) → IsWellFormed (with_net net change s)
  formed-keeping keeps = formed-network s.pairs
      (pairs-kept s.links s.links s.networks (with_change net change s.networks) s.pairs formed.pairs (λ pair in_pair h. h) (λ pair in_pair h. output-stays pair.out (keeps pair.out) h))

  -- and those that go out by another interface than the one that goes
  pub formed-leaving : (gone : ℕ) → ((link : ℕ) → (link == gone) ≡ false → has_link n link ≡ true → has_link (change n) link ≡ true)
      → IsWellFormed (record (with_net net change s) { pairs = filter (λ p. not (p.out == gone)) s.pairs })
  formed-leaving gone keeps =
      let q : TetherPair → Bool = λ p. not (p.out == gone) in
      formed-network (filter q s.pairs) (pairs-kept s.links s.links s.networks (with_change net change s.networks) (filter q s.pairs) (pairs-filter s.links s.networks q s.pairs formed.pairs)
      (λ pair in_pair h. h)
      (λ pair in_pair h. output-stays pair.out (keeps pair.out (not-true (pair.out == gone) (of_filter q s.pairs pair in_pair).1)) h))

-- the default network by its id

abbrev pub if_physical : Network → Option Network
if_physical n = if is_physical n.kind then Some n else None

pub default-found : (ns : List Network) (id : ℕ) → pairwise nets_differ ns ≡ true → default_among ns (Some id) ≡ option_and_then if_physical (find_id id ns)
default-found [] id all = refl
default-found (n ∷ ns) id all =
    let parts = and_parts (list_all (nets_differ n) ns) (pairwise nets_differ ns) all in
    elim (cases_Bool (id == n.id)) as (λ _. default_among (n ∷ ns) (Some id) ≡ option_and_then if_physical (find_id id (n ∷ ns))) [
      | inl here ↦ rw (here, physical-class n.kind) (by (is_physical n.kind) refl (no-other ns parts.0 (eqb-true id n.id here)))
      | inr other ↦ rw other (elim (cases_Bool (class_of n.kind == 1)) as (λ _. (if (class_of n.kind == 1) && false then Some n else default_among ns (Some id)) ≡ option_and_then if_physical (find_id id ns)) [
        | inl e ↦ rw e (default-found ns id parts.1)
        | inr e ↦ rw e (default-found ns id parts.1)
      ])
    ]
  where
    by : (b : Bool) → is_physical n.kind ≡ b → default_among ns (Some id) ≡ None → (if b && true then Some n else default_among ns (Some id)) ≡ (if b then Some n else None)
    by true is none = refl
    by false is none = none

    no-other : (ms : List Network) → list_all (nets_differ n) ms ≡ true → id ≡ n.id → default_among ms (Some id) ≡ None
    no-other [] h is = refl
    no-other (m ∷ ms) h is =
        let parts = and_parts (nets_differ n m) (list_all (nets_differ n) ms) h in
        let apart : differ n.id m.id ≡ true = (and_parts (differ n.id m.id) _ parts.0).0 in
        let other : (id == m.id) ≡ false = ap (λ i. i == m.id) is ∙ not-true (n.id == m.id) apart in
        rw other (elim (cases_Bool (class_of m.kind == 1)) as (λ _. (if (class_of m.kind == 1) && false then Some m else default_among ms (Some id)) ≡ None) [
          | inl e ↦ rw e (no-other ms parts.1 is)
          | inr e ↦ rw e (no-other ms parts.1 is)
        ])

pub default-none : (ns : List Network) → default_among ns None ≡ None
default-none [] = refl
default-none (n ∷ ns) = elim (cases_Bool (class_of n.kind == 1)) as (λ _. (if (class_of n.kind == 1) && false then Some n else default_among ns None) ≡ None) [
  | inl e ↦ rw e (default-none ns)
  | inr e ↦ rw e (default-none ns)
]
