-- Any change: the part that it touches is what goes of a state and what comes, and all else stays.
use Rattle.std.proofs.Common.{◌≡◌, ◌∙◌, ◌==◌, ℕ, Bool, true, false, not, Option, Some, None, List, [], ◌∷◌, ◌++◌, refl, sym, ap, subst, inl, inr, map, filter}
use Rattle.std.specs.Prelude.{◌&&◌, flat_map, if◌then◌else◌}
use Rattle.std.specs.Option.{option_map}
use Rattle.std.proofs.lemmas.Bool.{cases_Bool, false≢true, false_from_ne_true, and_parts, eqb-true, eq-eqb}
use Rattle.std.proofs.lemmas.Option.{none-some, same_Some}
use Rattle.fwmark.specs.declared.permission.Permission.{Permission}
use Rattle.networks.specs.Kinds as kinds
use Rattle.networks.specs.declared.kind.Kind.TheVariants as kind
use Rattle.networks.specs.Lists.{find_id, find_link}
use Rattle.networks.specs.Network.{has_link}
use Rattle.networks.specs.declared.network.LinkRoute.{LinkRoute}
use Rattle.networks.specs.declared.network.Network.{Network}
use Rattle.policy_state.specs.Change.{turned, Fits}
use Rattle.policy_state.specs.Good.{IsWellFormed, is_default_there}
use Rattle.policy_state.specs.Rows.{items}
use Rattle.policy_state.specs.declared.row.OnePer.{OnePer}
use Rattle.policy_state.specs.declared.row.NetworkPart.TheVariants.{EachDefault}
use Rattle.policy_state.specs.declared.row.NetworkSet.TheVariants.{OfVirtual}
use Rattle.policy_state.specs.declared.row.OnePer.TheVariants.{Once, EachLockdown, EachPair, EachOf}
use Rattle.policy_state.specs.Step.{with_net, with_link, without_link, with_permission, with_ranges, without_ranges, with_route, without_route, without_net, without_interface, is_in, is_pair, is_protectable}
use Rattle.policy_state.specs.declared.tether.TetherPair.{TetherPair}
use Rattle.policy_state.specs.View.{StateView}
use Rattle.policy_state.specs.declared.change.Change.{Change}
use Rattle.policy_state.specs.declared.change.Change.TheVariants as change
use Rattle.policy_state.proofs.Members.{find-none, find-passes}
use Rattle.policy_state.proofs.Owners.{Has, Passing, of_any, find-has, link-has}
use Rattle.uid_ranges.specs.Ranges.{has}
use Rattle.uid_ranges.specs.Ranks.{all_at}
use Rattle.uid_ranges.specs.declared.range.UidRange.{UidRange}
use Rattle.rule_compile.specs.Touched.{Part, no_part, part_items, is_home, asks_other, asking_part, gone_part, default_part, same_default, link_part, ranges_part, go_part, come_part}
use Rattle.rule_compile.proofs.Cutting.{all-stay, cut-filter}
use Rattle.rule_compile.proofs.TouchedTables.{IsCut}
use Rattle.rule_compile.proofs.TouchedNetworks.{found-one, change_at, cut-behind, split_at}
use Rattle.rule_compile.proofs.TouchedItems.{own, own-same, with_links}
use Rattle.rule_compile.proofs.TouchedKinds.{net-cut, split-stays, split-turns, split-old, nothing-of, cut-none, same-cut, same-items, link-comes, link-goes}
use Rattle.rule_compile.proofs.TouchedUsers.{ranges-come, ranges-go, permission-turns, permission-stays}
use Rattle.rule_compile.proofs.TouchedStates.{network-comes, network-goes, default-turns, default-same, lists-cut}

-- what no row has rules for may be anything: the links, the users' permissions and who may protect sockets
unseen-cut : (s t : StateView) → t ≡ record s { links = t.links; permissions = t.permissions; protectable = t.protectable } → IsCut s t no_part no_part
unseen-cut s t is = same-items s t (λ per. ap (items per) is ∙ at per)
  where
    at : (per : OnePer) → items per (record s { links = t.links; permissions = t.permissions; protectable = t.protectable }) ≡ items per s
    at Once = refl
    at EachLockdown = refl
    at EachPair = refl
    at (EachOf pick spread) = refl

-- the part of a network, or none
abbrev if_there : (Network → Part) → Option Network → Part
if_there part o = elim o [ Some n ↦ part n | None ↦ no_part ]

abbrev nowhere : Option Network → Part
nowhere o = no_part

-- a change of one network, by whether there is one of this id
of-net-cut : (s t : StateView) (net : ℕ) (gone come : Option Network → Part) → ((n : Network) → find_id net s.networks ≡ Some n → IsCut s t (gone (Some n)) (come (Some n)))
    → (find_id net s.networks ≡ None → IsCut s t (gone None) (come None)) → IsCut s t (gone (find_id net s.networks)) (come (find_id net s.networks))
of-net-cut s t net gone come there unknown = by (find_id net s.networks) refl
  where
    by : (o : Option Network) → find_id net s.networks ≡ o → IsCut s t (gone o) (come o)
    by (Some n) at = there n at
    by None none = unknown none

-- Changes of networks that aren't there.

unknown-stays : (net : ℕ) (change : Network → Network) (ns : List Network) → find_id net ns ≡ None → map (change_at net change) ns ≡ ns
unknown-stays net change [] none = refl
unknown-stays net change (m ∷ ms) none = elim (cases_Bool (net == m.id)) as (λ _. map (change_at net change) (m ∷ ms) ≡ m ∷ ms) [
  | inl here ↦ absurd (none-some m (sym (rw here at none)))
  | inr other ↦ rw other (ap (λ ks. m ∷ ks) (unknown-stays net change ms (rw other at none)))
]

unknown-left : (net : ℕ) (ns : List Network) → find_id net ns ≡ None → filter (λ m. not (net == m.id)) ns ≡ ns
unknown-left net [] none = refl
unknown-left net (m ∷ ms) none = elim (cases_Bool (net == m.id)) as (λ _. filter (λ m. not (net == m.id)) (m ∷ ms) ≡ m ∷ ms) [
  | inl here ↦ absurd (none-some m (sym (rw here at none)))
  | inr other ↦ rw other (ap (λ ks. m ∷ ks) (unknown-left net ms (rw other at none)))
]

all-pairs : (pairs : List TetherPair) → filter (λ p. not false) pairs ≡ pairs
all-pairs [] = refl
all-pairs (p ∷ ps) = ap (λ qs. p ∷ qs) (all-pairs ps)

module _ (s : StateView) (formed : IsWellFormed s) where
  unknown-cut : (net : ℕ) (change : Network → Network) → find_id net s.networks ≡ None → IsCut s (with_net net change s) no_part no_part
  unknown-cut net change none = same-cut s (with_net net change s) (ap (λ ns. record s { networks = ns }) (unknown-stays net change s.networks none))

  unknown-goes : (net : ℕ) → find_id net s.networks ≡ None → without_net net s ≡ s
  unknown-goes net none = λ i. record s { networks = unknown-left net s.networks none i; pairs = pairs i; default = default s.default formed.default i }
    where
      pairs : filter (λ p. not (is_in s net p.out)) s.pairs ≡ s.pairs
      pairs = ap (λ (o : Option Network). filter (λ p. not (elim o [ Some m ↦ has_link m p.out | None ↦ false ])) s.pairs) none ∙ all-pairs s.pairs

      default : (d : Option ℕ) → is_default_there s.networks d ≡ true → (elim d [ Some id ↦ if id == net then None else Some id | None ↦ None ]) ≡ d
      default None there = refl
      default (Some id) there =
          let it : Passing (λ n. (n.id == id) && kinds.is_physical n.kind) s.networks = of_any (λ n. (n.id == id) && kinds.is_physical n.kind) s.networks there in
          let is : it.one.id ≡ id = eqb-true it.one.id id (and_parts (it.one.id == id) (kinds.is_physical it.one.kind) it.passes).0 in
          let other : (id == net) ≡ false = false_from_ne_true (id == net) (λ same.
          false≢true (sym (find-none (λ (n : Network). net == n.id) s.networks it.one none it.there) ∙ eq-eqb net it.one.id (sym (eqb-true id net same) ∙ sym is))) in
          rw other refl

  -- a network's routes alone
  routes-cut : (net : ℕ) (change : Network → Network) (routes : Network → List LinkRoute) → ((m : Network) → change m ≡ with_links m m.interfaces (routes m)) → IsCut s (with_net net change s) no_part no_part
  routes-cut net change routes is = by (find_id net s.networks) refl
    where
      by : (o : Option Network) → find_id net s.networks ≡ o → IsCut s (with_net net change s) no_part no_part
      by None none = unknown-cut net change none
      by (Some n) at = net-cut s formed net n at change no_part no_part s.pairs (record {
        stay = λ pick spread. own pick spread s.default n;
        of_old = λ pick spread plain. cut-none (own pick spread s.default n) (part_items (EachOf pick spread) no_part) (own pick spread s.default n) (nothing-of s formed net n at change pick spread plain) refl;
        of_new = λ pick spread plain. cut-none (own pick spread s.default n) (part_items (EachOf pick spread) no_part) (own pick spread s.default (change n)) (nothing-of s formed net n at change pick spread plain)
            (sym (ap (own pick spread s.default) (is n) ∙ own-same pick spread plain s.default n (routes n)));
        split = items (EachOf OfVirtual EachDefault) s;
        split_old = all-stay (items (EachOf OfVirtual EachDefault) s);
        split_new = cut-none (items (EachOf OfVirtual EachDefault) s) [] (items (EachOf OfVirtual EachDefault) (with_net net change s)) refl (sym (split (is_home s n) refl));
        pairs_stay = s.pairs;
        pairs_old = all-stay s.pairs;
        pairs_new = all-stay s.pairs;
        no_lockdown = (refl, refl);
      })
        where
          id : (change n).id ≡ n.id
          id = ap (λ (m : Network). m.id) (is n)

          class : kinds.class_of (change n).kind ≡ kinds.class_of n.kind
          class = ap (λ (m : Network). kinds.class_of m.kind) (is n)

          split : (b : Bool) → is_home s n ≡ b → items (EachOf OfVirtual EachDefault) (with_net net change s) ≡ items (EachOf OfVirtual EachDefault) s
          split false other = split-stays s formed net n at change id class other s.pairs
          split true home =
              split-turns s formed net n at change id class home s.pairs
              ∙ (ap (λ (m : Network). flat_map (split_at (Some m)) s.networks) (is n) ∙ sym (split-old s formed net n at change id class home))

  -- the network of which the link is an interface has it
  owner-has : (net link : ℕ) (n : Network) → find_id net s.networks ≡ Some n → option_map (λ (m : Network). m.id) (find_link link s.networks) ≡ Some net → has_link n link ≡ true
  owner-has net link n at owner = by (find_link link s.networks) refl owner
    where
      by : (o : Option Network) → find_link link s.networks ≡ o → option_map (λ (m : Network). m.id) o ≡ Some net → has_link n link ≡ true
      by None none owner = absurd (none-some net owner)
      by (Some m) found owner =
          let there : Has s.networks m = find-has (λ (k : Network). has_link k link) s.networks m found in
          let is : m ≡ n = (found-one s formed net n at).alone m there (eq-eqb net m.id (sym (same_Some m.id net owner))) in
          subst (λ (k : Network). has_link k link ≡ true) is (find-passes (λ (k : Network). has_link k link) s.networks m found)

pub touched-cut : (c : Change) (s : StateView) → IsWellFormed s → Fits c s → IsCut s (turned c s) (go_part s c) (come_part s c)
touched-cut change.Nothing s formed fits = same-cut s s refl
touched-cut (change.LinkComes link) s formed fits = unseen-cut s (turned (change.LinkComes link) s) refl
touched-cut (change.LinkGoes name) s formed fits = unseen-cut s (turned (change.LinkGoes name) s) refl
touched-cut (change.PhysicalComes net permission) s formed fits = network-comes s formed net (kind.Physical permission []) fits
touched-cut (change.VirtualComes net secure) s formed fits = network-comes s formed net (kind.Virtual secure []) fits
touched-cut (change.NetworkGoes net) s formed fits = of-net-cut s (without_net net s) net (if_there (gone_part s)) nowhere (network-goes s formed net)
    (λ none. same-cut s (without_net net s) (unknown-goes s formed net none))
touched-cut (change.InterfaceComes net link) s formed fits = of-net-cut s (with_net net (with_link link) s) net nowhere (if_there (λ n. link_part s n link))
    (λ n at. link-comes s formed net link n at (find-none (λ (m : Network). has_link m link) s.networks n fits.free (found-one s formed net n at).there)) (unknown-cut s formed net (with_link link))
touched-cut (change.InterfaceGoes net link) s formed fits = of-net-cut s (without_interface net link s) net (if_there part) nowhere there unknown
  where
    part : Network → Part
    part n = record (link_part s n link) { pairs = filter (λ p. p.out == link) s.pairs }

    is : (b : Bool) → is_in s net link ≡ b → without_interface net link s ≡ (if b then record (with_net net (without_link link) s) { pairs = filter (λ p. not (p.out == link)) s.pairs } else s)
    is b in_net = ap (λ (b : Bool). if b then record (with_net net (without_link link) s) { pairs = filter (λ p. not (p.out == link)) s.pairs } else s) in_net

    there : (n : Network) → find_id net s.networks ≡ Some n → IsCut s (without_interface net link s) (part n) no_part
    there n at =
        let has : has_link n link ≡ true = owner-has s formed net link n at fits in
        subst (λ (t : StateView). IsCut s t (part n) no_part) (sym (is true (ap (λ o. elim o [ Some m ↦ has_link m link | None ↦ false ]) at ∙ has))) (link-goes s formed net link n at (link-has n link has))

    unknown : find_id net s.networks ≡ None → IsCut s (without_interface net link s) no_part no_part
    unknown none = same-cut s (without_interface net link s) (is false (ap (λ o. elim o [ Some m ↦ has_link m link | None ↦ false ]) none))
touched-cut (change.RouteComes net link route) s formed fits = routes-cut s formed net (with_route link route) (λ m. m.routes ++ record { link = link; route = route } ∷ []) (λ m. refl)
touched-cut (change.RouteGoes net link key) s formed fits = routes-cut s formed net (without_route link key) (λ m. (without_route link key m).routes) (λ m. refl)
touched-cut (change.RangesCome net rank ranges) s formed fits = of-net-cut s (with_net net (with_ranges rank ranges.now) s) net nowhere (if_there (λ n. ranges_part s n (all_at rank ranges.now)))
    (λ n at. ranges-come s formed net n at rank ranges.now) (unknown-cut s formed net (with_ranges rank ranges.now))
touched-cut (change.RangesGo net ranges) s formed fits = of-net-cut s (with_net net (without_ranges ranges.now) s) net (if_there (λ n. ranges_part s n (filter (λ r. has ranges.now r.users) (kinds.ranges_of n.kind)))) nowhere
    (λ n at. ranges-go s formed net n at ranges.now) (unknown-cut s formed net (without_ranges ranges.now))
touched-cut (change.DefaultBecomes default) s formed fits = by (same_default s.default default) refl
  where
    by : (b : Bool) → same_default s.default default ≡ b → IsCut s (record s { default = default }) (if b then no_part else default_part s s.default) (if b then no_part else default_part s default)
    by true same = default-same s formed default same
    by false other = default-turns s formed default
touched-cut (change.NetworkPermission net permission) s formed fits =
    of-net-cut s (with_net net (with_permission permission) s) net (if_there (λ n. part n (kinds.permission_of n.kind))) (if_there (λ n. part n permission))
    (λ n at. there n at (asks_other permission n) refl) (unknown-cut s formed net (with_permission permission))
  where
    part : Network → Permission → Part
    part n asked = if asks_other permission n then asking_part s n asked else no_part

    there : (n : Network) → find_id net s.networks ≡ Some n → (b : Bool) → asks_other permission n ≡ b
        → IsCut s (with_net net (with_permission permission) s) (if b then asking_part s n (kinds.permission_of n.kind) else no_part) (if b then asking_part s n permission else no_part)
    there n at true differs = permission-turns s formed net n at permission
    there n at false same = permission-stays s formed net n at permission same
touched-cut (change.UserPermission uid permission) s formed fits = unseen-cut s (turned (change.UserPermission uid permission) s) refl
touched-cut (change.UserForgotten uid) s formed fits = unseen-cut s (turned (change.UserForgotten uid) s) refl
touched-cut (change.ProtectAllowed uid) s formed fits = by (is_protectable s uid)
  where
    by : (b : Bool) → IsCut s (if b then s else record s { protectable = s.protectable ++ uid ∷ [] }) no_part no_part
    by true = same-cut s s refl
    by false = unseen-cut s (record s { protectable = s.protectable ++ uid ∷ [] }) refl
touched-cut (change.ProtectDenied uid) s formed fits = unseen-cut s (turned (change.ProtectDenied uid) s) refl
touched-cut (change.LockdownComes range) s formed fits =
    lists-cut s formed (s.lockdown ++ range ∷ []) s.lockdown [] (range ∷ []) s.pairs s.pairs [] [] (all-stay s.lockdown) (cut-behind s.lockdown (range ∷ [])) (all-stay s.pairs) (all-stay s.pairs)
touched-cut (change.LockdownGoes range) s formed fits =
    let stay : List UidRange = filter (λ r. not (has (range ∷ []) r)) s.lockdown in
    lists-cut s formed stay stay (filter (has (range ∷ [])) s.lockdown) [] s.pairs s.pairs [] [] (cut-filter (has (range ∷ [])) s.lockdown) (all-stay stay) (all-stay s.pairs) (all-stay s.pairs)
touched-cut (change.PairComes pair) s formed fits =
    lists-cut s formed s.lockdown s.lockdown [] [] (s.pairs ++ pair ∷ []) s.pairs [] (pair ∷ []) (all-stay s.lockdown) (all-stay s.lockdown) (all-stay s.pairs) (cut-behind s.pairs (pair ∷ []))
touched-cut (change.PairGoes pair) s formed fits =
    let stay : List TetherPair = filter (λ p. not (is_pair pair p)) s.pairs in
    lists-cut s formed s.lockdown s.lockdown [] [] stay stay (filter (is_pair pair) s.pairs) [] (all-stay s.lockdown) (all-stay s.lockdown) (cut-filter (is_pair pair) s.pairs) (all-stay stay)
