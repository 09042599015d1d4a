-- What a command makes of its network, which is one that it may become.
use Rattle.std.proofs.Common.{◌≡◌, ◌∙◌, ◌≤◌, ◌<◌, ◌==◌, ◌&&◌, ◌+◌, ℕ, Bool, true, false, not, List, [], ◌∷◌, ◌++◌, length, map, filter, refl, sym, ap, subst, inl, inr, arith, nat_le}
use Rattle.std.specs.Prelude.{◌⊎◌}
use Rattle.std.specs.List.{list_all}
use Rattle.std.proofs.lemmas.Bool.{cases_Bool, false≢true, and_parts, and_from, or_left, le-leb, not_from_false, not-true, eqb-true, eq-eqb, false_from_ne_true}
use Rattle.std.proofs.lemmas.List.{length-append, length-map}
use Rattle.std.proofs.lemmas.List.Folds.{list_any-append, list_all-append}
use Rattle.list_lemmas.proofs.Alls.{all-weaker}
use Rattle.list_lemmas.proofs.Anys.{length-filter-le}
use Rattle.list_lemmas.proofs.Pairs.{list_all-filter, pairwise-append, pairwise-filter}
use Rattle.fwmark.specs.declared.permission.Permission.{Permission}
use Rattle.networks.specs.Kinds.{class_of, ranges_of, is_local}
use Rattle.networks.specs.Network.{has_link, routes_by}
use Rattle.prefixes.specs.declared.prefix.Prefix.{Prefix}
use Rattle.uid_ranges.proofs.RankedLists.{are_ranked-filter}
use Rattle.uid_ranges.specs.Range.{meets}
use Rattle.uid_ranges.specs.Ranges.{has, meets_any}
use Rattle.uid_ranges.specs.Ranks.{are_ranked, all_at, users_meet_at}
use Rattle.uid_ranges.specs.declared.range.UidRange.{UidRange}
use Rattle.commands.specs.declared.command.Way.{Way}
use Rattle.commands.specs.declared.command.Way.TheVariants as way
use Rattle.policy_state.specs.Good.{most_interfaces, most_ranges, most_routes, differ, is_by_link, is_index, is_local_network, ranks_differ, LeadsOut, IsNetwork, IsWellFormed}
use Rattle.policy_state.specs.Step.{any_meet_at, asking_for, is_in_any, is_special, kind_with, kind_without, route_of, table_routes_of, without_link}
use Rattle.policy_state.specs.View.{StateView, Kind, Local, Physical, Virtual, LinkRoute, Network, Ranked}
use Rattle.policy_state.proofs.AlikeRules.{all-has}
use Rattle.policy_state.proofs.GoodStates.{each-has}
use Rattle.policy_state.proofs.Members.{all-from, each-filter, in_filter, none-has, of_filter}
use Rattle.policy_state.proofs.NetworkChanges.{IsIdle, IsUnranked, MayBecome}
use Rattle.policy_state.proofs.NetworkParts.{has-link, in_none, same-test}
use Rattle.policy_state.proofs.Owners.{Has, link-has, OfMap, of_append, of_map}
use Rattle.policy_state.proofs.RouteLists.{keys-filter, length-routes_by, routes_by-few}

-- a network that stays as it is
pub stays : (s : StateView) → IsWellFormed s → (n : Network) → Has s.networks n → MayBecome s n n
stays s formed n there = record {
  id = refl;
  class = refl;
  good = each-has IsNetwork s.networks n formed.networks.each there;
  links = λ link h. inl h;
  ranges = λ r h. inl h;
  by_link = λ local. subst (λ m. list_all is_by_link m.routes ≡ true) (one local) formed.networks.local_first.by_link;
  few_routes = λ local. subst (λ m. length m.routes ≤ most_routes) (one local) formed.networks.local_first.few_routes;
}
  where
    one : is_local n.kind ≡ true → formed.networks.local_first.local ≡ n
    one local = by (subst (λ ns. Has ns n) formed.networks.local_first.first there)
      where
        by : Has (formed.networks.local_first.local ∷ formed.networks.local_first.others) n → formed.networks.local_first.local ≡ n
        by (inl e) = e
        by (inr h) =
            let created = and_parts (not (is_local_network n)) (nat_le 100 n.id) (all-has (λ m. not (is_local_network m) && nat_le 100 m.id) formed.networks.local_first.others n formed.networks.local_first.others_created h) in
            absurd (false≢true (sym (not-true (is_local_network n) created.0) ∙ local))

-- an interface comes
pub linked : (s : StateView) (n : Network) (link : ℕ) → IsWellFormed s → Has s.networks n → has_link n link ≡ false → 2 ≤ link → is_index s.links link ≡ true
    → is_in_any s link ≡ false → length n.interfaces < most_interfaces → MayBecome s n (record n { interfaces = n.interfaces ++ link ∷ [] })
linked s n link formed there absent above known idle room =
    let old : MayBecome s n n = stays s formed n there in
    let good : IsNetwork n = old.good in
    record {
      id = refl;
      class = refl;
      good = record {
        id_above = good.id_above;
        id_fits = good.id_fits;
        interfaces_differ = pairwise-append differ n.interfaces (link ∷ []) good.interfaces_differ refl
            (all-from (λ i. list_all (differ i) (link ∷ [])) n.interfaces (λ i in_i.
            and_from _ _ (not_from_false (i == link) (false_from_ne_true (i == link) (λ same. false≢true (sym absent ∙ has-link n link (subst (Has n.interfaces) (eqb-true i link same) in_i))))) refl));
        interfaces_above = list_all-append (nat_le 2) n.interfaces (link ∷ []) ∙ and_from _ _ good.interfaces_above (and_from _ _ (le-leb 2 link above) refl);
        few_interfaces = omega (arith, length-append n.interfaces (link ∷ []));
        ranked = good.ranked;
        few_ranges = good.few_ranges;
        routes_belong = all-weaker _ _ (λ r h. (list_any-append (λ other. other == r.link) n.interfaces (link ∷ []) ∙ or_left _ _ h.0, h.1)) n.routes good.routes_belong;
        keys_distinct = good.keys_distinct;
        few_routes = good.few_routes;
      };
      links = λ i h. came i (of_append n.interfaces (link ∷ []) i h);
      ranges = λ r h. inl h;
      by_link = old.by_link;
      few_routes = old.few_routes;
    }
  where
    came : (i : ℕ) → Has n.interfaces i ⊎ Has (link ∷ []) i → Has n.interfaces i ⊎ IsIdle s i
    came i (inl old) = inl old
    came i (inr (inl is)) = inr (subst (IsIdle s) is (record { known = known; in_none = λ o in_o. in_none s link o idle in_o }))
    came i (inr (inr none)) = absurd none

-- an interface goes, and its routes with it

pub link-left : (n : Network) (gone link : ℕ) → (link == gone) ≡ false → has_link n link ≡ true → has_link (without_link gone n) link ≡ true
link-left n gone link other h = has-link (without_link gone n) link (in_filter (λ i. not (i == gone)) n.interfaces link (link-has n link h) (not_from_false (link == gone) other))

network-without_link : (n : Network) (gone : ℕ) → IsNetwork n → IsNetwork (without_link gone n)
network-without_link n gone good =
    let stays : ℕ → Bool = λ i. not (i == gone) in
    let left : LinkRoute → Bool = λ r. not (r.link == gone) in
    record {
      id_above = good.id_above;
      id_fits = good.id_fits;
      interfaces_differ = pairwise-filter differ stays n.interfaces good.interfaces_differ;
      interfaces_above = list_all-filter (nat_le 2) stays n.interfaces good.interfaces_above;
      few_interfaces = omega (arith, good.few_interfaces, length-filter-le stays n.interfaces);
      ranked = good.ranked;
      few_ranges = good.few_ranges;
      routes_belong = each-filter (λ r. (has_link n r.link ≡ true) × LeadsOut r) (λ r. (has_link (without_link gone n) r.link ≡ true) × LeadsOut r) left n.routes good.routes_belong
          (λ r other h. (link-left n gone r.link (not-true (r.link == gone) other) h.0, h.1));
      keys_distinct = λ l. keys-filter left l n.routes (good.keys_distinct l);
      few_routes = λ l. omega (arith, length-routes_by left l n.routes, good.few_routes l);
    }

pub unlinked : (s : StateView) (n : Network) (gone : ℕ) → IsWellFormed s → Has s.networks n → MayBecome s n (without_link gone n)
unlinked s n gone formed there =
    let old : MayBecome s n n = stays s formed n there in
    let left : LinkRoute → Bool = λ r. not (r.link == gone) in
    record {
      id = refl;
      class = refl;
      good = network-without_link n gone old.good;
      links = λ link h. inl (of_filter (λ i. not (i == gone)) n.interfaces link h).0;
      ranges = λ r h. inl h;
      by_link = λ local. list_all-filter is_by_link left n.routes (old.by_link local);
      few_routes = λ local. omega (arith, length-filter-le left n.routes, old.few_routes local);
    }

-- other routes of a network
pub rerouted : (s : StateView) (n : Network) (routes : List LinkRoute) → IsWellFormed s → Has s.networks n → IsNetwork (record n { routes = routes })
    → (is_local n.kind ≡ true → list_all is_by_link routes ≡ true) → (is_local n.kind ≡ true → length routes ≤ most_routes) → MayBecome s n (record n { routes = routes })
rerouted s n routes formed there good by_link few = record {
  id = refl;
  class = refl;
  good = good;
  links = λ link h. inl h;
  ranges = λ r h. inl h;
  by_link = by_link;
  few_routes = few;
}

pub few_by : (n : Network) (link : ℕ) (b : Bool) → is_local n.kind ≡ b → length (table_routes_of n link) < most_routes → length (routes_by link n.routes) < most_routes
few_by n link true local room =
    let all : length (map (λ (r : LinkRoute). r.route) n.routes) < most_routes = rw local at room in
    omega (arith, routes_by-few link n.routes, length-map n.routes (λ (r : LinkRoute). r.route))
few_by n link false other room = rw other at room

pub all_routes : (n : Network) (link : ℕ) → is_local n.kind ≡ true → length (table_routes_of n link) < most_routes → length (map (λ (r : LinkRoute). r.route) n.routes) < most_routes
all_routes n link local room = rw local at room

pub plain : (b : Bool) → (b && true) ≡ false → b ≡ false
plain true h = absurd (false≢true (sym h))
plain false h = refl

pub own_link : (link : ℕ) (prefix : Prefix) (w : Way) → is_special w ≡ false → is_by_link (record { link = link; route = route_of link prefix w }) ≡ true
own_link link prefix way.Direct h = eq-eqb link link refl
own_link link prefix (way.Via gateway) h = eq-eqb link link refl
own_link link prefix way.Unreachable h = absurd (false≢true (sym h))
own_link link prefix way.Throw h = absurd (false≢true (sym h))

-- another kind of the same class

pub rekinded : (s : StateView) (n : Network) (kind : Kind) → IsWellFormed s → Has s.networks n → class_of kind ≡ class_of n.kind → are_ranked (ranges_of kind) ≡ true
    → length (ranges_of kind) ≤ most_ranges → ((r : Ranked) → Has (ranges_of kind) r → Has (ranges_of n.kind) r ⊎ IsUnranked s (class_of n.kind) r) → MayBecome s n (record n { kind = kind })
rekinded s n kind formed there class ranked few ranges =
    let old : MayBecome s n n = stays s formed n there in
    let good : IsNetwork n = old.good in
    record {
      id = refl;
      class = class;
      good = record {
        id_above = good.id_above;
        id_fits = good.id_fits;
        interfaces_differ = good.interfaces_differ;
        interfaces_above = good.interfaces_above;
        few_interfaces = good.few_interfaces;
        ranked = ranked;
        few_ranges = few;
        routes_belong = good.routes_belong;
        keys_distinct = good.keys_distinct;
        few_routes = good.few_routes;
      };
      links = λ link h. inl h;
      ranges = ranges;
      by_link = old.by_link;
      few_routes = old.few_routes;
    }

-- another permission
pub permitted : (s : StateView) (n : Network) (permission : Permission) → IsWellFormed s → Has s.networks n → MayBecome s n (record n { kind = asking_for permission n.kind })
permitted s n permission formed there =
    let good : IsNetwork n = each-has IsNetwork s.networks n formed.networks.each there in
    let same : ranges_of (asking_for permission n.kind) ≡ ranges_of n.kind = same-ranges n.kind in
    rekinded s n (asking_for permission n.kind) formed there (same-class n.kind) (ap are_ranked same ∙ good.ranked)
    (subst (λ (rs : List Ranked). length rs ≤ most_ranges) (sym same) good.few_ranges) (λ r h. inl (subst (λ (rs : List Ranked). Has rs r) same h))
  where
    same-ranges : (k : Kind) → ranges_of (asking_for permission k) ≡ ranges_of k
    same-ranges Local = refl
    same-ranges (Physical old apps) = refl
    same-ranges (Virtual secure users) = refl

    same-class : (k : Kind) → class_of (asking_for permission k) ≡ class_of k
    same-class Local = refl
    same-class (Physical old apps) = refl
    same-class (Virtual secure users) = refl

-- ranges go
pub ranges-left : (s : StateView) (n : Network) (gone : List UidRange) → IsWellFormed s → Has s.networks n → MayBecome s n (record n { kind = kind_without gone n.kind })
ranges-left s n gone formed there =
    let good : IsNetwork n = each-has IsNetwork s.networks n formed.networks.each there in
    let stay : Ranked → Bool = λ r. not (has gone r.users) in
    let is : ranges_of (kind_without gone n.kind) ≡ filter stay (ranges_of n.kind) = same-ranges n.kind in
    rekinded s n (kind_without gone n.kind) formed there (same-class n.kind) (ap are_ranked is ∙ are_ranked-filter stay (ranges_of n.kind) good.ranked)
    (omega (arith, good.few_ranges, ap length is, length-filter-le stay (ranges_of n.kind))) (λ r h. inl (of_filter stay (ranges_of n.kind) r (subst (λ (rs : List Ranked). Has rs r) is h)).0)
  where
    same-ranges : (k : Kind) → ranges_of (kind_without gone k) ≡ filter (λ (r : Ranked). not (has gone r.users)) (ranges_of k)
    same-ranges Local = refl
    same-ranges (Physical permission apps) = refl
    same-ranges (Virtual secure users) = refl

    same-class : (k : Kind) → class_of (kind_without gone k) ≡ class_of k
    same-class Local = refl
    same-class (Physical permission apps) = refl
    same-class (Virtual secure users) = refl

-- ranges come, which no range of the network meets, and none of this rank of a network of its class

pub kind_with-class : (rank : ℕ) (more : List UidRange) (k : Kind) → class_of (kind_with rank more k) ≡ class_of k
kind_with-class rank more Local = refl
kind_with-class rank more (Physical permission apps) = refl
kind_with-class rank more (Virtual secure users) = refl

pub kind_with-ranges : (rank : ℕ) (more : List UidRange) (k : Kind) → is_local k ≡ false → ranges_of (kind_with rank more k) ≡ ranges_of k ++ all_at rank more
kind_with-ranges rank more Local h = absurd (false≢true (sym h))
kind_with-ranges rank more (Physical permission apps) h = refl
kind_with-ranges rank more (Virtual secure users) h = refl

-- a range that meets none of these has another rank than they, or shares no user with them
ranks-apart : (rank : ℕ) (more : List UidRange) (q : Ranked) (users : UidRange) → ((q.rank == rank) && meets_any q.users more) ≡ false → Has more users
    → ranks_differ q (record { users = users; rank = rank }) ≡ true
ranks-apart rank more q users none there = elim (cases_Bool (q.rank == rank)) as (λ _. ranks_differ q (record { users = users; rank = rank }) ≡ true) [
  | inl same ↦
      let apart : meets_any q.users more ≡ false = rw same at none in
      rw same (not_from_false (meets q.users users) (none-has (meets q.users) more users apart there))
  | inr other ↦ rw other refl
]

module _ (test : Kind → Bool) (class : ℕ) (is : (k : Kind) → (class_of k == class) ≡ test k) (s : StateView) (n : Network) (tested : test n.kind ≡ true) where
  unranked : (rank : ℕ) (more : List UidRange) → any_meet_at test s rank more ≡ false → (r : Ranked) → Has (all_at rank more) r → IsUnranked s (class_of n.kind) r
  unranked rank more none r in_r o in_o same q in_q =
      let made : OfMap (λ users. record { users = users; rank = rank }) more r = of_map (λ users. record { users = users; rank = rank }) more r in_r in
      let passes : test o.kind ≡ true = same-test test class is o.kind n.kind same ∙ tested in
      let here : (test o.kind && users_meet_at rank (ranges_of o.kind) more) ≡ false = none-has (λ m. test m.kind && users_meet_at rank (ranges_of m.kind) more) s.networks o none in_o in
      let apart : users_meet_at rank (ranges_of o.kind) more ≡ false = rw passes at here in
      subst (λ x. ranks_differ q x ≡ true) (sym made.is)
      (ranks-apart rank more q made.one (none-has (λ x. (x.rank == rank) && meets_any x.users more) (ranges_of o.kind) q apart in_q) made.there)

  pub ranges-more : (rank : ℕ) (more : List UidRange) → IsWellFormed s → Has s.networks n → is_local n.kind ≡ false → are_ranked (ranges_of n.kind ++ all_at rank more) ≡ true
      → length (ranges_of n.kind) + length more ≤ most_ranges → any_meet_at test s rank more ≡ false → MayBecome s n (record n { kind = kind_with rank more n.kind })
  ranges-more rank more formed there other ranked room none =
      let all : ranges_of (kind_with rank more n.kind) ≡ ranges_of n.kind ++ all_at rank more = kind_with-ranges rank more n.kind other in
      rekinded s n (kind_with rank more n.kind) formed there (kind_with-class rank more n.kind) (ap are_ranked all ∙ ranked)
      (omega (arith, ap length all, length-append (ranges_of n.kind) (all_at rank more), length-map more (λ users. let r : Ranked = record { users = users; rank = rank } in r), room))
      (λ r h. elim (of_append (ranges_of n.kind) (all_at rank more) r (subst (λ (rs : List Ranked). Has rs r) all h)) [
        | inl old ↦ inl old
        | inr new ↦ inr (unranked rank more none r new)
      ])
