-- What the looks at networks find.
use Rattle.std.proofs.Common.{◌≡◌, ◌∙◌, ◌+◌, ◌==◌, ℕ, suc, Bool, true, false, List, Option, [], ◌∷◌, ◌++◌, Some, None, length, map, refl, sym, ap, ap₂, subst, inl, inr, arith}
use Rattle.std.specs.Prelude.{sum_by, if◌then◌else◌}
use Rattle.std.specs.List.{list_any, list_all, AllByRecursion}
use Rattle.std.specs.Option.{option_map}
use Rattle.std.proofs.lemmas.Bool.{cases_Bool, false≢true, and_parts, not-true, eqb-true, eq-eqb}
use Rattle.std.proofs.lemmas.List.Sums.{sum_by-cons}
use Rattle.std.proofs.lemmas.Option.{none-some}
use Rattle.list_lemmas.specs.Pairwise.{pairwise}
use Rattle.list_lemmas.proofs.Numbers.{unlike-sym}
use Rattle.networks.specs.Lists.{find_id, find_link}
use Rattle.networks.specs.Network.{has_link, routes_by}
use Rattle.networks.specs.declared.network.LinkRoute.{LinkRoute}
use Rattle.policy_state.specs.Good.{IsNetwork, IsWellFormed, LeadsOut, differ}
use Rattle.policy_state.specs.Step.{Reason, first_that_holds, is_in, with_net, with_link}
use Rattle.policy_state.specs.Routed.{NamesRoutes, is_routed}
use Rattle.policy_state.specs.View.{Network, StateView, link_named}
use Rattle.policy_state.specs.declared.change.Change.{Change}
use Rattle.policy_state.specs.declared.change.Change.TheVariants as change
use Rattle.commands.specs.declared.command.Command.TheVariants as command
use Rattle.policy_state.proofs.GoodStates.{same-ids}
use Rattle.policy_state.proofs.GoodFacts.{found-by_link}
use Rattle.policy_state.proofs.NetworkParts.{id-found}
use Rattle.policy_state.proofs.Owners.{Has, find-has}

-- where none of some reasons holds and one after them does, it is the first
pub first-last : (rs : List Reason) (r : Reason) → first_that_holds rs ≡ None → r.holds ≡ true → first_that_holds (rs ++ r ∷ []) ≡ Some r.code
first-last [] r none here = rw here refl
first-last (q ∷ rs) r none here = elim (cases_Bool q.holds) as (λ _. first_that_holds ((q ∷ rs) ++ r ∷ []) ≡ Some r.code) [
  | inl e ↦ absurd (none-some q.code (sym (rw e at none)))
  | inr e ↦ rw e (first-last rs r (rw e at none) here)
]

-- the network that has the link is found by it
pub owner-at : (s : StateView) → IsWellFormed s → (net : ℕ) (n : Network) (link : ℕ) → find_id net s.networks ≡ Some n → has_link n link ≡ true → option_map (λ (m : Network). m.id) (find_link link s.networks) ≡ Some net
owner-at s formed net n link found has =
    ap (option_map (λ (m : Network). m.id)) (found-by_link s formed n link (find-has (λ (m : Network). net == m.id) s.networks n found) has)
    ∙ ap Some (sym (id-found net s.networks n found))

-- a network that has the link already stays
pub link-there : (s : StateView) → IsWellFormed s → (net : ℕ) (n : Network) (link : ℕ) → find_id net s.networks ≡ Some n → has_link n link ≡ true → with_net net (with_link link) s ≡ s
link-there s formed net n link found has = ap (λ ns. record s { networks = ns }) (by s.networks (λ m there. there))
  where
    here : Has s.networks n
    here = find-has (λ (m : Network). net == m.id) s.networks n found

    stays : (m : Network) → Has s.networks m → (net == m.id) ≡ true → with_link link m ≡ m
    stays m there e =
        let same : n ≡ m = same-ids s formed n m here there (sym (id-found net s.networks n found) ∙ eqb-true net m.id e) in
        let linked : has_link m link ≡ true = subst (λ k. has_link k link ≡ true) same has in
        rw linked refl

    by : (ms : List Network) → ((m : Network) → Has ms m → Has s.networks m) → map (λ m. if net == m.id then with_link link m else m) ms ≡ ms
    by [] among = refl
    by (m ∷ ms) among =
        let rest = by ms (λ k there. among k (inr there)) in
        elim (cases_Bool (net == m.id)) as (λ _. map (λ k. if net == k.id then with_link link k else k) (m ∷ ms) ≡ m ∷ ms) [
          | inl e ↦ rw e (ap₂ (λ (k : Network) (ks : List Network). k ∷ ks) (stays m (among m (inl refl)) e) rest)
          | inr e ↦ rw e (ap (λ ks. m ∷ ks) rest)
        ]

-- the routes of all interfaces of a network are its routes

sum-add : (f g : ℕ → ℕ) (is : List ℕ) → sum_by (λ i. f i + g i) is ≡ sum_by f is + sum_by g is
sum-add f g [] = refl
sum-add f g (i ∷ is) = omega (arith, sum_by-cons (λ j. f j + g j) i is, sum_by-cons f i is, sum_by-cons g i is, sum-add f g is)

sum-same : (f g : ℕ → ℕ) (is : List ℕ) → ((i : ℕ) → f i ≡ g i) → sum_by f is ≡ sum_by g is
sum-same f g [] same = refl
sum-same f g (i ∷ is) same = omega (arith, sum_by-cons f i is, sum_by-cons g i is, same i, sum-same f g is same)

abbrev counts_at : ℕ → ℕ → ℕ
counts_at link i = if link == i then 1 else 0

absent-none : (link : ℕ) (is : List ℕ) → list_all (differ link) is ≡ true → sum_by (counts_at link) is ≡ 0
absent-none link [] all = refl
absent-none link (i ∷ is) all =
    let parts = and_parts (differ link i) (list_all (differ link) is) all in
    let zero : counts_at link i ≡ 0 = rw (not-true (link == i) parts.0) refl in
    omega (arith, sum_by-cons (counts_at link) i is, zero, absent-none link is parts.1)

once-one : (link : ℕ) (is : List ℕ) → pairwise differ is ≡ true → list_any (λ i. i == link) is ≡ true → sum_by (counts_at link) is ≡ 1
once-one link [] apart there = absurd (false≢true there)
once-one link (i ∷ is) apart there =
    let parts = and_parts (list_all (differ i) is) (pairwise differ is) apart in
    elim (cases_Bool (i == link)) [
      | inl e ↦
          let same : i ≡ link = eqb-true i link e in
          let one : counts_at link i ≡ 1 = rw (eq-eqb link i (sym same)) refl in
          omega (arith, sum_by-cons (counts_at link) i is, one, absent-none link is (subst (λ j. list_all (differ j) is ≡ true) same parts.0))
      | inr e ↦
          let zero : counts_at link i ≡ 0 = rw (unlike-sym i link e) refl in
          omega (arith, sum_by-cons (counts_at link) i is, zero, once-one link is parts.1 (rw e at there))
    ]

routes-cons : (r : LinkRoute) (rs : List LinkRoute) (i : ℕ) → length (routes_by i (r ∷ rs)) ≡ counts_at r.link i + length (routes_by i rs)
routes-cons r rs i = elim (cases_Bool (r.link == i)) as (λ _. length (routes_by i (r ∷ rs)) ≡ counts_at r.link i + length (routes_by i rs)) [
  | inl e ↦ rw e (suc-one (length (routes_by i rs)))
  | inr e ↦ rw e (zero-more (length (routes_by i rs)))
]
  where
    suc-one : (n : ℕ) → suc n ≡ 1 + n
    suc-one n = omega arith

    zero-more : (n : ℕ) → n ≡ 0 + n
    zero-more n = omega arith

pub routes-in_all : (n : Network) → IsNetwork n → sum_by (λ i. length (routes_by i n.routes)) n.interfaces ≡ length n.routes
routes-in_all n good = by n.routes good.routes_belong
  where
    by : (rs : List LinkRoute) → AllByRecursion (λ r. (has_link n r.link ≡ true) × LeadsOut r) rs → sum_by (λ i. length (routes_by i rs)) n.interfaces ≡ length rs
    by [] all = none n.interfaces
      where
        none : (is : List ℕ) → sum_by (λ i. length (routes_by i [])) is ≡ 0
        none [] = refl
        none (i ∷ is) = omega (arith, sum_by-cons (λ j. length (routes_by j [])) i is, none is)
    by (r ∷ rs) all =
        omega (
          arith,
          sum-same (λ i. length (routes_by i (r ∷ rs))) (λ i. counts_at r.link i + length (routes_by i rs)) n.interfaces (routes-cons r rs),
          sum-add (counts_at r.link) (λ i. length (routes_by i rs)) n.interfaces,
          once-one r.link n.interfaces good.interfaces_differ all.0.0,
          by rs all.1,
        )

inside-at : (s : StateView) (net : ℕ) (n : Network) → find_id net s.networks ≡ Some n → (link : ℕ) → is_in s net link ≡ has_link n link
inside-at s net n found link = ap (λ (o : Option Network). elim o as (λ _. Bool) [ Some m ↦ has_link m link | None ↦ false ]) found

-- an interface that goes is the one that the command names
pub names-interface : (s : StateView) (net : ℕ) (name : List ℕ) (n : Network) (link : ℕ) → link_named s name ≡ Some link → find_id net s.networks ≡ Some n → has_link n link ≡ true
    → NamesRoutes (change.InterfaceGoes net link) s (command.InterfaceRemove net name)
names-interface s net name n link named found has =
    let gone : Change = change.InterfaceGoes net link in
    subst (λ (o : Option ℕ). elim o as (λ _. Type 0) [
      | Some i ↦ elim (is_in s net i) as (λ _. Type 0) [ true ↦ gone ≡ change.InterfaceGoes net i | false ↦ is_routed gone ≡ false ]
      | None ↦ is_routed gone ≡ false
    ]) (sym named)
    (subst (λ (b : Bool). elim b as (λ _. Type 0) [ true ↦ gone ≡ change.InterfaceGoes net link | false ↦ is_routed gone ≡ false ])
    (sym (inside-at s net n found link ∙ has)) refl)
