-- What an accepted command shows: none of the reasons against it holds.
use Rattle.std.proofs.Common.{◌≡◌, ℕ, Bool, true, false, List, [], ◌∷◌, ◌++◌, Option, Some, None, length, nat_le, refl, sym, ap, inl, inr, not, ◌∙◌}
use Rattle.std.specs.List.{AllByRecursion}
use Rattle.std.proofs.lemmas.Bool.{cases_Bool, both_ways, not-false}
use Rattle.std.proofs.lemmas.Option.{none-some}
use Rattle.list_lemmas.proofs.Options.{some_there}
use Rattle.networks.specs.Lists.{find_id}
use Rattle.networks.specs.Network.{has_link, routes_by}
use Rattle.networks.specs.declared.network.Network.{Network}
use Rattle.networks.specs.Kinds as kinds
use Rattle.prefixes.specs.declared.route.Route.{Route}
use Rattle.net_names.specs.declared.code.Code.{Code}
use Rattle.policy_state.specs.Good.{most_interfaces}
use Rattle.policy_state.specs.View.{StateView, link_named}
use Rattle.policy_state.specs.Step.{Reason, first_that_holds, of_link, of_links, of_net, changed_by_link, changed_by_links, is_in, is_full, is_local_net, routes_at, table_routes, table_routes_of, is_physical, is_net_unknown}

pub none_holds : (rs : List Reason) → first_that_holds rs ≡ None → AllByRecursion (λ r. r.holds ≡ false) rs
none_holds [] none = tt
none_holds (r ∷ rs) none = elim (cases_Bool r.holds) as (λ _. AllByRecursion (λ x. x.holds ≡ false) (r ∷ rs)) [
  | inl here ↦ absurd (none-some r.code (sym (rw here at none)))
  | inr other ↦ (other, none_holds rs (rw other at none))
]

-- where none of some reasons holds and a last one neither, each doesn't
pub first-parts : (rs : List Reason) (r : Reason) → first_that_holds (rs ++ r ∷ []) ≡ None → (first_that_holds rs ≡ None) × (r.holds ≡ false)
first-parts [] r none = (refl, (none_holds (r ∷ []) none).0)
first-parts (q ∷ rs) r none = elim (cases_Bool q.holds) as (λ _. (first_that_holds (q ∷ rs) ≡ None) × (r.holds ≡ false)) [
  | inl here ↦ absurd (none-some q.code (sym (rw here at none)))
  | inr other ↦ let rest = first-parts rs r (rw other at none) in (rw other rest.0, rest.1)
]

-- the first reason that holds is there before another list of them
pub first-some : (rs qs : List Reason) (code : Code) → first_that_holds rs ≡ Some code → first_that_holds (rs ++ qs) ≡ Some code
first-some [] qs code h = absurd (none-some code h)
first-some (r ∷ rs) qs code h = elim (cases_Bool r.holds) as (λ _. first_that_holds ((r ∷ rs) ++ qs) ≡ Some code) [
  | inl e ↦ rw e (rw e at h)
  | inr e ↦ rw e (first-some rs qs code (rw e at h))
]

-- the link of a name, of which a test holds
pub link_there : (s : StateView) (name : List ℕ) (test : ℕ → Bool) → of_link s name test ≡ true → (link : ℕ) × ((link_named s name ≡ Some link) × (test link ≡ true))
link_there s name test h = by (link_named s name) refl h
  where
    by : (o : Option ℕ) → link_named s name ≡ o → elim o as (λ _. Bool) [ Some link ↦ test link | None ↦ false ] ≡ true → (link : ℕ) × ((link_named s name ≡ Some link) × (test link ≡ true))
    by None is h = absurd (both_ways true (sym h) refl)
    by (Some link) is h = (link, (is, h))

-- what the tests on a link, a network or an interface are where it is there
pub of_link-at : (s : StateView) (name : List ℕ) (test : ℕ → Bool) (link : ℕ) → link_named s name ≡ Some link → of_link s name test ≡ test link
of_link-at s name test link is = ap (λ (o : Option ℕ). elim o as (λ _. Bool) [ Some i ↦ test i | None ↦ false ]) is

pub changed_by_link-at : (s : StateView) (name : List ℕ) (change : ℕ → StateView → StateView) (link : ℕ) → link_named s name ≡ Some link → changed_by_link s name change ≡ change link s
changed_by_link-at s name change link is = ap (λ (o : Option ℕ). elim o as (λ _. StateView) [ Some i ↦ change i s | None ↦ s ]) is

pub changed_by_link-none : (s : StateView) (name : List ℕ) (change : ℕ → StateView → StateView) → link_named s name ≡ None → changed_by_link s name change ≡ s
changed_by_link-none s name change is = ap (λ (o : Option ℕ). elim o as (λ _. StateView) [ Some i ↦ change i s | None ↦ s ]) is

-- the links of two names
pub record BothNamed (s : StateView) (input out : List ℕ) : Type 0 where
  pub came : ℕ
  pub goes : ℕ
  pub input_named : link_named s input ≡ Some came
  pub out_named : link_named s out ≡ Some goes

pub of_links-at : (s : StateView) (input out : List ℕ) (test : ℕ → ℕ → Bool) (at : BothNamed s input out) → of_links s input out test ≡ test at.came at.goes
of_links-at s input out test at =
    of_link-at s input (λ came. of_link s out (λ goes. test came goes)) at.came at.input_named ∙ of_link-at s out (λ goes. test at.came goes) at.goes at.out_named

pub changed_by_links-at : (s : StateView) (input out : List ℕ) (change : ℕ → ℕ → StateView → StateView) (at : BothNamed s input out) → changed_by_links s input out change ≡ change at.came at.goes s
changed_by_links-at s input out change at =
    ap (λ (o : Option ℕ). elim o as (λ _. StateView) [ Some came ↦ elim (link_named s out) as (λ _. StateView) [ Some goes ↦ change came goes s | None ↦ s ] | None ↦ s ]) at.input_named
    ∙ ap (λ (o : Option ℕ). elim o as (λ _. StateView) [ Some goes ↦ change at.came goes s | None ↦ s ]) at.out_named

pub both_named : (s : StateView) (input out : List ℕ) (test : ℕ → ℕ → Bool) → of_links s input out test ≡ true → BothNamed s input out
both_named s input out test h =
    let one = link_there s input (λ came. of_link s out (λ goes. test came goes)) h in
    let other = link_there s out (λ goes. test one.0 goes) one.1.1 in
    record { came = one.0; goes = other.0; input_named = one.1.0; out_named = other.1.0 }

module _ (s : StateView) (net : ℕ) (n : Network) (found : find_id net s.networks ≡ Some n) where
  pub of_net-at : (test : Network → Bool) → of_net s net test ≡ test n
  of_net-at test = ap (λ (o : Option Network). elim o as (λ _. Bool) [ Some m ↦ test m | None ↦ false ]) found

  pub is_in-at : (link : ℕ) → is_in s net link ≡ has_link n link
  is_in-at link = of_net-at (λ m. has_link m link)

  pub is_full-at : is_full s net ≡ nat_le most_interfaces (length n.interfaces)
  is_full-at = of_net-at (λ m. nat_le most_interfaces (length m.interfaces))

  pub is_local_net-at : is_local_net s net ≡ kinds.is_local n.kind
  is_local_net-at = of_net-at (λ m. kinds.is_local m.kind)

  pub table_routes-at : (link : ℕ) → table_routes s net link ≡ table_routes_of n link
  table_routes-at link = ap (λ (o : Option Network). elim o as (λ _. List Route) [ Some m ↦ table_routes_of m link | None ↦ [] ]) found

  pub routes_at-at : (link : ℕ) → routes_at s net link ≡ routes_by link n.routes
  routes_at-at link = ap (λ (o : Option Network). elim o as (λ _. List Route) [ Some m ↦ routes_by link m.routes | None ↦ [] ]) found

pub is_physical-at : (s : StateView) (net : ℕ) (n : Network) → find_id net s.networks ≡ Some n → is_physical s net ≡ kinds.is_physical n.kind
is_physical-at s net n found = of_net-at s net n found (λ m. kinds.is_physical m.kind)

-- what the reasons about a route's network and link leave
pub record Routed (s : StateView) (net : ℕ) (name : List ℕ) : Type 0 where
  pub n : Network
  pub link : ℕ
  pub found : find_id net s.networks ≡ Some n
  pub named : link_named s name ≡ Some link
  pub has : has_link n link ≡ true

pub routed : (s : StateView) (net : ℕ) (name : List ℕ) → is_net_unknown s net ≡ false → not (of_link s name (is_in s net)) ≡ false → Routed s net name
routed s net name known linked =
    let there = some_there (find_id net s.networks) known in
    let at = link_there s name (is_in s net) (not-false _ linked) in
    let found : find_id net s.networks ≡ Some there.0 = there.1 in
    record { n = there.0; link = at.0; found = found; named = at.1.0; has = sym (is_in-at s net there.0 found at.0) ∙ at.1.1 }
