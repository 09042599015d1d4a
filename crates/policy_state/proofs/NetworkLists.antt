-- A well formed state with a network more, which has nothing yet, and with one fewer.
use Rattle.std.proofs.Common.{◌≡◌, ◌∙◌, ◌≤◌, ◌<◌, ◌==◌, ◌&&◌, ℕ, Bool, true, false, not, Option, Some, None, List, [], ◌∷◌, ◌++◌, length, filter, refl, sym, ap, subst, inl, inr, arith, nat_le, is_none, if◌then◌else◌}
use Rattle.std.specs.List.{list_all}
use Rattle.std.proofs.lemmas.Bool.{cases_Bool, false≢true, and_parts, and_from, not_from_false, not-true, le-leb, eqb-true, false_from_ne_true}
use Rattle.std.proofs.lemmas.List.{length-append}
use Rattle.std.proofs.lemmas.List.Folds.{list_all-append}
use Rattle.list_lemmas.proofs.Alls.{all-push, all-filter}
use Rattle.list_lemmas.proofs.Anys.{length-filter-le}
use Rattle.list_lemmas.proofs.Numbers.{eqb-turned, unlike-sym}
use Rattle.list_lemmas.proofs.Pairs.{list_all-filter, pairwise-append, pairwise-filter}
use Rattle.networks.specs.Kinds.{ranges_of, is_local, is_physical}
use Rattle.networks.specs.Lists.{find_id}
use Rattle.networks.specs.Network.{has_link, local_id}
use Rattle.networks.specs.declared.kind.Kind.{Kind}
use Rattle.uid_ranges.specs.Ranks.{are_ranked}
use Rattle.policy_state.specs.Good.{most_networks, nets_differ, is_local_network, is_index, is_output, is_default_there, IsNetwork, StartsLocal, AreNetworks, ArePairs, IsWellFormed}
use Rattle.policy_state.specs.Step.{is_in, with_new_net, without_net}
use Rattle.policy_state.specs.View.{StateView, Network, Ranked, TetherPair}
use Rattle.policy_state.proofs.Accepted.{is_in-at}
use Rattle.policy_state.proofs.Members.{all-from, in_append, in_filter, of_filter}
use Rattle.policy_state.proofs.Differing.{differ-from}
use Rattle.policy_state.proofs.NetworkParts.{found-by_id, unknown}
use Rattle.policy_state.proofs.Owners.{Has, Passing, any-from, of_any}
use Rattle.policy_state.proofs.PairLists.{pairs-kept, pairs-filter}

-- an output among other networks, where those that have it are there
output-there : (ns ms : List Network) (link : ℕ) → ((n : Network) → Has ns n → has_link n link ≡ true → Has ms n) → is_output ns link ≡ true → is_output ms link ≡ true
output-there ns ms link stays h =
    let it : Passing (λ n. has_link n link && not (is_local_network n)) ns = of_any (λ n. has_link n link && not (is_local_network n)) ns h in
    any-from (λ n. has_link n link && not (is_local_network n)) ms it.one (stays it.one it.there (and_parts (has_link it.one link) (not (is_local_network it.one)) it.passes).0) it.passes

-- and the default network
default-there : (ns ms : List Network) (id : ℕ) → ((n : Network) → Has ns n → (n.id == id) ≡ true → Has ms n) → is_default_there ns (Some id) ≡ true → is_default_there ms (Some id) ≡ true
default-there ns ms id stays h =
    let it : Passing (λ n. (n.id == id) && is_physical n.kind) ns = of_any (λ n. (n.id == id) && is_physical n.kind) ns h in
    any-from (λ n. (n.id == id) && is_physical n.kind) ms it.one (stays it.one it.there (and_parts (it.one.id == id) (is_physical it.one.kind) it.passes).0) it.passes

-- a network comes last

module _ (s : StateView) (formed : IsWellFormed s) (net : ℕ) (kind : Kind) (fits : net < 65536) (above : 100 ≤ net) (absent : is_none (find_id net s.networks) ≡ true)
    (room : length s.networks < most_networks) (created : is_local kind ≡ false) (empty : ranges_of kind ≡ []) where
  abbrev more : Network
  more = record { id = net; kind = kind; interfaces = []; routes = [] }

  network-more : IsNetwork more
  network-more = record {
    id_above = omega (arith, above);
    id_fits = fits;
    interfaces_differ = refl;
    interfaces_above = refl;
    few_interfaces = omega arith;
    ranked = ap are_ranked empty;
    few_ranges = subst (λ (rs : List Ranked). length rs ≤ 1000) (sym empty) (omega arith);
    routes_belong = tt;
    keys_distinct = λ link. refl;
    few_routes = λ link. omega arith;
  }

  differs-more : (n : Network) → Has s.networks n → nets_differ n more ≡ true
  differs-more n there = differ-from n more (record {
    ids = eqb-turned n.id net ∙ unknown net s.networks absent n there;
    links = λ link in_n in_more. in_more;
    ranks = λ same r q in_r in_q. absurd (subst (λ (rs : List Ranked). Has rs q) empty in_q);
  })

  networks-more : AreNetworks (s.networks ++ more ∷ [])
  networks-more =
      let start : StartsLocal s.networks = formed.networks.local_first in
      record {
        each = all-push IsNetwork s.networks more formed.networks.each network-more;
        differ = pairwise-append nets_differ s.networks (more ∷ []) formed.networks.differ refl
            (all-from (λ n. list_all (nets_differ n) (more ∷ [])) s.networks (λ n there. and_from _ _ (differs-more n there) refl));
        local_first = record {
          local = start.local;
          others = start.others ++ more ∷ [];
          first = ap (λ ns. ns ++ more ∷ []) start.first;
          is_local = start.is_local;
          id_is = start.id_is;
          by_link = start.by_link;
          few_routes = start.few_routes;
          others_created = list_all-append (λ n. not (is_local_network n) && nat_le 100 n.id) start.others (more ∷ [])
              ∙ and_from _ _ start.others_created (and_from _ _ (and_from _ _ (not_from_false _ created) (le-leb 100 net above)) refl);
        };
        few = omega (arith, length-append s.networks (more ∷ []), room);
      }

  pub formed-more : IsWellFormed (with_new_net net kind s)
  formed-more = record {
    links = formed.links;
    networks = networks-more;
    interfaces = list_all-append (λ n. list_all (is_index s.links) n.interfaces) s.networks (more ∷ []) ∙ and_from _ _ formed.interfaces refl;
    users = formed.users;
    lockdown_disjoint = formed.lockdown_disjoint;
    lockdown_few = formed.lockdown_few;
    pairs = pairs-kept s.links s.links s.networks (s.networks ++ more ∷ []) s.pairs formed.pairs (λ pair in_pair h. h)
        (λ pair in_pair h. output-there s.networks (s.networks ++ more ∷ []) pair.out (λ n there has. in_append s.networks (more ∷ []) n there) h);
    default = by s.default formed.default;
  }
    where
      by : (default : Option ℕ) → is_default_there s.networks default ≡ true → is_default_there (s.networks ++ more ∷ []) default ≡ true
      by None h = h
      by (Some id) h = default-there s.networks (s.networks ++ more ∷ []) id (λ n there is. in_append s.networks (more ∷ []) n there) h

-- a network goes, with the pairs that go out by it

module _ (s : StateView) (formed : IsWellFormed s) (net : ℕ) (other : (net == local_id) ≡ false) where
  abbrev stays : Network → Bool
  stays n = not (net == n.id)

  abbrev left : List Network
  left = filter stays s.networks

  networks-left : AreNetworks left
  networks-left =
      let start : StartsLocal s.networks = formed.networks.local_first in
      let local : (net == start.local.id) ≡ false = ap (λ i. net == i) start.id_is ∙ other in
      record {
        each = all-filter IsNetwork stays s.networks formed.networks.each;
        differ = pairwise-filter nets_differ stays s.networks formed.networks.differ;
        local_first = record {
          local = start.local;
          others = filter stays start.others;
          first = ap (filter stays) start.first ∙ rw local refl;
          is_local = start.is_local;
          id_is = start.id_is;
          by_link = start.by_link;
          few_routes = start.few_routes;
          others_created = list_all-filter (λ n. not (is_local_network n) && nat_le 100 n.id) stays start.others start.others_created;
        };
        few = omega (arith, formed.networks.few, length-filter-le stays s.networks);
      }

  pairs-left : ArePairs s.links left (filter (λ p. not (is_in s net p.out)) s.pairs)
  pairs-left =
      let q : TetherPair → Bool = λ p. not (is_in s net p.out) in
      pairs-kept s.links s.links s.networks left (filter q s.pairs) (pairs-filter s.links s.networks q s.pairs formed.pairs) (λ pair in_pair h. h)
      (λ pair in_pair h. output-there s.networks left pair.out (λ n there has. in_filter stays s.networks n there (not_from_false (net == n.id)
      (false_from_ne_true (net == n.id) (λ same.
      let found : find_id net s.networks ≡ Some n = subst (λ i. find_id i s.networks ≡ Some n) (sym (eqb-true net n.id same)) (found-by_id s formed n there) in
      false≢true (sym (not-true (is_in s net pair.out) (of_filter q s.pairs pair in_pair).1) ∙ (is_in-at s net n found pair.out ∙ has)))))) h)

  pub formed-left : IsWellFormed (without_net net s)
  formed-left = record {
    links = formed.links;
    networks = networks-left;
    interfaces = list_all-filter (λ n. list_all (is_index s.links) n.interfaces) stays s.networks formed.interfaces;
    users = formed.users;
    lockdown_disjoint = formed.lockdown_disjoint;
    lockdown_few = formed.lockdown_few;
    pairs = pairs-left;
    default = by s.default formed.default;
  }
    where
      by : (default : Option ℕ) → is_default_there s.networks default ≡ true
          → is_default_there left (elim default as (λ _. Option ℕ) [ Some id ↦ if id == net then None else Some id | None ↦ None ]) ≡ true
      by None h = h
      by (Some id) h = elim (cases_Bool (id == net)) as (λ _. is_default_there left (if id == net then None else Some id) ≡ true) [
        | inl e ↦ rw e refl
        | inr e ↦ rw e (default-there s.networks left id
            (λ n there is. in_filter stays s.networks n there (not_from_false (net == n.id) (ap (λ i. net == i) (eqb-true n.id id is) ∙ unlike-sym id net e))) h)
      ]
