-- A network with one route more or less is still one that may stand in a state.
use Rattle.std.proofs.Common.{◌≡◌, ℕ, ◌≤◌, ◌<◌, ◌==◌, ◌&&◌, ◌||◌, Bool, true, false, cond, not, List, [], ◌∷◌, ◌++◌, map, filter, length, refl, sym, ap, subst, ◌∙◌, arith, inl, inr}
use Rattle.std.specs.List.{list_any, AllByRecursion}
use Rattle.std.proofs.lemmas.Bool.{cases_Bool, and_from, and_parts, or_from, or_parts, not-true, not-false, not_from_false, eqb-true}
use Rattle.std.proofs.lemmas.List.{map-append, append-nil, length-append, length-map}
use Rattle.std.proofs.lemmas.List.Elements.{filter-append}
use Rattle.prefixes.proofs.Sames.{same_family-true}
use Rattle.list_lemmas.proofs.Alls.{all-push, all-filter}
use Rattle.fib_table.specs.Table.{has_key, are_keys_distinct}
use Rattle.fib_table.proofs.Keys.{are_keys_distinct-push}
use Rattle.networks.specs.Network.{has_link, routes_by, is_keyed_by}
use Rattle.networks.specs.declared.network.LinkRoute.{LinkRoute}
use Rattle.networks.specs.declared.network.Network.{Network}
use Rattle.prefixes.specs.Addr.{family_of}
use Rattle.prefixes.specs.Route.{same_key}
use Rattle.prefixes.specs.declared.prefix.Prefix.{Prefix}
use Rattle.prefixes.specs.declared.route.Route.{Route}
use Rattle.policy_state.specs.Good.{IsNetwork, LeadsOut, most_routes}
use Rattle.policy_state.specs.Step.{with_route, without_route, route_of, is_way_of_other_family}
use Rattle.commands.specs.declared.command.Way.{Way}
use Rattle.commands.specs.declared.command.Way.TheVariants as way

routes_by-push : (l : ℕ) (rs : List LinkRoute) (r : LinkRoute) → routes_by l (rs ++ r ∷ []) ≡ routes_by l rs ++ cond (r.link == l) (r.route ∷ []) []
routes_by-push l rs r =
    ap (map (λ x. x.route)) (filter-append (λ x. x.link == l) rs (r ∷ []))
    ∙ (map-append (λ x. x.route) (filter (λ x. x.link == l) rs) (cond (r.link == l) (r ∷ []) []) ∙ ap (λ more. routes_by l rs ++ more) (one (r.link == l)))
  where
    one : (b : Bool) → map (λ (x : LinkRoute). x.route) (cond b (r ∷ []) []) ≡ cond b (r.route ∷ []) []
    one true = refl
    one false = refl

none-routes_by : (p : Route → Bool) (q : LinkRoute → Bool) (l : ℕ) (rs : List LinkRoute) → list_any p (routes_by l rs) ≡ false → list_any p (routes_by l (filter q rs)) ≡ false
none-routes_by p q l [] none = refl
none-routes_by p q l (r ∷ rs) none = by (r.link == l) (q r) refl (none-routes_by p q l rs) none
  where
    by : (b c : Bool) → (r.link == l) ≡ b → (list_any p (routes_by l rs) ≡ false → list_any p (routes_by l (filter q rs)) ≡ false)
        → list_any p (map (λ (x : LinkRoute). x.route) (cond b (r ∷ filter (λ (x : LinkRoute). x.link == l) rs) (filter (λ (x : LinkRoute). x.link == l) rs))) ≡ false
        → list_any p (routes_by l (cond c (r ∷ filter q rs) (filter q rs))) ≡ false
    by true true is rest h = let parts = or_parts (p r.route) (list_any p (routes_by l rs)) h in rw is (or_from _ _ parts.0 (rest parts.1))
    by true false is rest h = rest (or_parts (p r.route) (list_any p (routes_by l rs)) h).1
    by false true is rest h = rw is (rest h)
    by false false is rest h = rest h

pub keys-filter : (q : LinkRoute → Bool) (l : ℕ) (rs : List LinkRoute) → are_keys_distinct (routes_by l rs) ≡ true → are_keys_distinct (routes_by l (filter q rs)) ≡ true
keys-filter q l [] distinct = refl
keys-filter q l (r ∷ rs) distinct = by (r.link == l) (q r) refl (keys-filter q l rs) distinct
  where
    by : (b c : Bool) → (r.link == l) ≡ b → (are_keys_distinct (routes_by l rs) ≡ true → are_keys_distinct (routes_by l (filter q rs)) ≡ true)
        → are_keys_distinct (map (λ (x : LinkRoute). x.route) (cond b (r ∷ filter (λ (x : LinkRoute). x.link == l) rs) (filter (λ (x : LinkRoute). x.link == l) rs))) ≡ true
        → are_keys_distinct (routes_by l (cond c (r ∷ filter q rs) (filter q rs))) ≡ true
    by true true is rest h =
        let parts = and_parts (not (has_key (routes_by l rs) r.route)) (are_keys_distinct (routes_by l rs)) h in
        rw is (and_from _ _ (not_from_false _ (none-routes_by (λ other. same_key other r.route) q l rs (not-true _ parts.0))) (rest parts.1))
    by true false is rest h = rest (and_parts (not (has_key (routes_by l rs) r.route)) (are_keys_distinct (routes_by l rs)) h).1
    by false true is rest h = rw is (rest h)
    by false false is rest h = rest h

pub length-routes_by : (q : LinkRoute → Bool) (l : ℕ) (rs : List LinkRoute) → length (routes_by l (filter q rs)) ≤ length (routes_by l rs)
length-routes_by q l [] = omega arith
length-routes_by q l (r ∷ rs) = by (r.link == l) (q r) refl (length-routes_by q l rs)
  where
    by : (b c : Bool) → (r.link == l) ≡ b → length (routes_by l (filter q rs)) ≤ length (routes_by l rs)
        → length (routes_by l (cond c (r ∷ filter q rs) (filter q rs))) ≤ length (map (λ (x : LinkRoute). x.route) (cond b (r ∷ filter (λ (x : LinkRoute). x.link == l) rs) (filter (λ (x : LinkRoute). x.link == l) rs)))
    by true true is rest = rw is (omega arith)
    by true false is rest = omega arith
    by false true is rest = rw is rest
    by false false is rest = rest

leads_out : (link : ℕ) (prefix : Prefix) (w : Way) → is_way_of_other_family prefix w ≡ false → LeadsOut (record { link = link; route = route_of link prefix w })
leads_out link prefix way.Direct same = refl
leads_out link prefix (way.Via gateway) same = (refl, same_family-true (family_of gateway) (family_of prefix.base) (not-false _ same))
leads_out link prefix way.Unreachable same = tt
leads_out link prefix way.Throw same = tt

-- a network with other routes
routed : (n : Network) (routes : List LinkRoute) → IsNetwork n → AllByRecursion (λ r. (has_link n r.link ≡ true) × LeadsOut r) routes
    → ((link : ℕ) → are_keys_distinct (routes_by link routes) ≡ true) → ((link : ℕ) → length (routes_by link routes) ≤ most_routes) → IsNetwork (record n { routes = routes })
routed n routes good belong distinct few = record {
  id_above = good.id_above;
  id_fits = good.id_fits;
  interfaces_differ = good.interfaces_differ;
  interfaces_above = good.interfaces_above;
  few_interfaces = good.few_interfaces;
  ranked = good.ranked;
  few_ranges = good.few_ranges;
  routes_belong = belong;
  keys_distinct = distinct;
  few_routes = few;
}

pub network-with_route : (n : Network) (link : ℕ) (prefix : Prefix) (w : Way) → IsNetwork n → has_link n link ≡ true → is_way_of_other_family prefix w ≡ false
    → has_key (routes_by link n.routes) (route_of link prefix w) ≡ false → length (routes_by link n.routes) < most_routes → IsNetwork (with_route link (route_of link prefix w) n)
network-with_route n link prefix w good has way_ok absent room =
    let more : LinkRoute = record { link = link; route = route_of link prefix w } in
    routed n (n.routes ++ more ∷ []) good
    (all-push (λ r. (has_link n r.link ≡ true) × LeadsOut r) n.routes more good.routes_belong (has, leads_out link prefix w way_ok))
    (λ l. subst (λ rs. are_keys_distinct rs ≡ true) (sym (routes_by-push l n.routes more)) (
    elim (cases_Bool (link == l)) as (λ _. are_keys_distinct (routes_by l n.routes ++ cond (link == l) (route_of link prefix w ∷ []) []) ≡ true) [
      | inl same ↦ rw same (are_keys_distinct-push (routes_by l n.routes) (route_of link prefix w) (good.keys_distinct l)
          (subst (λ i. has_key (routes_by i n.routes) (route_of link prefix w) ≡ false) (eqb-true link l same) absent))
      | inr other ↦ rw (other, append-nil) (good.keys_distinct l)
    ]))
    (λ l. subst (λ rs. length rs ≤ most_routes) (sym (routes_by-push l n.routes more)) (
    elim (cases_Bool (link == l)) as (λ _. length (routes_by l n.routes ++ cond (link == l) (route_of link prefix w ∷ []) []) ≤ most_routes) [
      | inl same ↦
          let here : length (routes_by l n.routes) < most_routes = subst (λ i. length (routes_by i n.routes) < most_routes) (eqb-true link l same) room in
          rw same (omega (arith, length-append (routes_by l n.routes) (route_of link prefix w ∷ [])))
      | inr other ↦ rw (other, append-nil) (good.few_routes l)
    ]))

pub network-without_route : (n : Network) (link : ℕ) (key : Route) → IsNetwork n → IsNetwork (without_route link key n)
network-without_route n link key good =
    let stays : LinkRoute → Bool = λ r. not (is_keyed_by link key r) in
    routed n (filter stays n.routes) good (all-filter (λ r. (has_link n r.link ≡ true) × LeadsOut r) stays n.routes good.routes_belong)
    (λ l. keys-filter stays l n.routes (good.keys_distinct l))
    (λ l. omega (arith, length-routes_by stays l n.routes, good.few_routes l))

-- the routes of an interface, as the tests of the code see them
pub any-routes_by : (p : Route → Bool) (l : ℕ) (rs : List LinkRoute) → list_any p (routes_by l rs) ≡ list_any (λ r. (r.link == l) && p r.route) rs
any-routes_by p l [] = refl
any-routes_by p l (r ∷ rs) = by (r.link == l) (any-routes_by p l rs)
  where
    by : (b : Bool) → list_any p (routes_by l rs) ≡ list_any (λ (x : LinkRoute). (x.link == l) && p x.route) rs
        → list_any p (map (λ (x : LinkRoute). x.route) (cond b (r ∷ filter (λ (x : LinkRoute). x.link == l) rs) (filter (λ (x : LinkRoute). x.link == l) rs)))
        ≡ ((b && p r.route) || list_any (λ (x : LinkRoute). (x.link == l) && p x.route) rs)
    by true rest = ap (λ b. p r.route || b) rest
    by false rest = rest

pub length-routes_by-filter : (l : ℕ) (rs : List LinkRoute) → length (routes_by l rs) ≡ length (filter (λ r. r.link == l) rs)
length-routes_by-filter l rs = length-map (filter (λ r. r.link == l) rs) (λ r. r.route)

-- a table has at most as many routes of an interface as routes
pub routes_by-few : (link : ℕ) (rs : List LinkRoute) → length (routes_by link rs) ≤ length rs
routes_by-few link [] = omega arith
routes_by-few link (r ∷ rs) = by (r.link == link) (routes_by-few link rs)
  where
    by : (b : Bool) → length (routes_by link rs) ≤ length rs
        → length (map (λ (x : LinkRoute). x.route) (cond b (r ∷ filter (λ (x : LinkRoute). x.link == link) rs) (filter (λ (x : LinkRoute). x.link == link) rs))) ≤ length (r ∷ rs)
    by true h = omega arith
    by false h = omega arith
