-- The one route that has a key, as a search finds it, and the requests of routes that leave.
use Rattle.std.proofs.Common.{◌≡◌, ◌∙◌, ◌==◌, ℕ, Bool, true, false, Some, None, List, [], ◌∷◌, ◌++◌, refl, sym, ap, subst, inl, inr, map, filter, take, ◌+◌, append_assoc}
use Rattle.std.specs.Prelude.{find, flat_map, if◌then◌else◌}
use Rattle.std.proofs.lemmas.Bool.{cases_Bool, and_parts, eqb-true}
use Rattle.std.proofs.lemmas.Grind.{flat_map-append}
use Rattle.std.proofs.lemmas.List.{append-nil, map-append}
use Rattle.std.proofs.lemmas.Option.{none-some}
use Rattle.fib_table.specs.Table.{are_keys_distinct}
use Rattle.networks.specs.Network.{routes_by, is_keyed_by}
use Rattle.networks.specs.declared.network.LinkRoute.{LinkRoute}
use Rattle.networks.specs.declared.network.Network.{Network}
use Rattle.prefixes.specs.Route.{same_key}
use Rattle.prefixes.specs.declared.route.Route.{Route}
use Rattle.kernel_model.specs.Switch.{requests_of}
use Rattle.kernel_model.specs.declared.request.Request.{Request}
use Rattle.kernel_model.specs.declared.request.Request.TheVariants as req
use Rattle.networks.specs.Lists.{find_id}
use Rattle.policy_state.specs.Good.{IsGood, IsNetwork}
use Rattle.policy_state.specs.Table.{table_of}
use Rattle.policy_state.specs.View.{StateView}
use Rattle.policy_state.proofs.GoodStates.{each-has}
use Rattle.policy_state.proofs.Owners.{Has, any-from}
use Rattle.rule_compile.specs.Asked.{keyed_in, leaving_by, shortest_first}
use Rattle.rule_compile.proofs.Defaults.{Found, of_find}
use Rattle.rule_compile.proofs.RouteTables.{OneOfKey, one_of_key, keyed-routes, has_filtered, in_by}

none-found : (p : LinkRoute → Bool) (rs : List LinkRoute) → find p rs ≡ None → filter p rs ≡ []
none-found p [] h = refl
none-found p (r ∷ rs) h = elim (cases_Bool (p r)) [
  | inl e ↦ absurd (none-some r (sym (rw e at h)))
  | inr e ↦ rw e (none-found p rs (rw e at h))
]

-- no route has the key
pub no-route : (n : Network) (link : ℕ) (key : Route) → find (is_keyed_by link key) n.routes ≡ None → requests_of (keyed_in n link key) ≡ []
no-route n link key none = ap (λ (rs : List LinkRoute). requests_of (map (λ (r : LinkRoute). (table_of n.kind link, r.route)) rs)) (none-found (is_keyed_by link key) n.routes none)

-- one has it
pub one-route : (n : Network) (link : ℕ) (key : Route) (r : LinkRoute) → are_keys_distinct (routes_by link n.routes) ≡ true → find (is_keyed_by link key) n.routes ≡ Some r
    → requests_of (keyed_in n link key) ≡ req.Route (table_of n.kind link) r.route ∷ []
one-route n link key r once found =
    ap requests_of (keyed-routes n link key) ∙ ap (λ (rs : List Route). requests_of (map (λ (x : Route). (table_of n.kind link, x)) rs)) (one.alone ∙ ap (λ (x : Route). x ∷ []) (sym same))
  where
    it : Found (is_keyed_by link key) n.routes r
    it = of_find (is_keyed_by link key) n.routes r found

    both : ((r.link == link) ≡ true) × (same_key r.route key ≡ true)
    both = and_parts (r.link == link) (same_key r.route key) it.passes

    by : Has (routes_by link n.routes) r.route
    by = in_by link n.routes r it.there (eqb-true r.link link both.0)

    one : OneOfKey (routes_by link n.routes) key
    one = one_of_key (routes_by link n.routes) key once (any-from (λ x. same_key x key) (routes_by link n.routes) r.route by both.1)

    same : r.route ≡ one.route
    same = elim (subst (λ (rs : List Route). Has rs r.route) one.alone (has_filtered (λ x. same_key x key) (routes_by link n.routes) r.route by both.1)) [ inl e ↦ sym e | inr f ↦ absurd f ]

-- routes of one table, one more
pub routes-more : (table : ℕ) (front old new : List Request) (routes : List Route) (i : ℕ) (r : Route) → take (i + 1) routes ≡ take i routes ++ r ∷ []
    → old ≡ front ++ requests_of (map (λ (x : Route). (table, x)) (take i routes)) → new ≡ old ++ req.Route table r ∷ [] → new ≡ front ++ requests_of (map (λ (x : Route). (table, x)) (take (i + 1) routes))
routes-more table front old new routes i r next was is =
    let numbered : Route → ℕ × Route = λ (x : Route). (table, x) in
    is ∙ (ap (λ (qs : List Request). qs ++ req.Route table r ∷ []) was
    ∙ (append_assoc front (requests_of (map numbered (take i routes))) (req.Route table r ∷ [])
    ∙ ap (λ (qs : List Request). front ++ qs)
    (sym (ap (λ (rs : List Route). requests_of (map numbered rs)) next
    ∙ (ap requests_of (map-append numbered (take i routes) (r ∷ [])) ∙ map-append (λ (g : ℕ × Route). req.Route g.0 g.1) (map numbered (take i routes)) (numbered r ∷ []))))))

-- the routes of one interface more
pub links-more : (f : ℕ → List (ℕ × Route)) (old new : List Request) (links : List ℕ) (i link : ℕ) → take (i + 1) links ≡ take i links ++ link ∷ []
    → old ≡ requests_of (flat_map f (take i links)) → new ≡ old ++ requests_of (f link) → new ≡ requests_of (flat_map f (take (i + 1) links))
links-more f old new links i link next was is =
    is ∙ (ap (λ (qs : List Request). qs ++ requests_of (f link)) was
    ∙ (sym (map-append (λ (g : ℕ × Route). req.Route g.0 g.1) (flat_map f (take i links)) (f link))
    ∙ ap requests_of (sym (ap (flat_map f) next ∙ (flat_map-append f (take i links) (link ∷ []) ∙ ap (λ (gs : List (ℕ × Route)). flat_map f (take i links) ++ gs) (append-nil (f link)))))))

-- a link's routes, where the next one is its or isn't
pub by-more : (link : ℕ) (old new all : List Route) (r : LinkRoute) (rest : List LinkRoute) → old ++ routes_by link (r ∷ rest) ≡ all → (b : Bool) → (r.link == link) ≡ b → new ≡ (if b then old ++ r.route ∷ [] else old)
    → new ++ routes_by link rest ≡ all
by-more link old new all r rest before true own is = ap (λ (rs : List Route). rs ++ routes_by link rest) is ∙ (append_assoc old (r.route ∷ []) (routes_by link rest) ∙ (sym (ap (λ (rs : List Route). old ++ rs) (one true own)) ∙ before))
  where
    one : (b : Bool) → (r.link == link) ≡ b → routes_by link (r ∷ rest) ≡ (if b then r.route ∷ routes_by link rest else routes_by link rest)
    one true own = rw own refl
    one false own = rw own refl
by-more link old new all r rest before false other is = ap (λ (rs : List Route). rs ++ routes_by link rest) is ∙ (sym (ap (λ (rs : List Route). old ++ rs) (rw other refl)) ∙ before)

-- no two routes of an interface have one key
pub keys-once : (s : StateView) → IsGood s → (net link : ℕ) (n : Network) → find_id net s.networks ≡ Some n → are_keys_distinct (routes_by link n.routes) ≡ true
keys-once s good net link n found =
    let there : Found (λ (n : Network). net == n.id) s.networks n = of_find (λ (n : Network). net == n.id) s.networks n found in
    let it : IsNetwork n = each-has IsNetwork s.networks n good.formed.networks.each there.there in
    it.keys_distinct link

-- an interface's routes, once they are sorted
pub leaving-is : (n : Network) (link table : ℕ) (routes sorted own : List Route) → table ≡ table_of n.kind link → own ≡ routes_by link n.routes → sorted ≡ shortest_first own → routes ≡ sorted
    → map {B = ℕ × Route} (λ (r : Route). (table, r)) routes ≡ leaving_by n link
leaving-is n link table routes sorted own at of_link shortest same =
    ap (λ t. map {B = ℕ × Route} (λ (r : Route). (t, r)) routes) at ∙ ap (map {B = ℕ × Route} (λ (r : Route). (table_of n.kind link, r))) (same ∙ (shortest ∙ ap shortest_first of_link))
