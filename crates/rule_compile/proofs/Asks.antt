-- What a command asks: rules, or one route.
use Rattle.std.proofs.Common.{◌≡◌, ◌==◌, ◌&&◌, nat_le, reverse, ◌∷◌, [], ◌++◌, ◌+◌, ℕ, List, Bool, true, false, not, Some, None, Option, refl, sym, ◌∙◌, ap, ap₂, subst, inl, inr, map, filter, arith}
use Rattle.std.specs.Prelude.{flat_map, ◌≢◌, ◌⊎◌, if◌then◌else◌}
use Rattle.std.proofs.lemmas.Bool.{cases_Bool, false≢true, and_parts, not-false, not-true, eqb-true, eq-eqb}
use Rattle.std.proofs.lemmas.List.{append-nil}
use Rattle.std.proofs.lemmas.Grind.{flat_map-append}
use Rattle.list_lemmas.proofs.Numbers.{eqb-refl}
use Rattle.list_lemmas.proofs.Options.{some_there}
use Rattle.kernel_model.specs.State.{device_table, own_rule}
use Rattle.fib_table.specs.Table as fib
use Rattle.fib_table.specs.Table.{has_key, has_route, routes_in}
use Rattle.fwmark.specs.declared.permission.Permission.{Permission}
use Rattle.networks.specs.Kinds.{is_local}
use Rattle.networks.specs.Lists.{find_id}
use Rattle.networks.specs.Network.{has_link, local_id, routes_by}
use Rattle.networks.specs.declared.kind.Kind.{Kind}
use Rattle.networks.specs.declared.kind.Kind.TheVariants as kind
use Rattle.networks.specs.declared.network.Network.{Network}
use Rattle.prefixes.specs.Route.{link_of}
use Rattle.prefixes.specs.declared.prefix.Prefix.{Prefix}
use Rattle.prefixes.specs.declared.route.Route.{Route}
use Rattle.rule_law.specs.Plans.{beyond}
use Rattle.rule_law.specs.Rules.{has}
use Rattle.rule_law.proofs.Membership.{filter-none}
use Rattle.rule_match.specs.declared.rule.Rule.{Rule}
use Rattle.rule_kinds.specs.Kind.{rule_kind}
use Rattle.kernel_model.specs.PlanView.{PlanView}
use Rattle.kernel_model.specs.Switch.{twins, additions, deletions, requests_of, AreUnused}
use Rattle.kernel_model.specs.declared.request.Request.{Request}
use Rattle.kernel_model.specs.declared.request.Request.TheVariants as req
use Rattle.policy_state.specs.Good.{IsGood, IsNetwork, StartsLocal}
use Rattle.policy_state.specs.Step.{refusal, changed, changed_by_links, with_net, with_new_net, with_link, with_route, without_net, without_interface, without_route, with_permission, with_ranges, without_ranges, kind_with, kind_without, asking_for, is_pair, is_protectable, route_of, key_of, routes_at}
use Rattle.policy_state.specs.Table.{rule_table, route_list, routes_of_net, table_of}
use Rattle.policy_state.specs.View.{StateView, link_named}
use Rattle.policy_state.specs.declared.tether.TetherPair.{TetherPair}
use Rattle.uid_ranges.specs.declared.range.UidRange.{UidRange}
use Rattle.commands.specs.declared.command.Command.{Command}
use Rattle.commands.specs.declared.command.Command.TheVariants as command
use Rattle.commands.specs.declared.command.Way.{Way}
use Rattle.commands.specs.declared.command.Way.TheVariants as way
use Rattle.policy_state.proofs.Accepted.{of_link-at, changed_by_link-at, is_in-at, routes_at-at, Routed, routed}
use Rattle.policy_state.proofs.AlikeRules.{all-has}
use Rattle.policy_state.proofs.GoodStates.{each-has, is-whole}
use Rattle.policy_state.proofs.Owners.{Has, OfFlat, of_flat, any-from, link-has}
use Rattle.rule_compile.specs.Asked.{of_interface, keyed_in, leaving_by, routes_come, routes_gone, routes_first, asked_adds, asked_deletes, asked}
use Rattle.rule_compile.proofs.Defaults.{Found, of_find}
use Rattle.rule_compile.proofs.RouteTables.{is_local_table, OneOfKey, one_of_key, table-absent, table-has, route-comes, route-goes, keyed-routes}
use Rattle.rule_compile.proofs.ChangeKinds.{routes-same}
use Rattle.rule_compile.proofs.LocalRules.{local-adds}
use Rattle.rule_compile.proofs.Steps.{unrefused}
use Rattle.rule_compile.proofs.Thinning.{after_link}
use Rattle.rule_compile.proofs.Leaving.{OfLink, of_leaving, AreGone, none-gone, link-gone, net-gone}
use Rattle.rule_compile.proofs.Forgotten.{tables-unused, link-forgotten, net-forgotten}

-- the additions and deletions are those of the rules, and then routes go in whose tables no rule looks any more
pub record AsksRules (s : StateView) (c : Command) : Type 0 where
  pub gone : List (ℕ × Route)
  pub adds : asked_adds s c ≡ additions (rule_table s) (rule_table (changed s c))
  pub deletes : asked_deletes s c ≡ deletions (rule_table s) (rule_table (changed s c)) gone
  pub routes : AreGone s (changed s c) gone
  pub unused : AreUnused gone (own_rule ∷ rule_table (changed s c))

-- one route is added, last in its table
pub record AsksOne (s : StateView) (c : Command) : Type 0 where
  pub table : ℕ
  pub route : Route
  pub adds : asked_adds s c ≡ req.Route table route ∷ []
  pub deletes : asked_deletes s c ≡ []
  pub rules : rule_table (changed s c) ≡ rule_table s
  pub not_own : table ≢ device_table
  pub absent : has_key (routes_in table (route_list s)) route ≡ false
  pub routes : (m : ℕ) → routes_in m (route_list (changed s c)) ≡ (if table == m then routes_in m (route_list s) ++ route ∷ [] else routes_in m (route_list s))

-- one route is deleted
pub record GivesUpOne (s : StateView) (c : Command) : Type 0 where
  pub table : ℕ
  pub route : Route
  pub adds : asked_adds s c ≡ []
  pub deletes : asked_deletes s c ≡ req.Route table route ∷ []
  pub rules : rule_table (changed s c) ≡ rule_table s
  pub not_own : table ≢ device_table
  pub there : has_route (routes_in table (route_list s)) route ≡ true
  pub routes : (m : ℕ) → routes_in m (route_list (changed s c)) ≡ (if table == m then fib.without_route (routes_in m (route_list s)) route else routes_in m (route_list s))

-- an interface leaves the local network: its routes go, and then the rules
pub record AsksLeaving (s : StateView) (c : Command) : Type 0 where
  pub net : ℕ
  pub name : List ℕ
  pub link : ℕ
  pub n : Network
  pub is : c ≡ command.InterfaceRemove net name
  pub named : link_named s name ≡ Some link
  pub found : find_id net s.networks ≡ Some n
  pub local : is_local n.kind ≡ true
  pub has : has_link n link ≡ true
  pub first : List (ℕ × Route)
  pub first_is : first ≡ leaving_by n link
  pub none : additions (rule_table s) (rule_table (changed s c)) ≡ []
  pub adds : asked_adds s c ≡ []
  pub deletes : asked_deletes s c ≡ requests_of first ++ deletions (rule_table s) (rule_table (changed s c)) []
  pub routes : AreGone s (changed s c) first

pub data Asks (s : StateView) (c : Command) : Type 0 where
  Rules : AsksRules s c → Asks s c
  Comes : AsksOne s c → Asks s c
  Goes : GivesUpOne s c → Asks s c
  Leaves : AsksLeaving s c → Asks s c

-- tables that stay ask nothing

beyond-same : (rules : List Rule) → beyond rule_kind rules rules ≡ []
beyond-same rules = filter-none rule_kind (λ x. not (has rule_kind rules x)) rules (λ x there. ap not there)

no-additions : (old new : List Rule) → new ≡ old → additions old new ≡ []
no-additions old new same = ap (λ rules. twins (beyond rule_kind old rules)) same ∙ ap twins (beyond-same old)

no-deletions : (old new : List Rule) (gone : List (ℕ × Route)) → new ≡ old → deletions old new gone ≡ requests_of gone
no-deletions old new gone same = ap (λ rules. deletions old rules gone) same ∙ rw (beyond-same old) refl

-- commands that leave the routes

routes-kept : (net : ℕ) (change : Network → Network) → ((n : Network) → routes_of_net (change n) ≡ routes_of_net n) → (ns : List Network)
    → flat_map routes_of_net (map (λ n. if net == n.id then change n else n) ns) ≡ flat_map routes_of_net ns
routes-kept net change kept [] = refl
routes-kept net change kept (n ∷ ns) =
    ap₂ (λ (one others : List (ℕ × Route)). one ++ others) (by (net == n.id) (kept n)) (routes-kept net change kept ns)
  where
    by : (b : Bool) → routes_of_net (change n) ≡ routes_of_net n → routes_of_net (if b then change n else n) ≡ routes_of_net n
    by true same = same
    by false same = refl

with_link-routes : (link : ℕ) (n : Network) → routes_of_net (with_link link n) ≡ routes_of_net n
with_link-routes link n = by (has_link n link)
  where
    by : (b : Bool) → routes_of_net (if b then n else record n { interfaces = n.interfaces ++ link ∷ [] }) ≡ routes_of_net n
    by true = refl
    by false = refl

with_permission-routes : (permission : Permission) (n : Network) → routes_of_net (with_permission permission n) ≡ routes_of_net n
with_permission-routes permission n = by n.kind
  where
    by : (k : Kind) → routes_of_net (record n { kind = asking_for permission k }) ≡ routes_of_net (record n { kind = k })
    by kind.Local = refl
    by (kind.Physical old apps) = refl
    by (kind.Virtual secure users) = refl

with_ranges-routes : (rank : ℕ) (more : List UidRange) (n : Network) → routes_of_net (with_ranges rank more n) ≡ routes_of_net n
with_ranges-routes rank more n = by n.kind
  where
    by : (k : Kind) → routes_of_net (record n { kind = kind_with rank more k }) ≡ routes_of_net (record n { kind = k })
    by kind.Local = refl
    by (kind.Physical permission apps) = refl
    by (kind.Virtual secure users) = refl

without_ranges-routes : (gone : List UidRange) (n : Network) → routes_of_net (without_ranges gone n) ≡ routes_of_net n
without_ranges-routes gone n = by n.kind
  where
    by : (k : Kind) → routes_of_net (record n { kind = kind_without gone k }) ≡ routes_of_net (record n { kind = k })
    by kind.Local = refl
    by (kind.Physical permission apps) = refl
    by (kind.Virtual secure users) = refl

-- a network without routes comes last
network-routes : (s : StateView) (net : ℕ) (k : Kind) → route_list (with_new_net net k s) ≡ route_list s
network-routes s net k =
    flat_map-append routes_of_net s.networks (record { id = net; kind = k; interfaces = []; routes = [] } ∷ []) ∙ append-nil (flat_map routes_of_net s.networks)

-- rules, and routes after them
rules_and : (s : StateView) (c : Command) (gone : List (ℕ × Route)) → routes_come s c ≡ [] → routes_first s c ≡ [] → routes_gone s c ≡ gone
    → AreGone s (changed s c) gone → AreUnused gone (own_rule ∷ rule_table (changed s c)) → Asks s c
rules_and s c gone come first go routes unused = Rules (record {
  gone = gone;
  adds = ap (λ rs. additions (rule_table s) (rule_table (changed s c)) ++ requests_of rs) come ∙ append-nil (additions (rule_table s) (rule_table (changed s c)));
  deletes = ap₂ (λ (before after : List (ℕ × Route)). requests_of before ++ deletions (rule_table s) (rule_table (changed s c)) after) first go;
  routes = routes;
  unused = unused;
})

only_rules : (s : StateView) (c : Command) → routes_come s c ≡ [] → routes_first s c ≡ [] → routes_gone s c ≡ [] → route_list (changed s c) ≡ route_list s → Asks s c
only_rules s c come first go same = rules_and s c [] come first go (none-gone s (changed s c) same) tt

-- commands that change a route

not_own_table : (k : Kind) (link : ℕ) → table_of k link ≢ device_table
not_own_table kind.Local link = λ same. omega (arith, same)
not_own_table (kind.Physical permission apps) link = λ same. omega (arith, same)
not_own_table (kind.Virtual secure users) link = λ same. omega (arith, same)

-- where a network and its interface are there
of_interface-at : (s : StateView) (net link : ℕ) (name : List ℕ) (n : Network) (routes : Network → ℕ → List (ℕ × Route)) → link_named s name ≡ Some link → find_id net s.networks ≡ Some n
    → of_interface s net name routes ≡ routes n link
of_interface-at s net link name n routes named found =
    ap (λ (o : Option ℕ). elim o as (λ _. List (ℕ × Route)) [ Some i ↦ elim (find_id net s.networks) as (λ _. List (ℕ × Route)) [ Some m ↦ routes m i | None ↦ [] ] | None ↦ [] ]) named
    ∙ ap (λ (o : Option Network). elim o as (λ _. List (ℕ × Route)) [ Some m ↦ routes m link | None ↦ [] ]) found

-- the network of a route's command, with its interface
record AtInterface (s : StateView) (net link : ℕ) (n : Network) : Type 0 where
  there : Has s.networks n
  id : n.id ≡ net
  has : Has n.interfaces link

at_interface : (s : StateView) (net : ℕ) (name : List ℕ) (at : Routed s net name) → AtInterface s net at.link at.n
at_interface s net name at =
    let found : Found (λ (n : Network). net == n.id) s.networks at.n = of_find (λ (n : Network). net == n.id) s.networks at.n at.found in
    record { there = found.there; id = sym (eqb-true net at.n.id found.passes); has = link-has at.n at.link at.has }

out-link : (link : ℕ) (prefix : Prefix) (w : Way) → (link_of (route_of link prefix w).out ≡ None) ⊎ (link_of (route_of link prefix w).out ≡ Some link)
out-link link prefix way.Direct = inr refl
out-link link prefix (way.Via gateway) = inr refl
out-link link prefix way.Unreachable = inl refl
out-link link prefix way.Throw = inl refl

key-link : (link : ℕ) (prefix : Prefix) (special : Bool) → (link_of (key_of link prefix special).out ≡ None) ⊎ (link_of (key_of link prefix special).out ≡ Some link)
key-link link prefix true = inl refl
key-link link prefix false = inr refl

route_comes : (s : StateView) (net : ℕ) (name : List ℕ) (prefix : Prefix) (w : Way) → IsGood s → refusal s (command.RouteAdd net name prefix w) ≡ None → AsksOne s (command.RouteAdd net name prefix w)
route_comes s net name prefix w good accepted =
    let facts = unrefused s (command.RouteAdd net name prefix w) accepted in
    let at : Routed s net name = routed s net name facts.0 facts.1.1.0 in
    let absent : has_key (routes_at s net at.link) (route_of at.link prefix w) ≡ false =
    sym (of_link-at s name (λ i. has_key (routes_at s net i) (route_of i prefix w)) at.link at.named) ∙ facts.1.1.1.1.0 in
    by at.n at.link at.named at.found (at_interface s net name at) (ap (λ rs. has_key rs (route_of at.link prefix w)) (sym (routes_at-at s net at.n at.found at.link)) ∙ absent)
  where
    by : (n : Network) (link : ℕ) → link_named s name ≡ Some link → find_id net s.networks ≡ Some n → AtInterface s net link n
        → has_key (routes_by link n.routes) (route_of link prefix w) ≡ false → AsksOne s (command.RouteAdd net name prefix w)
    by n link named found it absent =
        let route : Route = route_of link prefix w in
        let become : changed s (command.RouteAdd net name prefix w) ≡ with_net net (with_route link route) s =
        changed_by_link-at s name (λ i. with_net net (with_route i (route_of i prefix w))) link named in
        let come : routes_come s (command.RouteAdd net name prefix w) ≡ (table_of n.kind link, route) ∷ [] =
        of_interface-at s net link name n (λ n link. (table_of n.kind link, route_of link prefix w) ∷ []) named found in
        let same : rule_table (changed s (command.RouteAdd net name prefix w)) ≡ rule_table s =
        ap rule_table become ∙ routes-same s net (λ n. (with_route link route n).routes) in
        record {
          table = table_of n.kind link;
          route = route;
          adds = ap₂ (λ (rules routes : List Request). rules ++ routes) (no-additions (rule_table s) (rule_table (changed s (command.RouteAdd net name prefix w))) same) (ap requests_of come);
          deletes = no-deletions (rule_table s) (rule_table (changed s (command.RouteAdd net name prefix w))) [] same;
          rules = same;
          not_own = not_own_table n.kind link;
          absent = table-absent s good.formed net link n it.there it.id it.has route (out-link link prefix w) absent;
          routes = λ m. ap (λ t. routes_in m (route_list t)) become ∙ route-comes s good.formed net link n it.there it.id it.has route m;
        }

route_goes : (s : StateView) (net : ℕ) (name : List ℕ) (prefix : Prefix) (special : Bool) → IsGood s → refusal s (command.RouteRemove net name prefix special) ≡ None → GivesUpOne s (command.RouteRemove net name prefix special)
route_goes s net name prefix special good accepted =
    let facts = unrefused s (command.RouteRemove net name prefix special) accepted in
    let at : Routed s net name = routed s net name facts.0 facts.1.1.0 in
    let there : has_key (routes_at s net at.link) (key_of at.link prefix special) ≡ true =
    not-false _ (sym (of_link-at s name (λ i. not (has_key (routes_at s net i) (key_of i prefix special))) at.link at.named) ∙ facts.1.1.1.0) in
    by at.n at.link at.named at.found (at_interface s net name at) (ap (λ rs. has_key rs (key_of at.link prefix special)) (sym (routes_at-at s net at.n at.found at.link)) ∙ there)
  where
    by : (n : Network) (link : ℕ) → link_named s name ≡ Some link → find_id net s.networks ≡ Some n → AtInterface s net link n
        → has_key (routes_by link n.routes) (key_of link prefix special) ≡ true → GivesUpOne s (command.RouteRemove net name prefix special)
    by n link named found it there =
        let key : Route = key_of link prefix special in
        let net_is : IsNetwork n = each-has IsNetwork s.networks n good.formed.networks.each it.there in
        let one : OneOfKey (routes_by link n.routes) key = one_of_key (routes_by link n.routes) key (net_is.keys_distinct link) there in
        let become : changed s (command.RouteRemove net name prefix special) ≡ with_net net (without_route link key) s =
        changed_by_link-at s name (λ i. with_net net (without_route i (key_of i prefix special))) link named in
        let gone : routes_gone s (command.RouteRemove net name prefix special) ≡ (table_of n.kind link, one.route) ∷ [] =
        of_interface-at s net link name n (λ n link. keyed_in n link (key_of link prefix special)) named found
        ∙ (keyed-routes n link key ∙ ap (map {B = ℕ × Route} (λ (r : Route). (table_of n.kind link, r))) one.alone) in
        let same : rule_table (changed s (command.RouteRemove net name prefix special)) ≡ rule_table s =
        ap rule_table become ∙ routes-same s net (λ n. (without_route link key n).routes) in
        record {
          table = table_of n.kind link;
          route = one.route;
          adds = append-nil _ ∙ no-additions (rule_table s) (rule_table (changed s (command.RouteRemove net name prefix special))) same;
          deletes = no-deletions (rule_table s) (rule_table (changed s (command.RouteRemove net name prefix special))) (routes_gone s (command.RouteRemove net name prefix special)) same ∙ ap requests_of gone;
          rules = same;
          not_own = not_own_table n.kind link;
          there = table-has s good.formed net link n it.there it.id it.has key (key-link link prefix special) one;
          routes = λ m. ap (λ t. routes_in m (route_list t)) become ∙ route-goes s good.formed net link n it.there it.id it.has key (key-link link prefix special) one m;
        }

-- tether pairs leave the routes
by-links : (s : StateView) (input out : List ℕ) (pairs : ℕ → ℕ → List TetherPair) → route_list (changed_by_links s input out (λ came goes t. record s { pairs = pairs came goes })) ≡ route_list s
by-links s input out pairs = by (link_named s input) (link_named s out)
  where
    by : (o p : Option ℕ) → route_list (elim o as (λ _. StateView) [ Some came ↦ elim p as (λ _. StateView) [ Some goes ↦ record s { pairs = pairs came goes } | None ↦ s ] | None ↦ s ]) ≡ route_list s
    by (Some came) (Some goes) = refl
    by (Some came) None = refl
    by None p = refl

-- commands by which interfaces leave

empty : {A : Type 0} (xs : List A) → ((x : A) → Has xs x → ⊥) → xs ≡ []
empty [] h = refl
empty (x ∷ xs) h = absurd (h x (inl refl))

-- the table of a route that belongs to an interface of a network that isn't local
link-table : (n : Network) (link : ℕ) (g : ℕ × Route) → is_local n.kind ≡ false → OfLink n link g → g.0 ≡ 1000 + link
link-table n link g away it = elim (is_local_table n.kind it.r.link) [
  | inl a ↦ absurd (false≢true (sym away ∙ a.0))
  | inr a ↦ ap (λ (e : ℕ × Route). e.0) it.is ∙ (a.1 ∙ ap (λ l. 1000 + l) it.link_is)
]

interface_goes : (s : StateView) (net : ℕ) (name : List ℕ) → IsGood s → refusal s (command.InterfaceRemove net name) ≡ None → Asks s (command.InterfaceRemove net name)
interface_goes s net name good accepted =
    let known = some_there (find_id net s.networks) (unrefused s (command.InterfaceRemove net name) accepted).0 in
    by-name (link_named s name) refl known.0 known.1
  where
    c : Command
    c = command.InterfaceRemove net name

    with_link_is : (link : ℕ) (n : Network) → link_named s name ≡ Some link → find_id net s.networks ≡ Some n → (b : Bool) → has_link n link ≡ b
        → changed s c ≡ (if b then after_link net link s else s)
    with_link_is link n named found b h =
        changed_by_link-at s name (λ link. without_interface net link) link named ∙ ap (λ b. if b then after_link net link s else s) (is_in-at s net n found link ∙ h)

    gone_at : (link : ℕ) (n : Network) → link_named s name ≡ Some link → find_id net s.networks ≡ Some n → (b : Bool) → is_local n.kind ≡ b → routes_gone s c ≡ (if b then [] else leaving_by n link)
    gone_at link n named found b local =
        of_interface-at s net link name n (λ n link. if is_local n.kind then [] else leaving_by n link) named found ∙ ap (λ (b : Bool). if b then [] else leaving_by n link) local

    first_at : (link : ℕ) (n : Network) → link_named s name ≡ Some link → find_id net s.networks ≡ Some n → (b : Bool) → is_local n.kind ≡ b → routes_first s c ≡ (if b then leaving_by n link else [])
    first_at link n named found b local =
        of_interface-at s net link name n (λ n link. if is_local n.kind then leaving_by n link else []) named found ∙ ap (λ (b : Bool). if b then leaving_by n link else []) local

    -- a link that is no interface of the network
    stays-out : (link : ℕ) (n : Network) → link_named s name ≡ Some link → (found : find_id net s.networks ≡ Some n) → has_link n link ≡ false → Asks s c
    stays-out link n named found out =
        let it : Found (λ (n : Network). net == n.id) s.networks n = of_find (λ (n : Network). net == n.id) s.networks n found in
        let none : leaving_by n link ≡ [] = empty (leaving_by n link) (λ g h.
        let from : OfLink n link g = of_leaving n link g h in
        let inside : Has n.interfaces link = subst (Has n.interfaces) from.link_is ((is-whole s good.formed).routes n from.r it.there from.there) in
        false≢true (sym out ∙ any-from (λ i. i == link) n.interfaces link inside (eqb-refl link))) in
        let local = is_local n.kind in
        only_rules s c refl
        (first_at link n named found local refl ∙ same local none) (gone_at link n named found local refl ∙ other local none)
        (ap route_list (with_link_is link n named found false out))
      where
        same : (b : Bool) → leaving_by n link ≡ [] → (if b then leaving_by n link else []) ≡ []
        same true none = none
        same false none = refl

        other : (b : Bool) → leaving_by n link ≡ [] → (if b then [] else leaving_by n link) ≡ []
        other true none = refl
        other false none = none

    leaves : (link : ℕ) (n : Network) → link_named s name ≡ Some link → (found : find_id net s.networks ≡ Some n) → has_link n link ≡ true → Asks s c
    leaves link n named found inside =
        let it : Found (λ (n : Network). net == n.id) s.networks n = of_find (λ (n : Network). net == n.id) s.networks n found in
        let id : n.id ≡ net = sym (eqb-true net n.id it.passes) in
        let is : changed s c ≡ after_link net link s = with_link_is link n named found true inside in
        let gone : AreGone s (changed s c) (leaving_by n link) = subst (λ t. AreGone s t (leaving_by n link)) (sym is) (link-gone s good.formed net link n it.there id) in
        elim (cases_Bool (is_local n.kind)) [
          | inl local ↦
              let none : additions (rule_table s) (rule_table (changed s c)) ≡ [] =
              ap (λ t. additions (rule_table s) (rule_table t)) is ∙ ap twins (local-adds s good.formed net link n it.there id (link-has n link inside) local) in
              Leaves (record {
                net = net;
                name = name;
                link = link;
                n = n;
                is = refl;
                named = named;
                found = found;
                local = local;
                has = inside;
                first = leaving_by n link;
                first_is = refl;
                none = none;
                adds = append-nil _ ∙ none;
                deletes = ap₂ (λ (before after : List (ℕ × Route)). requests_of before ++ deletions (rule_table s) (rule_table (changed s c)) after) (first_at link n named found true local) (gone_at link n named found true local);
                routes = gone;
              })
          | inr away ↦
              rules_and s c (leaving_by n link) refl (first_at link n named found false away) (gone_at link n named found false away) gone
              (subst (λ t. AreUnused (leaving_by n link) (own_rule ∷ rule_table t)) (sym is) (tables-unused (after_link net link s) (leaving_by n link) (λ g h.
              (link, link-forgotten s good.formed net n it.there id link (link-has n link inside), link-table n link g away (of_leaving n link g h)))))
        ]

    by-link : (link : ℕ) (n : Network) → link_named s name ≡ Some link → find_id net s.networks ≡ Some n → Asks s c
    by-link link n named found = elim (cases_Bool (has_link n link)) [ inl inside ↦ leaves link n named found inside | inr out ↦ stays-out link n named found out ]

    nameless : (o : Option ℕ) → o ≡ None → (routes : Network → ℕ → List (ℕ × Route))
        → (elim o as (λ _. List (ℕ × Route)) [ Some link ↦ elim (find_id net s.networks) as (λ _. List (ℕ × Route)) [ Some n ↦ routes n link | None ↦ [] ] | None ↦ [] ]) ≡ []
    nameless None is routes = refl
    nameless (Some link) is routes = absurd cc

    by-name : (o : Option ℕ) → link_named s name ≡ o → (n : Network) → find_id net s.networks ≡ Some n → Asks s c
    by-name None named n found =
        only_rules s c refl (nameless (link_named s name) named (λ n link. if is_local n.kind then leaving_by n link else [])) (nameless (link_named s name) named (λ n link. if is_local n.kind then [] else leaving_by n link))
        (ap (λ (o : Option ℕ). route_list (elim o as (λ _. StateView) [ Some link ↦ without_interface net link s | None ↦ s ])) named)
    by-name (Some link) named n found = by-link link n named found

network_goes : (s : StateView) (net : ℕ) → IsGood s → refusal s (command.Destroy net) ≡ None → Asks s (command.Destroy net)
network_goes s net good accepted =
    let facts = unrefused s (command.Destroy net) accepted in
    let known = some_there (find_id net s.networks) facts.1.0 in
    by known.0 known.1 facts.0
  where
    by : (n : Network) → find_id net s.networks ≡ Some n → (net == local_id) ≡ false → Asks s (command.Destroy net)
    by n found created =
        let it : Found (λ (n : Network). net == n.id) s.networks n = of_find (λ (n : Network). net == n.id) s.networks n found in
        let id : n.id ≡ net = sym (eqb-true net n.id it.passes) in
        let whole : StartsLocal s.networks = good.formed.networks.local_first in
        let away : is_local n.kind ≡ false = elim (subst (λ ns. Has ns n) whole.first it.there) [
          | inl e ↦ absurd (false≢true (sym created ∙ eq-eqb net local_id (sym id ∙ (sym (ap (λ (m : Network). m.id) e) ∙ whole.id_is))))
          | inr t ↦ not-true (is_local n.kind) (and_parts (not (is_local n.kind)) (nat_le 100 n.id) (all-has (λ (m : Network). not (is_local m.kind) && nat_le 100 m.id) whole.others n whole.others_created t)).0
        ] in
        rules_and s (command.Destroy net) (flat_map (leaving_by n) n.interfaces) refl refl
        (ap (λ (o : Option Network). elim o as (λ _. List (ℕ × Route)) [ Some m ↦ flat_map (leaving_by m) m.interfaces | None ↦ [] ]) found)
        (net-gone s good.formed net n it.there id)
        (tables-unused (without_net net s) (flat_map (leaving_by n) n.interfaces) (λ g h.
        let from : OfFlat (leaving_by n) n.interfaces g = of_flat (leaving_by n) n.interfaces g h in
        (from.one, net-forgotten s good.formed net n it.there id from.one from.there found, link-table n from.one g away (of_leaving n from.one g from.has))))

pub asks : (s : StateView) (c : Command) → IsGood s → refusal s c ≡ None → Asks s c
asks s (command.LinkAdd name index) good accepted = only_rules s (command.LinkAdd name index) refl refl refl refl
asks s (command.LinkRemove name) good accepted = only_rules s (command.LinkRemove name) refl refl refl refl
asks s (command.CreatePhysical net permission) good accepted = only_rules s (command.CreatePhysical net permission) refl refl refl (network-routes s net (kind.Physical permission []))
asks s (command.CreateVirtual net secure) good accepted = only_rules s (command.CreateVirtual net secure) refl refl refl (network-routes s net (kind.Virtual secure []))
asks s (command.Destroy net) good accepted = network_goes s net good accepted
asks s (command.InterfaceAdd net name) good accepted = only_rules s (command.InterfaceAdd net name) refl refl refl (by (link_named s name))
  where
    by : (o : Option ℕ) → route_list (elim o as (λ _. StateView) [ Some link ↦ with_net net (with_link link) s | None ↦ s ]) ≡ route_list s
    by (Some link) = routes-kept net (with_link link) (with_link-routes link) s.networks
    by None = refl
asks s (command.InterfaceRemove net name) good accepted = interface_goes s net name good accepted
asks s (command.RouteAdd net name prefix w) good accepted = Comes (route_comes s net name prefix w good accepted)
asks s (command.RouteRemove net name prefix special) good accepted = Goes (route_goes s net name prefix special good accepted)
asks s (command.UsersAdd net rank ranges) good accepted =
    only_rules s (command.UsersAdd net rank ranges) refl refl refl (routes-kept net (with_ranges rank ranges) (with_ranges-routes rank ranges) s.networks)
asks s (command.UsersRemove net ranges) good accepted =
    only_rules s (command.UsersRemove net ranges) refl refl refl (routes-kept net (without_ranges ranges) (without_ranges-routes ranges) s.networks)
asks s (command.AppAdd net rank ranges) good accepted =
    only_rules s (command.AppAdd net rank ranges) refl refl refl (routes-kept net (with_ranges rank ranges) (with_ranges-routes rank ranges) s.networks)
asks s (command.AppRemove net ranges) good accepted =
    only_rules s (command.AppRemove net ranges) refl refl refl (routes-kept net (without_ranges ranges) (without_ranges-routes ranges) s.networks)
asks s (command.DefaultSet net) good accepted = only_rules s (command.DefaultSet net) refl refl refl refl
asks s command.DefaultClear good accepted = only_rules s command.DefaultClear refl refl refl refl
asks s (command.PermissionNetwork net permission) good accepted =
    only_rules s (command.PermissionNetwork net permission) refl refl refl
    (routes-kept net (with_permission permission) (with_permission-routes permission) s.networks)
asks s (command.PermissionUser uid permission) good accepted = only_rules s (command.PermissionUser uid permission) refl refl refl refl
asks s (command.PermissionClear uid) good accepted = only_rules s (command.PermissionClear uid) refl refl refl refl
asks s (command.ProtectAllow uid) good accepted = only_rules s (command.ProtectAllow uid) refl refl refl (by (is_protectable s uid))
  where
    by : (b : Bool) → route_list (if b then s else record s { protectable = s.protectable ++ uid ∷ [] }) ≡ route_list s
    by true = refl
    by false = refl
asks s (command.ProtectDeny uid) good accepted = only_rules s (command.ProtectDeny uid) refl refl refl refl
asks s (command.LockdownAdd range) good accepted = only_rules s (command.LockdownAdd range) refl refl refl refl
asks s (command.LockdownRemove range) good accepted = only_rules s (command.LockdownRemove range) refl refl refl refl
asks s (command.TetherAdd input out) good accepted =
    only_rules s (command.TetherAdd input out) refl refl refl (by-links s input out (λ came goes. s.pairs ++ record { input = came; out = goes } ∷ []))
asks s (command.TetherRemove input out) good accepted =
    only_rules s (command.TetherRemove input out) refl refl refl (by-links s input out (λ came goes. filter (λ p. not (is_pair (record { input = came; out = goes }) p)) s.pairs))

-- a route's command leaves the rules, whatever is refused

route_add-table : (s : StateView) (net : ℕ) (name : List ℕ) (prefix : Prefix) (w : Way) → rule_table (changed s (command.RouteAdd net name prefix w)) ≡ rule_table s
route_add-table s net name prefix w = by (link_named s name)
  where
    by : (o : Option ℕ) → rule_table (elim o as (λ _. StateView) [ Some link ↦ with_net net (with_route link (route_of link prefix w)) s | None ↦ s ]) ≡ rule_table s
    by (Some link) = routes-same s net (λ n. (with_route link (route_of link prefix w) n).routes)
    by None = refl

route_remove-table : (s : StateView) (net : ℕ) (name : List ℕ) (prefix : Prefix) (special : Bool) → rule_table (changed s (command.RouteRemove net name prefix special)) ≡ rule_table s
route_remove-table s net name prefix special = by (link_named s name)
  where
    by : (o : Option ℕ) → rule_table (elim o as (λ _. StateView) [ Some link ↦ with_net net (without_route link (key_of link prefix special)) s | None ↦ s ]) ≡ rule_table s
    by (Some link) = routes-same s net (λ n. (without_route link (key_of link prefix special) n).routes)
    by None = refl

pub same_plan : (adds deletes more less : List Request) → adds ≡ more → deletes ≡ less → ◌≡◌ {A = PlanView} (record { adds = adds; deletes = deletes }) (record { adds = more; deletes = less })
same_plan adds deletes more less a b = λ i. record { adds = a i; deletes = b i }

pub asked-come : (s : StateView) (net : ℕ) (name : List ℕ) (prefix : Prefix) (w : Way)
    → asked s (command.RouteAdd net name prefix w) ≡ record { adds = requests_of (routes_come s (command.RouteAdd net name prefix w)); deletes = [] }
asked-come s net name prefix w =
    let c : Command = command.RouteAdd net name prefix w in
    same_plan (asked_adds s c) (asked_deletes s c) (requests_of (routes_come s c)) []
    (ap (λ rules. rules ++ requests_of (routes_come s c)) (no-additions (rule_table s) (rule_table (changed s c)) (route_add-table s net name prefix w)))
    (no-deletions (rule_table s) (rule_table (changed s c)) [] (route_add-table s net name prefix w))

pub asked-gone : (s : StateView) (net : ℕ) (name : List ℕ) (prefix : Prefix) (special : Bool)
    → asked s (command.RouteRemove net name prefix special) ≡ record { adds = []; deletes = requests_of (routes_gone s (command.RouteRemove net name prefix special)) }
asked-gone s net name prefix special =
    let c : Command = command.RouteRemove net name prefix special in
    same_plan (asked_adds s c) (asked_deletes s c) [] (requests_of (routes_gone s c))
    (append-nil (additions (rule_table s) (rule_table (changed s c))) ∙ no-additions (rule_table s) (rule_table (changed s c)) (route_remove-table s net name prefix special))
    (no-deletions (rule_table s) (rule_table (changed s c)) (routes_gone s c) (route_remove-table s net name prefix special))

-- what the other commands ask
pub asked-by : (s t : StateView) (c : Command) (first last : List Request) → t ≡ changed s c → routes_come s c ≡ [] → first ≡ requests_of (routes_first s c) → last ≡ requests_of (routes_gone s c)
    → ◌≡◌ {A = PlanView} (record { adds = additions (rule_table s) (rule_table t); deletes = first ++ (reverse (twins (beyond rule_kind (rule_table t) (rule_table s))) ++ last) }) (asked s c)
asked-by s t c first last after none before behind =
    let old : List Rule = rule_table s in
    same_plan (additions old (rule_table t)) (first ++ (reverse (twins (beyond rule_kind (rule_table t) old)) ++ last)) (asked_adds s c) (asked_deletes s c)
    (ap (λ u. additions old (rule_table u)) after ∙ sym (ap (λ rs. additions old (rule_table (changed s c)) ++ requests_of rs) none ∙ append-nil (additions old (rule_table (changed s c)))))
    (ap (λ u. first ++ (reverse (twins (beyond rule_kind (rule_table u) old)) ++ last)) after
    ∙ ap₂ (λ (xs ys : List Request). xs ++ (reverse (twins (beyond rule_kind (rule_table (changed s c)) old)) ++ ys)) before behind)

-- the commands that change rules alone
pub no-routes : (s : StateView) (c : Command)
    → ((net : ℕ) (name : List ℕ) (prefix : Prefix) (w : Way) → c ≡ command.RouteAdd net name prefix w → ⊥)
    → ((net : ℕ) (name : List ℕ) (prefix : Prefix) (special : Bool) → c ≡ command.RouteRemove net name prefix special → ⊥)
    → ((net : ℕ) (name : List ℕ) → c ≡ command.InterfaceRemove net name → ⊥) → ((net : ℕ) → c ≡ command.Destroy net → ⊥)
    → (routes_come s c ≡ []) × (routes_first s c ≡ []) × (routes_gone s c ≡ [])
no-routes s c no_add no_remove no_interface no_destroy = by c refl
  where
    by : (d : Command) → c ≡ d → (routes_come s d ≡ []) × (routes_first s d ≡ []) × (routes_gone s d ≡ [])
    by (command.LinkAdd name index) is = (refl, refl, refl)
    by (command.LinkRemove name) is = (refl, refl, refl)
    by (command.CreatePhysical net permission) is = (refl, refl, refl)
    by (command.CreateVirtual net secure) is = (refl, refl, refl)
    by (command.Destroy net) is = absurd (no_destroy net is)
    by (command.InterfaceAdd net name) is = (refl, refl, refl)
    by (command.InterfaceRemove net name) is = absurd (no_interface net name is)
    by (command.RouteAdd net name prefix w) is = absurd (no_add net name prefix w is)
    by (command.RouteRemove net name prefix special) is = absurd (no_remove net name prefix special is)
    by (command.UsersAdd net rank ranges) is = (refl, refl, refl)
    by (command.UsersRemove net ranges) is = (refl, refl, refl)
    by (command.AppAdd net rank ranges) is = (refl, refl, refl)
    by (command.AppRemove net ranges) is = (refl, refl, refl)
    by (command.DefaultSet net) is = (refl, refl, refl)
    by command.DefaultClear is = (refl, refl, refl)
    by (command.PermissionNetwork net permission) is = (refl, refl, refl)
    by (command.PermissionUser uid permission) is = (refl, refl, refl)
    by (command.PermissionClear uid) is = (refl, refl, refl)
    by (command.ProtectAllow uid) is = (refl, refl, refl)
    by (command.ProtectDeny uid) is = (refl, refl, refl)
    by (command.LockdownAdd range) is = (refl, refl, refl)
    by (command.LockdownRemove range) is = (refl, refl, refl)
    by (command.TetherAdd input out) is = (refl, refl, refl)
    by (command.TetherRemove input out) is = (refl, refl, refl)
