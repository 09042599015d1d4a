-- The routes of each table as a route comes to an interface or goes from it.
use Rattle.std.proofs.Common.{◌≡◌, ◌==◌, ◌&&◌, ◌∷◌, [], ◌++◌, ℕ, List, Bool, true, false, cond, not, Some, None, refl, sym, ◌∙◌, ap, ap₂, subst, inl, inr, map, filter, arith}
use Rattle.std.specs.Prelude.{flat_map, ◌⊎◌, ◌+◌, if◌then◌else◌}
use Rattle.std.specs.List.{list_any}
use Rattle.std.proofs.lemmas.Bool.{cases_Bool, false≢true, false_from_ne_true, and_parts, or_right, not-true, eqb-true, eq-eqb}
use Rattle.std.proofs.lemmas.List.{map-append, append-nil}
use Rattle.std.proofs.lemmas.Grind.{flat_map-append}
use Rattle.list_lemmas.proofs.Numbers.{eqb-refl}
use Rattle.fib_table.proofs.Tables.{routes_in-append}
use Rattle.list_lemmas.proofs.Anys.{filter-none, filter-others, none-weaker}
use Rattle.fib_table.specs.Table as fib
use Rattle.fib_table.specs.Table.{has_key, has_route, are_keys_distinct, routes_in}
use Rattle.networks.specs.Kinds.{is_local}
use Rattle.networks.specs.Network.{routes_by, is_keyed_by}
use Rattle.networks.specs.declared.kind.Kind.{Kind}
use Rattle.networks.specs.declared.kind.Kind.TheVariants as kind
use Rattle.networks.specs.declared.network.LinkRoute.{LinkRoute}
use Rattle.networks.specs.declared.network.Network.{Network}
use Rattle.prefixes.specs.Route.{link_of, same_key, same_route}
use Rattle.prefixes.specs.declared.route.Route.{Route}
use Rattle.prefixes.proofs.Sames.{same_key-true, same_key-refl, same_route-true, same_route-refl}
use Rattle.policy_state.specs.Good.{IsWellFormed}
use Rattle.policy_state.specs.Step.{with_net, with_route, without_route}
use Rattle.policy_state.specs.Table.{table_of, routes_of_net, route_list}
use Rattle.policy_state.specs.View.{StateView}
use Rattle.policy_state.proofs.GoodStates.{is-good, are-once, is-whole}
use Rattle.policy_state.proofs.Owners.{Has, Once, IsOwned, IsWhole, owners_of, Passing, of_any, any-from, OfMap, of_map}
use Rattle.policy_state.proofs.RowItems.{has_front, has_behind, has_map}
use Rattle.rule_compile.specs.Asked.{keyed_in}

-- a route and its key

same_key-both : (x key y : Route) → same_key x key ≡ true → same_key y x ≡ same_key y key
same_key-both x key y same = let parts = same_key-true x key same in rw (parts.0, parts.1) refl

unlike_key : (x y : Route) → same_key x y ≡ false → same_route x y ≡ false
unlike_key x y other = false_from_ne_true (same_route x y) (λ same. false≢true (sym other ∙ (ap (λ r. same_key r y) (same_route-true x y same) ∙ same_key-refl y)))

-- the only route of a key, and the list without it
pub record OneOfKey (routes : List Route) (key : Route) : Type 0 where
  pub route : Route
  pub keyed : same_key route key ≡ true
  pub there : has_route routes route ≡ true
  pub alone : filter (λ x. same_key x key) routes ≡ route ∷ []
  pub others : filter (λ x. not (same_key x key)) routes ≡ fib.without_route routes route

pub one_of_key : (routes : List Route) (key : Route) → are_keys_distinct routes ≡ true → has_key routes key ≡ true → OneOfKey routes key
one_of_key [] key distinct there = absurd (false≢true there)
one_of_key (x ∷ xs) key distinct there =
    by (cases_Bool (same_key x key)) (one_of_key xs key parts.1)
  where
    parts : (not (has_key xs x) ≡ true) × (are_keys_distinct xs ≡ true)
    parts = and_parts (not (has_key xs x)) (are_keys_distinct xs) distinct

    by : (same_key x key ≡ true) ⊎ (same_key x key ≡ false) → (has_key xs key ≡ true → OneOfKey xs key) → OneOfKey (x ∷ xs) key
    by (inl here) rest =
        let no_key : has_key xs x ≡ false = not-true (has_key xs x) parts.0 in
        let none : list_any (λ y. same_key y key) xs ≡ false = none-weaker (λ y. same_key y key) (λ y. same_key y x) (λ y other. sym (same_key-both x key y here) ∙ other) xs no_key in
        let apart : list_any (λ y. same_route y x) xs ≡ false = none-weaker (λ y. same_route y x) (λ y. same_key y x) (λ y other. unlike_key y x other) xs no_key in
        record {
          route = x;
          keyed = here;
          there = rw (same_route-refl x) refl;
          alone = rw here (ap (λ ys. x ∷ ys) (filter-none (λ y. same_key y key) xs none));
          others = rw (here, same_route-refl x) (filter-others (λ y. same_key y key) xs none ∙ sym (filter-others (λ y. same_route y x) xs apart));
        }
    by (inr other) rest =
        let it : OneOfKey xs key = rest (rw other at there) in
        let apart : same_route x it.route ≡ false = false_from_ne_true (same_route x it.route) (λ same.
        false≢true (sym other ∙ (ap (λ r. same_key r key) (same_route-true x it.route same) ∙ it.keyed))) in
        record {
          route = it.route;
          keyed = it.keyed;
          there = or_right (same_route x it.route) (has_route xs it.route) it.there;
          alone = rw other it.alone;
          others = rw (other, apart) (ap (λ ys. x ∷ ys) it.others);
        }

-- members of lists that are filtered

pub of_filter : {A : Type 0} (p : A → Bool) (xs : List A) (x : A) → Has (filter p xs) x → Has xs x × (p x ≡ true)
of_filter p [] x h = absurd h
of_filter {A = A} p (y ∷ ys) x h = elim (cases_Bool (p y)) [
  | inl e ↦ first e (of_filter p ys x) (subst (λ (b : Bool). Has (cond b (y ∷ filter p ys) (filter p ys)) x) e h)
  | inr e ↦ let rest = of_filter p ys x (subst (λ (b : Bool). Has (cond b (y ∷ filter p ys) (filter p ys)) x) e h) in (inr rest.0, rest.1)
]
  where
    first : p y ≡ true → (Has (filter p ys) x → Has ys x × (p x ≡ true)) → Has (y ∷ filter p ys) x → Has (y ∷ ys) x × (p x ≡ true)
    first e others (inl same) = (inl same, subst (λ (z : A). p z ≡ true) same e)
    first e others (inr t) = let rest = others t in (inr rest.0, rest.1)

pub has_filtered : {A : Type 0} (p : A → Bool) (xs : List A) (x : A) → Has xs x → p x ≡ true → Has (filter p xs) x
has_filtered p [] x h e = absurd h
has_filtered {A = A} p (y ∷ ys) x (inl same) e = rw (ap p same ∙ e) (inl same)
has_filtered p (y ∷ ys) x (inr t) e = by (p y) (has_filtered p ys x t e)
  where
    by : (b : Bool) → Has (filter p ys) x → Has (cond b (y ∷ filter p ys) (filter p ys)) x
    by true rest = inr rest
    by false rest = rest

pub in_by : (link : ℕ) (rs : List LinkRoute) (r : LinkRoute) → Has rs r → r.link ≡ link → Has (routes_by link rs) r.route
in_by link rs r h is = has_map (λ (r : LinkRoute). r.route) (filter (λ (r : LinkRoute). r.link == link) rs) r (has_filtered (λ (r : LinkRoute). r.link == link) rs r h (eq-eqb r.link link is))

-- tables of networks

pub is_local_table : (k : Kind) (link : ℕ) → ((is_local k ≡ true) × (table_of k link ≡ 97)) ⊎ ((is_local k ≡ false) × (table_of k link ≡ 1000 + link))
is_local_table kind.Local link = inl (refl, refl)
is_local_table (kind.Physical permission apps) link = inr (refl, refl)
is_local_table (kind.Virtual secure users) link = inr (refl, refl)

none_in : (t : ℕ) (k : Kind) (rs : List LinkRoute) → ((r : LinkRoute) → Has rs r → (table_of k r.link == t) ≡ false) → routes_in t (map (λ (r : LinkRoute). (table_of k r.link, r.route)) rs) ≡ []
none_in t k [] h = refl
none_in t k (r ∷ rs) h = rw (h r (inl refl)) (none_in t k rs (λ q g. h q (inr g)))

elsewhere : (t : ℕ) (ns : List Network) → ((m : Network) (r : LinkRoute) → Has ns m → Has m.routes r → (table_of m.kind r.link == t) ≡ false) → routes_in t (flat_map routes_of_net ns) ≡ []
elsewhere t [] h = refl
elsewhere t (n ∷ ns) h =
    routes_in-append t (routes_of_net n) (flat_map routes_of_net ns)
    ∙ ap₂ (λ (one others : List Route). one ++ others) (none_in t n.kind n.routes (λ r g. h n r (inl refl) g)) (elsewhere t ns (λ m r g i. h m r (inr g) i))

in-around : (m : ℕ) (before behind : List Network) (n : Network) → routes_in m (flat_map routes_of_net (before ++ n ∷ behind))
    ≡ routes_in m (flat_map routes_of_net before) ++ (routes_in m (routes_of_net n) ++ routes_in m (flat_map routes_of_net behind))
in-around m before behind n =
    ap (routes_in m) (flat_map-append routes_of_net before (n ∷ behind))
    ∙ (routes_in-append m (flat_map routes_of_net before) (routes_of_net n ++ flat_map routes_of_net behind)
    ∙ ap (λ rest. routes_in m (flat_map routes_of_net before) ++ rest) (routes_in-append m (routes_of_net n) (flat_map routes_of_net behind)))

-- a network among the others
record Among (ns : List Network) (n : Network) : Type 0 where
  before : List Network
  behind : List Network
  is : ns ≡ before ++ n ∷ behind
  not_before : (m : Network) → Has before m → m ≡ n → ⊥
  not_behind : (m : Network) → Has behind m → m ≡ n → ⊥

among : (ns : List Network) (n : Network) → Has ns n → Once ns → Among ns n
among [] n h once = absurd h
among (x ∷ xs) n (inl e) once = record {
  before = [];
  behind = xs;
  is = ap (λ y. y ∷ xs) e;
  not_before = λ m h same. h;
  not_behind = λ m h same. once.0 (subst (λ y. Has xs y) (same ∙ sym e) h);
}
among (x ∷ xs) n (inr t) once =
    let rest : Among xs n = among xs n t once.1 in
    record {
      before = x ∷ rest.before;
      behind = rest.behind;
      is = ap (λ ys. x ∷ ys) rest.is;
      not_before = λ m h same. first m rest h same;
      not_behind = rest.not_behind;
    }
  where
    first : (m : Network) (rest : Among xs n) → Has (x ∷ rest.before) m → m ≡ n → ⊥
    first m rest (inl e) same = once.0 (subst (λ y. Has xs y) (sym (e ∙ same)) t)
    first m rest (inr g) same = rest.not_before m g same

-- A network and its interface, in a good state.
module _ (s : StateView) (good : IsWellFormed s) (net link : ℕ) (n : Network) (there : Has s.networks n) (id : n.id ≡ net) (has : Has n.interfaces link) where
  own : IsOwned (owners_of s) s
  own = is-good s good

  abbrev table : ℕ
  table = table_of n.kind link

  one_local : (m : Network) → Has s.networks m → is_local m.kind ≡ true → is_local n.kind ≡ true → m ≡ n
  one_local m in_m local_m local_n =
      let whole : IsWhole s = is-whole s good in
      first whole m in_m local_m ∙ sym (first whole n there local_n)
    where
      first : (whole : IsWhole s) (m : Network) → Has s.networks m → is_local m.kind ≡ true → m ≡ whole.local
      first whole m in_m local = elim (subst (λ ns. Has ns m) whole.first in_m) [
        | inl e ↦ sym e
        | inr t ↦ absurd (false≢true (sym (whole.not_local m t) ∙ local))
      ]

  -- no other network has a route in its table
  away : (m : Network) (r : LinkRoute) → Has s.networks m → Has m.routes r → (m ≡ n → ⊥) → (table_of m.kind r.link == table) ≡ false
  away m r in_m in_r other = false_from_ne_true (table_of m.kind r.link == table) (λ e.
      let same : table_of m.kind r.link ≡ table = eqb-true (table_of m.kind r.link) table e in
      elim (is_local_table m.kind r.link) [
        | inl a ↦ elim (is_local_table n.kind link) [
          | inl b ↦ other (one_local m in_m a.0 b.0)
          | inr b ↦ omega (arith, a.1, b.1, same)
        ]
        | inr a ↦ elim (is_local_table n.kind link) [
          | inl b ↦ omega (arith, a.1, b.1, same)
          | inr b ↦
              let links : r.link ≡ link = omega (arith, a.1, b.1, same) in
              let has_m : Has m.interfaces r.link = (is-whole s good).routes m r in_m in_r in
              let ids : m.id ≡ n.id = sym ((own.owns m in_m).links r.link has_m) ∙ (ap (owners_of s).of_link links ∙ (own.owns n there).links link has) in
              other (own.one_id m n in_m there ids)
        ]
      ])

  it : Among s.networks n
  it = among s.networks n there (are-once s good).networks

  in_before : (m : Network) → Has it.before m → Has s.networks m
  in_before m h = subst (λ ns. Has ns m) (sym it.is) (has_front it.before (n ∷ it.behind) m h)

  in_behind : (m : Network) → Has it.behind m → Has s.networks m
  in_behind m h = subst (λ ns. Has ns m) (sym it.is) (has_behind it.before (n ∷ it.behind) m (inr h))

  none_before : routes_in table (flat_map routes_of_net it.before) ≡ []
  none_before = elsewhere table it.before (λ m r h g. away m r (in_before m h) g (it.not_before m h))

  none_behind : routes_in table (flat_map routes_of_net it.behind) ≡ []
  none_behind = elsewhere table it.behind (λ m r h g. away m r (in_behind m h) g (it.not_behind m h))

  around : (m : Network) → routes_in table (flat_map routes_of_net (it.before ++ m ∷ it.behind)) ≡ routes_in table (routes_of_net m)
  around m =
      in-around table it.before it.behind m
      ∙ (ap₂ (λ (one other : List Route). one ++ (routes_in table (routes_of_net m) ++ other)) none_before none_behind ∙ append-nil (routes_in table (routes_of_net m)))

  -- the table has the routes of its network alone
  pub table-at : routes_in table (route_list s) ≡ routes_in table (routes_of_net n)
  table-at = ap (λ ns. routes_in table (flat_map routes_of_net ns)) it.is ∙ around n

  module _ (change : Network → Network) where
    stays : (ns : List Network) → ((m : Network) → Has ns m → Has s.networks m) → ((m : Network) → Has ns m → m ≡ n → ⊥) → map (λ m. if net == m.id then change m else m) ns ≡ ns
    stays [] inside others = refl
    stays (m ∷ ns) inside others =
        let apart : (net == m.id) ≡ false = false_from_ne_true (net == m.id) (λ e. others m (inl refl) (own.one_id m n (inside m (inl refl)) there (sym (eqb-true net m.id e) ∙ sym id))) in
        rw apart (ap (λ ms. m ∷ ms) (stays ns (λ k h. inside k (inr h)) (λ k h. others k (inr h))))

    changes : map (λ m. if net == m.id then change m else m) s.networks ≡ it.before ++ change n ∷ it.behind
    changes =
        ap (map (λ m. if net == m.id then change m else m)) it.is
        ∙ (map-append (λ m. if net == m.id then change m else m) it.before (n ∷ it.behind)
        ∙ ap₂ (λ (xs ys : List Network). xs ++ ys) (stays it.before in_before it.not_before)
        (ap₂ (λ (x : Network) (xs : List Network). x ∷ xs) (ap (λ b. if b then change n else n) (eq-eqb net n.id (sym id))) (stays it.behind in_behind it.not_behind)))

    -- a change of the network that changes its table alone
    changed-in : (by : List Route → List Route) → routes_in table (routes_of_net (change n)) ≡ by (routes_in table (routes_of_net n))
        → ((t : ℕ) → (table == t) ≡ false → routes_in t (routes_of_net (change n)) ≡ routes_in t (routes_of_net n))
        → (t : ℕ) → routes_in t (route_list (with_net net change s)) ≡ (if table == t then by (routes_in t (route_list s)) else routes_in t (route_list s))
    changed-in by here away t = ap (λ ns. routes_in t (flat_map routes_of_net ns)) changes ∙ elim (cases_Bool (table == t)) [
      | inl same ↦
          let is : table ≡ t = eqb-true table t same in
          rw same (subst (λ u. routes_in u (flat_map routes_of_net (it.before ++ change n ∷ it.behind)) ≡ by (routes_in u (route_list s))) is
          (around (change n) ∙ (here ∙ ap by (sym table-at))))
      | inr other ↦
          rw other (in-around t it.before it.behind (change n)
          ∙ (ap (λ rs. routes_in t (flat_map routes_of_net it.before) ++ (rs ++ routes_in t (flat_map routes_of_net it.behind))) (away t other)
          ∙ (sym (in-around t it.before it.behind n) ∙ ap (λ ns. routes_in t (flat_map routes_of_net ns)) (sym it.is))))
    ]

  -- a route comes

  in-comes : (t : ℕ) (route : Route) → routes_in t (routes_of_net (with_route link route n)) ≡ routes_in t (routes_of_net n) ++ cond (table == t) (route ∷ []) []
  in-comes t route =
      ap (routes_in t) (map-append (λ (r : LinkRoute). (table_of n.kind r.link, r.route)) n.routes (record { link = link; route = route } ∷ []))
      ∙ (routes_in-append t (routes_of_net n) ((table, route) ∷ []) ∙ ap (λ rest. routes_in t (routes_of_net n) ++ rest) (one (table == t)))
    where
      one : (b : Bool) → map (λ (r : ℕ × Route). r.1) (cond b ((table, route) ∷ []) []) ≡ cond b (route ∷ []) []
      one true = refl
      one false = refl

  pub route-comes : (route : Route) (t : ℕ) → routes_in t (route_list (with_net net (with_route link route) s))
      ≡ (if table == t then routes_in t (route_list s) ++ route ∷ [] else routes_in t (route_list s))
  route-comes route =
      changed-in (with_route link route) (λ rs. rs ++ route ∷ [])
      (in-comes table route ∙ rw (eqb-refl table) refl)
      (λ t other. in-comes t route ∙ rw other (append-nil (routes_in t (routes_of_net n))))

  -- routes of one key in the table are by one link

  -- special routes have no link
  module _ (key : Route) (by_link : (link_of key.out ≡ None) ⊎ (link_of key.out ≡ Some link)) where
    key-link : (r : LinkRoute) → Has n.routes r → table_of n.kind r.link ≡ table → same_key r.route key ≡ true → r.link ≡ link
    key-link r in_r same keyed = elim (is_local_table n.kind r.link) [
      | inl a ↦
          let out : link_of r.route.out ≡ Some r.link = local-out (is-whole s good) a.0 in
          let is : link_of key.out ≡ Some r.link = sym (same_key-true r.route key keyed).1 ∙ out in
          elim by_link [ inl none ↦ absurd cc | inr some ↦ cc ]
      | inr a ↦ elim (is_local_table n.kind link) [
        | inl b ↦ absurd (false≢true (sym a.0 ∙ b.0))
        | inr b ↦ omega (arith, a.1, b.1, same)
      ]
    ]
      where
        local-out : (whole : IsWhole s) → is_local n.kind ≡ true → link_of r.route.out ≡ Some r.link
        local-out whole local = elim (subst (λ ns. Has ns n) whole.first there) [
          | inl e ↦ whole.local_routes r (subst (λ (m : Network). Has m.routes r) (sym e) in_r)
          | inr t ↦ absurd (false≢true (sym (whole.not_local n t) ∙ local))
        ]

    of_table : (x : Route) → Has (routes_in table (routes_of_net n)) x → (r : LinkRoute) × Has n.routes r × (table_of n.kind r.link ≡ table) × (x ≡ r.route)
    of_table x h =
        let one : OfMap (λ (e : ℕ × Route). e.1) (filter (λ (e : ℕ × Route). e.0 == table) (routes_of_net n)) x =
        of_map (λ (e : ℕ × Route). e.1) (filter (λ (e : ℕ × Route). e.0 == table) (routes_of_net n)) x h in
        let two = of_filter (λ (e : ℕ × Route). e.0 == table) (routes_of_net n) one.one one.there in
        let three : OfMap (λ (r : LinkRoute). (table_of n.kind r.link, r.route)) n.routes one.one = of_map (λ (r : LinkRoute). (table_of n.kind r.link, r.route)) n.routes one.one two.0 in
        (three.one, three.there, sym (ap (λ (e : ℕ × Route). e.0) three.is) ∙ eqb-true one.one.0 table two.1, one.is ∙ ap (λ (e : ℕ × Route). e.1) three.is)

    -- a key that the interface's routes lack is lacking in the table
    pub table-absent : has_key (routes_by link n.routes) key ≡ false → has_key (routes_in table (route_list s)) key ≡ false
    table-absent absent = ap (λ rs. has_key rs key) table-at ∙ false_from_ne_true (has_key (routes_in table (routes_of_net n)) key) (λ h.
        let one : Passing (λ x. same_key x key) (routes_in table (routes_of_net n)) = of_any (λ x. same_key x key) (routes_in table (routes_of_net n)) h in
        let at = of_table one.one one.there in
        let keyed : same_key at.0.route key ≡ true = sym (ap (λ (x : Route). same_key x key) at.3) ∙ one.passes in
        false≢true (sym absent ∙ any-from (λ x. same_key x key) (routes_by link n.routes) at.0.route (in_by link n.routes at.0 at.1 (key-link at.0 at.1 at.2 keyed)) keyed))

    module _ (one : OneOfKey (routes_by link n.routes) key) where
      only : (r : LinkRoute) → Has n.routes r → r.link ≡ link → same_key r.route key ≡ true → r.route ≡ one.route
      only r in_r is keyed = elim (subst (λ (rs : List Route). Has rs r.route) one.alone (has_filtered (λ x. same_key x key) (routes_by link n.routes) r.route (in_by link n.routes r in_r is) keyed)) [
        | inl e ↦ sym e
        | inr f ↦ absurd f
      ]

      pub table-has : has_route (routes_in table (route_list s)) one.route ≡ true
      table-has =
          let first : Has (filter (λ x. same_key x key) (routes_by link n.routes)) one.route = subst (λ (rs : List Route). Has rs one.route) (sym one.alone) (inl refl) in
          let by : OfMap (λ (r : LinkRoute). r.route) (filter (λ (r : LinkRoute). r.link == link) n.routes) one.route =
          of_map (λ (r : LinkRoute). r.route) (filter (λ (r : LinkRoute). r.link == link) n.routes) one.route (of_filter (λ x. same_key x key) (routes_by link n.routes) one.route first).0 in
          let at = of_filter (λ (r : LinkRoute). r.link == link) n.routes by.one by.there in
          let entry : Has (routes_of_net n) (table_of n.kind by.one.link, by.one.route) = has_map (λ (r : LinkRoute). (table_of n.kind r.link, r.route)) n.routes by.one at.0 in
          let inside : Has (routes_in table (routes_of_net n)) by.one.route =
          has_map (λ (e : ℕ × Route). e.1) (filter (λ (e : ℕ × Route). e.0 == table) (routes_of_net n)) (table_of n.kind by.one.link, by.one.route)
          (has_filtered (λ (e : ℕ × Route). e.0 == table) (routes_of_net n) (table_of n.kind by.one.link, by.one.route) entry
          (eq-eqb (table_of n.kind by.one.link) table (ap (table_of n.kind) (eqb-true by.one.link link at.1)))) in
          ap (λ rs. has_route rs one.route) table-at
          ∙ any-from (λ x. same_route x one.route) (routes_in table (routes_of_net n)) by.one.route inside (ap (λ (x : Route). same_route x one.route) (sym by.is) ∙ same_route-refl one.route)

      -- in the table the route of the key is the one that goes
      keyed-is : (r : LinkRoute) → Has n.routes r → (table_of n.kind r.link == table) ≡ true → is_keyed_by link key r ≡ same_route r.route one.route
      keyed-is r in_r same = elim (cases_Bool (same_key r.route key)) [
        | inl keyed ↦
            let is : r.link ≡ link = key-link r in_r (eqb-true (table_of n.kind r.link) table same) keyed in
            rw (eq-eqb r.link link is, keyed) (sym (ap (λ (x : Route). same_route x one.route) (only r in_r is keyed) ∙ same_route-refl one.route))
        | inr other ↦
            rw other (never (r.link == link) ∙ sym (false_from_ne_true (same_route r.route one.route) (λ t.
            false≢true (sym other ∙ (ap (λ (x : Route). same_key x key) (same_route-true r.route one.route t) ∙ one.keyed)))))
      ]
        where
          never : (b : Bool) → (b && false) ≡ false
          never true = refl
          never false = refl

      gone-here : (rs : List LinkRoute) → ((r : LinkRoute) → Has rs r → Has n.routes r)
          → routes_in table (map (λ (r : LinkRoute). (table_of n.kind r.link, r.route)) (filter (λ r. not (is_keyed_by link key r)) rs))
          ≡ fib.without_route (routes_in table (map (λ (r : LinkRoute). (table_of n.kind r.link, r.route)) rs)) one.route
      gone-here [] inside = refl
      gone-here (r ∷ rs) inside =
          let rest = gone-here rs (λ q h. inside q (inr h)) in
          elim (cases_Bool (table_of n.kind r.link == table)) [
            | inl same ↦ elim (cases_Bool (same_route r.route one.route)) [
              | inl here ↦ rw (keyed-is r (inside r (inl refl)) same ∙ here, same, here) rest
              | inr other ↦ rw (keyed-is r (inside r (inl refl)) same ∙ other, same, other) (ap (λ xs. r.route ∷ xs) rest)
            ]
            | inr apart ↦ elim (cases_Bool (is_keyed_by link key r)) [ inl keyed ↦ rw (keyed, apart) rest | inr stays ↦ rw (stays, apart) rest ]
          ]

      kept-away : (t : ℕ) → (table == t) ≡ false → (rs : List LinkRoute)
          → routes_in t (map (λ (r : LinkRoute). (table_of n.kind r.link, r.route)) (filter (λ r. not (is_keyed_by link key r)) rs)) ≡ routes_in t (map (λ (r : LinkRoute). (table_of n.kind r.link, r.route)) rs)
      kept-away t other [] = refl
      kept-away t other (r ∷ rs) = elim (cases_Bool (is_keyed_by link key r)) [
        | inl keyed ↦
            let is : r.link ≡ link = eqb-true r.link link (and_parts (r.link == link) (same_key r.route key) keyed).0 in
            let apart : (table_of n.kind r.link == t) ≡ false = ap (λ i. table_of n.kind i == t) is ∙ other in
            rw (keyed, apart) (kept-away t other rs)
        | inr stays ↦ rw stays (by (in_table (filter (λ r. not (is_keyed_by link key r)) rs)) (in_table rs) (table_of n.kind r.link == t) (kept-away t other rs))
      ]
        where
          in_table : List LinkRoute → List (ℕ × Route)
          in_table rs = filter (λ (e : ℕ × Route). e.0 == t) (map (λ (r : LinkRoute). (table_of n.kind r.link, r.route)) rs)

          by : (kept all : List (ℕ × Route)) (b : Bool) → map (λ (e : ℕ × Route). e.1) kept ≡ map (λ (e : ℕ × Route). e.1) all
              → map (λ (e : ℕ × Route). e.1) (cond b ((table_of n.kind r.link, r.route) ∷ kept) kept) ≡ map (λ (e : ℕ × Route). e.1) (cond b ((table_of n.kind r.link, r.route) ∷ all) all)
          by kept all true rest = ap (λ xs. r.route ∷ xs) rest
          by kept all false rest = rest

      pub route-goes : (t : ℕ) → routes_in t (route_list (with_net net (without_route link key) s))
          ≡ (if table == t then fib.without_route (routes_in t (route_list s)) one.route else routes_in t (route_list s))
      route-goes = changed-in (without_route link key) (λ rs. fib.without_route rs one.route) (gone-here n.routes (λ r h. h)) (λ t other. kept-away t other n.routes)

-- the routes of a link that have a key, with the number of a table
abbrev pub keyed_as : ℕ → ℕ → Route → List LinkRoute → List (ℕ × Route)
keyed_as table link key routes = map (λ r. (table, r.route)) (filter (λ r. is_keyed_by link key r) routes)

pub keyed-routes : (n : Network) (link : ℕ) (key : Route) → keyed_in n link key ≡ map {B = ℕ × Route} (λ r. (table_of n.kind link, r)) (filter (λ r. same_key r key) (routes_by link n.routes))
keyed-routes n link key = go n.routes
  where
    go : (rs : List LinkRoute) → map {B = ℕ × Route} (λ (r : LinkRoute). (table_of n.kind link, r.route)) (filter (λ r. is_keyed_by link key r) rs)
        ≡ map {B = ℕ × Route} (λ r. (table_of n.kind link, r)) (filter (λ r. same_key r key) (routes_by link rs))
    go [] = refl
    go (r ∷ rs) = by (r.link == link) (same_key r.route key) refl (go rs)
      where
        by : (b c : Bool) → same_key r.route key ≡ c → map {B = ℕ × Route} (λ (r : LinkRoute). (table_of n.kind link, r.route)) (filter (λ r. is_keyed_by link key r) rs)
            ≡ map {B = ℕ × Route} (λ r. (table_of n.kind link, r)) (filter (λ r. same_key r key) (routes_by link rs))
            → map {B = ℕ × Route} (λ (r : LinkRoute). (table_of n.kind link, r.route)) (cond (b && c) (r ∷ filter (λ r. is_keyed_by link key r) rs) (filter (λ r. is_keyed_by link key r) rs))
            ≡ map {B = ℕ × Route} (λ r. (table_of n.kind link, r)) (filter (λ r. same_key r key) (map (λ (r : LinkRoute). r.route) (cond b (r ∷ filter (λ (r : LinkRoute). r.link == link) rs) (filter (λ (r : LinkRoute). r.link == link) rs))))
        by true true keyed rest = rw keyed (ap (λ (ys : List (ℕ × Route)). (table_of n.kind link, r.route) ∷ ys) rest)
        by true false keyed rest = rw keyed rest
        by false c keyed rest = rest
