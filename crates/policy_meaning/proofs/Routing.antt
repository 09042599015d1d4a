-- The kernel's tables have the routes of a good state: an interface's table those by this interface, table 97 those of the
use Rattle.std.proofs.Common.{◌≡◌, ◌∙◌, ◌==◌, ◌+◌, ℕ, Bool, true, false, Some, None, List, [], ◌∷◌, ◌++◌, refl, sym, ap, ap₂, subst, inl, inr, map, filter, arith}
use Rattle.std.specs.Prelude.{◌&&◌, flat_map, if◌then◌else◌}
use Rattle.std.specs.Option.{option_and_then}
use Rattle.std.proofs.lemmas.Bool.{cases_Bool, false≢true, eqb-true, eq-eqb}
use Rattle.std.proofs.lemmas.Bool.Decides.{nat_tests}
use Rattle.std.proofs.lemmas.List.{map-append, append-nil}
use Rattle.std.proofs.lemmas.List.Elements.{filter-append}
use Rattle.fib_table.specs.Table.{routes_in}
use Rattle.prefixes.specs.Best.{best, answer, longer_of}
use Rattle.prefixes.specs.Prefix.{covers}
use Rattle.prefixes.specs.Route.{link_of, suits, fits, answer_of}
use Rattle.prefixes.specs.declared.addr.Addr.{Addr}
use Rattle.prefixes.specs.declared.route.Route.{Route}
use Rattle.policy_state.specs.View.{Kind, Local, Physical, Virtual, LinkRoute, Network, StateView}
use Rattle.policy_state.proofs.Owners.{Has, Once, Owners, IsOwned, AreOnce, IsWhole}
use Rattle.policy_state.specs.Good.{is_local_network}
use Rattle.networks.specs.Network.{routes_by}
use Rattle.policy_state.specs.Table.{routes_of_net, route_list}

-- local network.

routes_in-append : (n : ℕ) (xs ys : List (ℕ × Route)) → routes_in n (xs ++ ys) ≡ routes_in n xs ++ routes_in n ys
routes_in-append n xs ys =
    ap (map (λ (r : ℕ × Route). r.1)) (filter-append (λ (r : ℕ × Route). r.0 == n) xs ys)
    ∙ map-append (λ (r : ℕ × Route). r.1) (filter (λ (r : ℕ × Route). r.0 == n) xs) (filter (λ (r : ℕ × Route). r.0 == n) ys)

routes_in-flat : (n : ℕ) (f : Network → List (ℕ × Route)) (ns : List Network) → routes_in n (flat_map f ns) ≡ flat_map (λ m. routes_in n (f m)) ns
routes_in-flat n f [] = refl
routes_in-flat n f (m ∷ ms) = routes_in-append n (f m) (flat_map f ms) ∙ ap (λ rs. routes_in n (f m) ++ rs) (routes_in-flat n f ms)

-- only one network of a list has something
flat-none : {A B : Type 0} (g : A → List B) (xs : List A) → ((x : A) → Has xs x → g x ≡ []) → flat_map g xs ≡ []
flat-none g [] h = refl
flat-none g (x ∷ xs) h = rw (h x (inl refl)) (flat-none g xs (λ y t. h y (inr t)))

flat-one : {A B : Type 0} (g : A → List B) (xs : List A) (x : A) → Once xs → Has xs x → ((y : A) → Has xs y → (y ≡ x → ⊥) → g y ≡ []) → flat_map g xs ≡ g x
flat-one g [] x once h others = absurd h
flat-one {A = A} g (y ∷ ys) x once (inl e) others =
    ap (λ rest. g y ++ rest) (flat-none g ys (λ z t. others z (inr t) (λ same. once.0 (subst (λ (w : A). Has ys w) (same ∙ sym e) t)))) ∙ (append-nil (g y) ∙ ap g e)
flat-one {A = A} g (y ∷ ys) x once (inr h) others =
    ap (λ front. front ++ flat_map g ys) (others y (inl refl) (λ same. once.0 (subst (λ (w : A). Has ys w) (sym same) h))) ∙ flat-one g ys x once.1 h (λ z t. others z (inr t))

-- the routes of one network in a table
by_link : (table : ℕ → ℕ) (m link : ℕ) → ((l : ℕ) → (table l == m) ≡ (l == link)) → (routes : List LinkRoute)
    → routes_in m (map (λ (r : LinkRoute). (table r.link, r.route)) routes) ≡ routes_by link routes
by_link table m link same [] = refl
by_link table m link same (r ∷ rs) = elim (cases_Bool (r.link == link)) [
  | inl e ↦ rw (same r.link, e) (ap (λ routes. r.route ∷ routes) (by_link table m link same rs))
  | inr e ↦ rw (same r.link, e) (by_link table m link same rs)
]

by_all : (m : ℕ) (routes : List LinkRoute) → routes_in m (map (λ (r : LinkRoute). (m, r.route)) routes) ≡ map (λ (r : LinkRoute). r.route) routes
by_all m [] = refl
by_all m (r ∷ rs) = rw (eq-eqb m m refl) (ap (λ routes. r.route ∷ routes) (by_all m rs))

by_none : (table : ℕ → ℕ) (m : ℕ) (routes : List LinkRoute) → ((r : LinkRoute) → Has routes r → (table r.link == m) ≡ false)
    → routes_in m (map (λ (r : LinkRoute). (table r.link, r.route)) routes) ≡ []
by_none table m [] never = refl
by_none table m (r ∷ rs) never = rw (never r (inl refl)) (by_none table m rs (λ q t. never q (inr t)))

same_link : (link l : ℕ) → (1000 + l == 1000 + link) ≡ (l == link)
same_link link l = grind (arith, nat_tests)

not_local : (l : ℕ) → (1000 + l == 97) ≡ false
not_local l = grind (arith, nat_tests)

not_linked : (l : ℕ) → (97 == 1000 + l) ≡ false
not_linked l = grind (arith, nat_tests)

module _ (s : StateView) (o : Owners) (good : IsOwned o s) (once : AreOnce s) (whole : IsWhole s) where
  link-table : (n : Network) (link : ℕ) → is_local_network n ≡ false → routes_in (1000 + link) (routes_of_net n) ≡ routes_by link n.routes
  link-table n link away = by n.kind refl
    where
      by : (k : Kind) → n.kind ≡ k → routes_in (1000 + link) (routes_of_net n) ≡ routes_by link n.routes
      by Local is = absurd (false≢true (sym (rw is at away)))
      by (Physical permission apps) is = rw is (by_link (λ l. 1000 + l) (1000 + link) link (same_link link) n.routes)
      by (Virtual secure users) is = rw is (by_link (λ l. 1000 + l) (1000 + link) link (same_link link) n.routes)

  -- the table of an interface that isn't the network's has none of its routes
  absent : (n : Network) (link : ℕ) → ((r : LinkRoute) → Has n.routes r → (r.link ≡ link → ⊥)) → routes_in (1000 + link) (routes_of_net n) ≡ []
  absent n link never = by n.kind refl
    where
      apart : (r : LinkRoute) → Has n.routes r → (1000 + r.link == 1000 + link) ≡ false
      apart r there = elim (cases_Bool (r.link == link)) [ inl e ↦ absurd (never r there (eqb-true r.link link e)) | inr e ↦ same_link link r.link ∙ e ]

      by : (k : Kind) → n.kind ≡ k → routes_in (1000 + link) (routes_of_net n) ≡ []
      by Local is = rw is (by_none (λ l. 97) (1000 + link) n.routes (λ r there. not_linked link))
      by (Physical permission apps) is = rw is (by_none (λ l. 1000 + l) (1000 + link) n.routes apart)
      by (Virtual secure users) is = rw is (by_none (λ l. 1000 + l) (1000 + link) n.routes apart)

  pub link-routes : (n : Network) (link : ℕ) → Has s.networks n → Has n.interfaces link → is_local_network n ≡ false → routes_in (1000 + link) (route_list s) ≡ routes_by link n.routes
  link-routes n link there has away =
      routes_in-flat (1000 + link) routes_of_net s.networks
      ∙ (flat-one (λ m. routes_in (1000 + link) (routes_of_net m)) s.networks n once.networks there (λ m in_m other. absent m link (λ r in_r same.
      let mine : Has m.interfaces link = subst (λ l. Has m.interfaces l) same (whole.routes m r in_m in_r) in
      other (good.one_id m n in_m there (sym ((good.owns m in_m).links link mine) ∙ (good.owns n there).links link has))))
      ∙ link-table n link away)

  -- the local network's table

  local-table : (n : Network) → is_local_network n ≡ true → routes_in 97 (routes_of_net n) ≡ map (λ (r : LinkRoute). r.route) n.routes
  local-table n local = by n.kind refl
    where
      by : (k : Kind) → n.kind ≡ k → routes_in 97 (routes_of_net n) ≡ map (λ (r : LinkRoute). r.route) n.routes
      by Local is = rw is (by_all 97 n.routes)
      by (Physical permission apps) is = absurd (false≢true (rw is at local))
      by (Virtual secure users) is = absurd (false≢true (rw is at local))

  away-table : (n : Network) → is_local_network n ≡ false → routes_in 97 (routes_of_net n) ≡ []
  away-table n away = by n.kind refl
    where
      by : (k : Kind) → n.kind ≡ k → routes_in 97 (routes_of_net n) ≡ []
      by Local is = absurd (false≢true (sym (rw is at away)))
      by (Physical permission apps) is = rw is (by_none (λ l. 1000 + l) 97 n.routes (λ r there. not_local r.link))
      by (Virtual secure users) is = rw is (by_none (λ l. 1000 + l) 97 n.routes (λ r there. not_local r.link))

  pub local-routes : routes_in 97 (route_list s) ≡ map (λ (r : LinkRoute). r.route) whole.local.routes
  local-routes =
      ap (λ ns. routes_in 97 (flat_map routes_of_net ns)) whole.first
      ∙ (routes_in-flat 97 routes_of_net (whole.local ∷ whole.others)
      ∙ (ap₂ (λ (one other : List Route). one ++ other) (local-table whole.local whole.local_is) (flat-none (λ m. routes_in 97 (routes_of_net m)) whole.others (λ m there. away-table m (whole.not_local m there)))
      ∙ append-nil (map (λ (r : LinkRoute). r.route) whole.local.routes)))

-- What is bound to a link takes the routes by this link.
best-by : (routes : List LinkRoute) (dest : Addr) (link : ℕ) → ((r : LinkRoute) → Has routes r → link_of r.route.out ≡ Some r.link)
    → best (map (λ (r : LinkRoute). r.route) routes) dest (Some link) ≡ best (routes_by link routes) dest (Some link)
best-by [] dest link plain = refl
best-by (r ∷ rs) dest link plain = elim (cases_Bool (r.link == link)) [
  | inl e ↦ rw e (ap (longer_of (if fits r.route dest (Some link) then Some r.route else None)) (best-by rs dest link (λ q t. plain q (inr t))))
  | inr e ↦ rw (unfit e, e) (best-by rs dest link (λ q t. plain q (inr t)))
]
  where
    unfit : (r.link == link) ≡ false → fits r.route dest (Some link) ≡ false
    unfit e = ap (λ l. covers r.route.prefix dest && suits l (Some link)) (plain r (inl refl)) ∙ (rw e (never (covers r.route.prefix dest)))
      where
        never : (b : Bool) → (b && false) ≡ false
        never b = grind arith

pub answer-by : (routes : List LinkRoute) (dest : Addr) (link : ℕ) → ((r : LinkRoute) → Has routes r → link_of r.route.out ≡ Some r.link)
    → answer (map (λ (r : LinkRoute). r.route) routes) dest (Some link) ≡ answer (routes_by link routes) dest (Some link)
answer-by routes dest link plain = ap (option_and_then (λ (r : Route). answer_of r.out)) (best-by routes dest link plain)
