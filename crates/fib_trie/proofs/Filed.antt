-- The chain of a node is the routes of its prefix.
use Rattle.std.proofs.Common.{◌≡◌, ◌≢◌, ℕ, ◌<◌, ◌==◌, length, ◌++◌, ◌||◌, Bool, true, false, cond, not, map, List, [], ◌∷◌, Option, Some, None, refl, sym, ◌∙◌, ap, subst, inl, inr}
use Rattle.std.specs.List.{All, filter, find, list_any}
use Rattle.std.specs.Option.{option_map}
use Rattle.std.proofs.lemmas.Bool.{cases_Bool, cases_eq, both_ways, and_parts, and_from, or_parts, or_from, eq-eqb, ne_eqb, false_from_ne_true, not-true}
use Rattle.std.proofs.lemmas.List.Elements.{All-cons, All-push, All-head, All-tail, All-weaker}
use Rattle.std.proofs.lemmas.Option.{none-some, same_Some}
use Rattle.prefixes.specs.Addr.{family_of}
use Rattle.prefixes.specs.Prefix.{same_prefix}
use Rattle.prefixes.specs.Route.{link_of, suits, same_key, same_route}
use Rattle.prefixes.proofs.Sames.{same_prefix-true, same_prefix-refl, same_route-true, same_out-refl, same_key-refl}
use Rattle.prefixes.specs.declared.prefix.Prefix.{Prefix}
use Rattle.prefixes.specs.declared.route.Route.{Route}
use Rattle.fib_table.specs.Table.{has_key, without_route, are_keys_distinct}
use Rattle.fib_search.specs.Node.{root_of, first_of}
use Rattle.fib_search.specs.Trie.{Leads, IsTrie}
use Rattle.route_chains.specs.Places.{held}
use Rattle.route_chains.proofs.Standing.{held-within}
use Rattle.route_chains.specs.Chains.{Chained, chain_of, TakesOut}
use Rattle.fib_trie.specs.declared.branch.Branch.{Branch}
use Rattle.fib_trie.specs.Branches.{nodes_of}
use Rattle.fib_trie.specs.Reached.{prefix_at, IsPlaceOf, AreReached, AreFiled}
use Rattle.fib_trie.specs.Chained.{routes_of}
use Rattle.fib_trie.proofs.Finding.{one_goal, goal_has}
use Rattle.fib_trie.proofs.Shapes.{Leads-twins, twins_of}

abbrev pub of_prefix : Prefix → List Route → List Route
of_prefix p routes = filter (λ r. same_prefix r.prefix p) routes

pub record At (bs : List (Option Branch)) (place : ℕ) (p : Prefix) : Type 0 where
  pub branch : Branch
  pub stands : held bs place ≡ Some branch
  pub prefix : branch.prefix ≡ p

pub at_of : (bs : List (Option Branch)) (place : ℕ) (p : Prefix) → prefix_at bs place ≡ Some p → At bs place p
at_of bs place p is = of (held bs place) refl is
  where
    of : (o : Option Branch) → held bs place ≡ o → option_map (λ (b : Branch). b.prefix) o ≡ Some p → At bs place p
    of None at is = absurd (none-some p is)
    of (Some b) at is = record { branch = b; stands = at; prefix = same_Some b.prefix p is }

module _ (bs : List (Option Branch)) (reached : AreReached bs) (p : Prefix) (place : ℕ) (way : IsPlaceOf bs p place) where
  one : (e : Chained) → prefix_at bs e.chain ≡ Some e.route.prefix → (e.chain == place) ≡ same_prefix e.route.prefix p
  one e filed = elim (cases_eq e.chain place) as (λ _. (e.chain == place) ≡ same_prefix e.route.prefix p) [
    | inl same ↦
        let is : e.route.prefix ≡ p = same_Some e.route.prefix p (sym filed ∙ ap (prefix_at bs) same ∙ goal_has bs p place (root_of (family_of p.base)) way) in
        eq-eqb e.chain place same ∙ sym (ap (λ q. same_prefix q p) is ∙ same_prefix-refl p)
    | inr differs ↦
        ne_eqb e.chain place differs
        ∙ sym (false_from_ne_true (same_prefix e.route.prefix p) (λ same.
        let there = at_of bs e.chain e.route.prefix filed in
        let is : there.branch.prefix ≡ p = there.prefix ∙ same_prefix-true e.route.prefix p same in
        differs (one_goal (nodes_of [] bs) p e.chain place (root_of (family_of p.base)) (subst (λ q. IsPlaceOf bs q e.chain) is (reached e.chain there.branch there.stands)) way)))
  ]

  pub chain_of-place : (es : List Chained) → AreFiled bs es → chain_of place es ≡ of_prefix p (routes_of es)
  chain_of-place [] filed = refl
  chain_of-place (e ∷ es) filed =
      both (e.chain == place) (same_prefix e.route.prefix p) (one e (All-head (λ e. prefix_at bs e.chain ≡ Some e.route.prefix) e es filed))
      (chain_of-place es (All-tail (λ e. prefix_at bs e.chain ≡ Some e.route.prefix) e es filed))
    where
      both : (a c : Bool) → a ≡ c → chain_of place es ≡ of_prefix p (routes_of es)
          → map (λ (x : Chained). x.route) (cond a (e ∷ filter (λ (x : Chained). x.chain == place) es) (filter (λ (x : Chained). x.chain == place) es)) ≡ cond c (e.route ∷ of_prefix p (routes_of es)) (of_prefix p (routes_of es))
      both true true is later = ap (λ l. e.route ∷ l) later
      both true false is later = cc
      both false true is later = cc
      both false false is later = later

-- a test that only routes of a prefix pass
pub list_any-prefix : (p : Prefix) (test : Route → Bool) → ((r : Route) → test r ≡ true → same_prefix r.prefix p ≡ true) → (rs : List Route) → list_any test (of_prefix p rs) ≡ list_any test rs
list_any-prefix p test only [] = refl
list_any-prefix p test only (r ∷ rs) = elim (cases_Bool (same_prefix r.prefix p)) as (λ _. list_any test (of_prefix p (r ∷ rs)) ≡ list_any test (r ∷ rs)) [
  | inl same ↦ rw same (ap (λ b. test r || b) (list_any-prefix p test only rs))
  | inr other ↦
      let off : test r ≡ false = false_from_ne_true (test r) (λ on. both_ways (same_prefix r.prefix p) other (only r on)) in
      rw (other, off) (list_any-prefix p test only rs)
]

pub key_prefix : (r x : Route) → same_key x r ≡ true → same_prefix x.prefix r.prefix ≡ true
key_prefix r x is = (and_parts (same_prefix x.prefix r.prefix) _ is).0

pub route_prefix : (r x : Route) → same_route x r ≡ true → same_prefix x.prefix r.prefix ≡ true
route_prefix r x is = (and_parts (same_prefix x.prefix r.prefix) _ is).0

-- the routes of a list lead somewhere
pub routes_lead : (rs : List Route) (bs : List (Option Branch)) → IsTrie (nodes_of rs bs) rs → All (λ r. Leads (nodes_of [] bs) r.prefix (root_of (family_of r.prefix.base))) rs
routes_lead rs bs trie =
    All-weaker (λ r. Leads (nodes_of rs bs) r.prefix (root_of (family_of r.prefix.base))) (λ r. Leads (nodes_of [] bs) r.prefix (root_of (family_of r.prefix.base)))
    (λ r way. Leads-twins (nodes_of rs bs) (nodes_of [] bs) (twins_of rs [] bs) r.prefix (root_of (family_of r.prefix.base)) way) rs trie.found

-- so a prefix that leads nowhere has no routes
pub none_there : (bs : List (Option Branch)) (p : Prefix) (test : Route → Bool) → ((r : Route) → test r ≡ true → same_prefix r.prefix p ≡ true) → (Leads (nodes_of [] bs) p (root_of (family_of p.base)) → ⊥)
    → (rs : List Route) → All (λ r. Leads (nodes_of [] bs) r.prefix (root_of (family_of r.prefix.base))) rs → list_any test rs ≡ false
none_there bs p test only nowhere [] lead = refl
none_there bs p test only nowhere (r ∷ rs) lead =
    or_from (test r) (list_any test rs)
    (false_from_ne_true (test r) (λ on. nowhere (subst (λ (q : Prefix). Leads (nodes_of [] bs) q (root_of (family_of q.base))) (same_prefix-true r.prefix p (only r on)) (All-head (λ x. Leads (nodes_of [] bs) x.prefix (root_of (family_of x.prefix.base))) r rs lead))))
    (none_there bs p test only nowhere rs (All-tail (λ x. Leads (nodes_of [] bs) x.prefix (root_of (family_of x.prefix.base))) r rs lead))

pub find-first_of : (bound : Option ℕ) (rs : List Route) → find (λ r. suits (link_of r.out) bound) rs ≡ first_of rs bound
find-first_of bound [] = refl
find-first_of bound (r ∷ rs) = elim (cases_Bool (suits (link_of r.out) bound)) as (λ _. find (λ x. suits (link_of x.out) bound) (r ∷ rs) ≡ first_of (r ∷ rs) bound) [
  | inl suit ↦ rw suit refl
  | inr unsuit ↦ rw unsuit (find-first_of bound rs)
]

-- of routes of distinct keys the others stay
without_route-key : (rs : List Route) (r : Route) → has_key rs r ≡ false → without_route rs r ≡ rs
without_route-key [] r absent = refl
without_route-key (x ∷ rs) r absent =
    let parts = or_parts (same_key x r) (has_key rs r) absent in
    rw (false_from_ne_true (same_route x r) (λ same. both_ways (same_key x r) parts.0 (subst (λ y. same_key x y ≡ true) (same_route-true x r same) (same_key-refl x)))) (ap (λ l. x ∷ l) (without_route-key rs r parts.1))

key_append : (xs ys : List Route) (r : Route) → has_key (xs ++ ys) r ≡ false → has_key ys r ≡ false
key_append [] ys r absent = absent
key_append (x ∷ xs) ys r absent = key_append xs ys r (or_parts (same_key x r) (has_key (xs ++ ys) r) absent).1

pub without_route-taken : (before after : List Route) (r : Route) → are_keys_distinct (before ++ r ∷ after) ≡ true → without_route (before ++ r ∷ after) r ≡ before ++ after
without_route-taken [] after r distinct =
    let parts = and_parts (not (has_key after r)) (are_keys_distinct after) distinct in
    rw (and_from (same_prefix r.prefix r.prefix) _ (same_prefix-refl r.prefix) (same_out-refl r.out)) (without_route-key after r (not-true _ parts.0))
without_route-taken (x ∷ before) after r distinct =
    let parts = and_parts (not (has_key (before ++ r ∷ after) x)) (are_keys_distinct (before ++ r ∷ after)) distinct in
    let apart : same_key r x ≡ false = (or_parts (same_key r x) (has_key after x) (key_append before (r ∷ after) x (not-true _ parts.0))).0 in
    let other : same_route x r ≡ false = false_from_ne_true (same_route x r) (λ same. both_ways (same_key r x) apart (subst (λ y. same_key y x ≡ true) (same_route-true x r same) (same_key-refl x))) in
    rw other (ap (λ l. x ∷ l) (without_route-taken before after r parts.1))

pub routes_taken : (old new : List Chained) (e : Chained) → TakesOut old new e → are_keys_distinct (routes_of old) ≡ true → routes_of new ≡ without_route (routes_of old) e.route
routes_taken old new e t distinct =
    ap routes_of t.is ∙ map_two t.before t.after
    ∙ sym (without_route-taken (routes_of t.before) (routes_of t.after) e.route (subst (λ l. are_keys_distinct l ≡ true) was distinct))
    ∙ ap (λ l. without_route l e.route) (sym was)
  where
    map_two : (xs ys : List Chained) → routes_of (xs ++ ys) ≡ routes_of xs ++ routes_of ys
    map_two [] ys = refl
    map_two (x ∷ xs) ys = ap (λ l. x.route ∷ l) (map_two xs ys)

    was : routes_of old ≡ routes_of t.before ++ e.route ∷ routes_of t.after
    was = ap routes_of t.was ∙ map_two t.before (e ∷ t.after)

pub filed_taken : (bs : List (Option Branch)) (old new : List Chained) (e : Chained) → TakesOut old new e → AreFiled bs old → AreFiled bs new
filed_taken bs old new e t filed = subst (AreFiled bs) (sym t.is) (less t.before t.after (subst (AreFiled bs) t.was filed))
  where
    less : (xs ys : List Chained) → AreFiled bs (xs ++ e ∷ ys) → AreFiled bs (xs ++ ys)
    less [] ys each = All-tail (λ x. prefix_at bs x.chain ≡ Some x.route.prefix) e ys each
    less (x ∷ xs) ys each =
        All-cons (λ x. prefix_at bs x.chain ≡ Some x.route.prefix) x (xs ++ ys) (All-head (λ x. prefix_at bs x.chain ≡ Some x.route.prefix) x (xs ++ e ∷ ys) each)
        (less xs ys (All-tail (λ x. prefix_at bs x.chain ≡ Some x.route.prefix) x (xs ++ e ∷ ys) each))

pub place_within : (bs : List (Option Branch)) (p : Prefix) (place : ℕ) → IsPlaceOf bs p place → place < length bs
place_within bs p place way = let there = at_of bs place p (goal_has bs p place (root_of (family_of p.base)) way) in held-within bs place there.branch there.stands

-- a test that only routes of a prefix pass, in the chain of its node
pub any_there : (bs : List (Option Branch)) → AreReached bs → (p : Prefix) (place : ℕ) → IsPlaceOf bs p place → (es : List Chained) → AreFiled bs es → (rs : List Route) → routes_of es ≡ rs
    → (test : Route → Bool) → ((r : Route) → test r ≡ true → same_prefix r.prefix p ≡ true) → list_any test (chain_of place es) ≡ list_any test rs
any_there bs reached p place way es filed rs order test only =
    ap (list_any test) (chain_of-place bs reached p place way es filed ∙ ap (of_prefix p) order) ∙ list_any-prefix p test only rs

-- one more entry
pub filed_added : (bs ds : List (Option Branch)) (es : List Chained) (k : ℕ) (r : Route) → AreFiled bs es → ((j : ℕ) (b : Branch) → held bs j ≡ Some b → prefix_at ds j ≡ Some b.prefix) → prefix_at ds k ≡ Some r.prefix
    → AreFiled ds (es ++ record { chain = k; route = r } ∷ [])
filed_added bs ds es k r filed stays here =
    All-push (λ e. prefix_at ds e.chain ≡ Some e.route.prefix) es (record { chain = k; route = r })
    (All-weaker (λ e. prefix_at bs e.chain ≡ Some e.route.prefix) (λ e. prefix_at ds e.chain ≡ Some e.route.prefix)
    (λ e was. let there = at_of bs e.chain e.route.prefix was in stays e.chain there.branch there.stands ∙ ap Some there.prefix) es filed) here

pub filed_rooted : (bs ds : List (Option Branch)) (es : List Chained) → (bs ≢ [] → ds ≡ bs) → AreFiled bs es → AreFiled ds es
filed_rooted bs ds es same filed =
    All-weaker (λ e. prefix_at bs e.chain ≡ Some e.route.prefix) (λ e. prefix_at ds e.chain ≡ Some e.route.prefix)
    (λ e was. ap (λ l. prefix_at l e.chain) (same (λ none. none-some e.route.prefix (sym (ap (λ l. prefix_at l e.chain) none) ∙ was))) ∙ was) es filed

pub routes_of-push : (es : List Chained) (k : ℕ) (r : Route) → routes_of (es ++ record { chain = k; route = r } ∷ []) ≡ routes_of es ++ r ∷ []
routes_of-push [] k r = refl
routes_of-push (e ∷ es) k r = ap (λ l. e.route ∷ l) (routes_of-push es k r)

pub routes_order : (old new : List Chained) (e : Chained) → TakesOut old new e → (rs : List Route) → routes_of old ≡ rs → are_keys_distinct rs ≡ true → routes_of new ≡ without_route rs e.route
routes_order old new e t rs order distinct = routes_taken old new e t (ap are_keys_distinct order ∙ distinct) ∙ ap (λ l. without_route l e.route) order
