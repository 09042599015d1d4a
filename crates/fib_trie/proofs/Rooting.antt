-- The two roots are the trie of no routes.
use Rattle.std.proofs.Common.{◌≡◌, ◌≢◌, ℕ, zero, suc, Bool, true, false, List, [], ◌∷◌, length, Option, Some, None, refl, sym, ◌∙◌, ap, subst, arith, inr}
use Rattle.std.specs.List.{filter}
use Rattle.std.proofs.lemmas.Option.{none-some, same_Some}
use Rattle.std.proofs.lemmas.List.Elements.{All-weaker}
use Rattle.prefixes.specs.Addr.{family_of}
use Rattle.prefixes.specs.Prefix.{same_prefix}
use Rattle.prefixes.specs.declared.addr.Addr.TheVariants as addr
use Rattle.prefixes.specs.declared.route.Route.{Route}
use Rattle.fib_trie.specs.declared.branch.Branch.{Branch}
use Rattle.fib_search.specs.Node.{TrieNode, node_at, child, pick, root_of}
use Rattle.fib_search.specs.Trie.{LeadsTo, Leads, IsTrie, ends}
use Rattle.fib_trie.specs.Reached.{IsPlaceOf, AreReached}
use Rattle.fib_trie.specs.Branches.{node_of, nodes_of}
use Rattle.route_chains.specs.Places.{held}
use Rattle.fib_trie.specs.Roots.{IsBareRoot}
use Rattle.fib_search.proofs.Ways.{leads_nowhere}
use Rattle.fib_trie.proofs.Shapes.{of_node}

abbrev childless : Branch → Type 0
childless b = (side : Bool) (c : ℕ) → pick side b.zero b.one ≡ Some c → ⊥

bare_childless : (b : Branch) → b.zero ≡ None → b.one ≡ None → childless b
bare_childless b none none' true c by = none-some c (sym none' ∙ by)
bare_childless b none none' false c by = none-some c (sym none ∙ by)

held_childless : (a b : Branch) → childless a → childless b → (place : ℕ) (x : Branch) → held (Some a ∷ Some b ∷ []) place ≡ Some x → childless x
held_childless a b first second zero x at = subst childless (same_Some a x at) first
held_childless a b first second (suc zero) x at = subst childless (same_Some b x at) second
held_childless a b first second (suc (suc k)) x at = absurd (none-some x at)

pub roots_keep : (bs : List (Option Branch)) (a b : Branch) → bs ≡ [] → IsBareRoot a (addr.V4 0) → IsBareRoot b (addr.V6 0)
    → (rs : List Route) → IsTrie (nodes_of rs bs) rs → IsTrie (nodes_of rs (Some a ∷ Some b ∷ [])) rs
roots_keep bs a b none first second rs trie = record {
  rooted = inr (
    (record { node = node_of rs a; stands = refl; from = first.from; short = first.short }),
    (record { node = node_of rs b; stands = refl; from = second.from; short = second.short }),
  );
  children = λ place node side below at by.
      let o = of_node rs (Some a ∷ Some b ∷ []) place node at in
      absurd (held_childless a b (bare_childless a first.no_zero first.no_one) (bare_childless b second.no_zero second.no_one) place o.branch o.stands side below
      (ap (λ (n : TrieNode). child n side) (sym o.is) ∙ by));
  filed = λ place node at. let o = of_node rs (Some a ∷ Some b ∷ []) place node at in
      ap (λ (n : TrieNode). n.routes) o.is ∙ ap (λ (n : TrieNode). filter (λ r. same_prefix r.prefix n.prefix) rs) (sym o.is);
  found = All-weaker (λ r. Leads (nodes_of rs bs) r.prefix (root_of (family_of r.prefix.base))) (λ r. Leads (nodes_of rs (Some a ∷ Some b ∷ [])) r.prefix (root_of (family_of r.prefix.base)))
      (λ r way. absurd (leads_nowhere (nodes_of rs bs) r.prefix (root_of (family_of r.prefix.base)) way (ap (λ ns. node_at (nodes_of rs ns) (root_of (family_of r.prefix.base))) none))) rs trie.found;
}

pub some_there : (a : Option Branch) (bs : List (Option Branch)) → (a ∷ bs) ≢ []
some_there a bs is = cc

pub no_items : (bs : List (Option Branch)) → length bs ≡ 0 → bs ≡ []
no_items [] none = refl
no_items (b ∷ bs) none = absurd (omega (arith, none))

pub roots_reached : (a b : Branch) → IsBareRoot a (addr.V4 0) → IsBareRoot b (addr.V6 0) → AreReached (Some a ∷ Some b ∷ [])
roots_reached a b first second zero x at =
    let e : a ≡ x = same_Some a x at in
    subst (λ (y : Branch). IsPlaceOf (Some a ∷ Some b ∷ []) y.prefix 0) e
    (subst (λ k. LeadsTo (nodes_of [] (Some a ∷ Some b ∷ [])) a.prefix 0 k) (sym (ap (λ c. root_of (family_of c)) first.from)) (ends (node_of [] a) refl refl))
roots_reached a b first second (suc zero) x at =
    let e : b ≡ x = same_Some b x at in
    subst (λ (y : Branch). IsPlaceOf (Some a ∷ Some b ∷ []) y.prefix 1) e
    (subst (λ k. LeadsTo (nodes_of [] (Some a ∷ Some b ∷ [])) b.prefix 1 k) (sym (ap (λ c. root_of (family_of c)) second.from)) (ends (node_of [] b) refl refl))
roots_reached a b first second (suc (suc k)) x at = absurd (none-some x at)
