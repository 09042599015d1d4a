-- Where a prefix leads.
use Rattle.std.proofs.Common.{◌≡◌, ℕ, true, false, List, [], Option, Some, None, refl, sym, ◌∙◌, ap, subst, arith, inl, inr}
use Rattle.std.specs.Bool.{IsTrue}
use Rattle.std.specs.Option.{option_map, option_map_or}
use Rattle.std.proofs.lemmas.Bool.{both_ways, and_from, le-ltb, not_from_false, false≢true}
use Rattle.std.proofs.lemmas.Option.{none-some, same_Some}
use Rattle.prefixes.specs.Addr.{family_of}
use Rattle.prefixes.specs.Prefix.{covers, same_prefix}
use Rattle.prefixes.proofs.Sames.{same_prefix-true, same_prefix-refl}
use Rattle.prefixes.specs.declared.prefix.Prefix.{Prefix}
use Rattle.fib_search.specs.Node.{TrieNode, node_at, root_of}
use Rattle.fib_search.specs.Trie.{LeadsTo, Leads, ends, goes_on}
use Rattle.fib_search.proofs.Bits.{Alike-covers}
use Rattle.fib_search.proofs.Ways.{leads_to_from, leads_to_starts, leads_nowhere}
use Rattle.route_chains.specs.Places.{held}
use Rattle.fib_trie.specs.declared.branch.Branch.{Branch}
use Rattle.fib_trie.specs.Branches.{node_of, nodes_of, leads_on}
use Rattle.fib_trie.specs.Reached.{prefix_at, is_prefix_at, IsPlaceOf}
use Rattle.fib_trie.specs.Ways.{Way, starts, steps, IsStop}
use Rattle.fib_trie.proofs.Shapes.{of_node}
use Rattle.fib_trie.proofs.Stops.{at_branch}
use Rattle.fib_trie.proofs.Put.{made_here, off_of}

-- the place that a prefix leads to is one
pub one_goal : (nodes : List (Option TrieNode)) (p : Prefix) (g h k : ℕ) → LeadsTo nodes p g k → LeadsTo nodes p h k → g ≡ h
one_goal nodes p g h _ (ends m at is) other = elim (leads_to_from nodes p h g m other at) as (λ _. g ≡ h) [
  | inl here ↦ sym here.0
  | inr on ↦ let longer = on.longer in absurd (omega (arith, longer, ap (λ (q : Prefix). q.len) is))
]
one_goal nodes p g h _ (goes_on place m at longer within next by rest) other = elim (leads_to_from nodes p h place m other at) as (λ _. g ≡ h) [
  | inl here ↦ absurd (omega (arith, longer, ap (λ (q : Prefix). q.len) here.1))
  | inr on ↦ one_goal nodes p g h next rest (subst (LeadsTo nodes p h) (same_Some on.next next (sym on.by ∙ by)) on.rest)
]

-- what a prefix leads to has the prefix
pub goal_has : (bs : List (Option Branch)) (p : Prefix) (goal k : ℕ) → LeadsTo (nodes_of [] bs) p goal k → prefix_at bs goal ≡ Some p
goal_has bs p goal _ (ends m at is) =
    let o = of_node [] bs goal m at in
    ap (option_map (λ (b : Branch). b.prefix)) o.stands ∙ ap Some (ap (λ (n : TrieNode). n.prefix) (sym o.is) ∙ is)
goal_has bs p goal _ (goes_on place m at longer within next by rest) = goal_has bs p goal next rest

-- what a prefix leads to lies ahead of each place on the way
pub along_way : (nodes : List (Option TrieNode)) (p : Prefix) (goal : ℕ) → LeadsTo nodes p goal (root_of (family_of p.base)) → (k : ℕ) → Way nodes p k → LeadsTo nodes p goal k
along_way nodes p goal lead _ starts = lead
along_way nodes p goal lead _ (steps place node way at less within next by) =
    elim (leads_to_from nodes p goal place node (along_way nodes p goal lead place way) at) as (λ _. LeadsTo nodes p goal next) [
      | inl here ↦ absurd (omega (arith, less, ap (λ (q : Prefix). q.len) here.1))
      | inr on ↦ subst (LeadsTo nodes p goal) (same_Some on.next next (sym on.by ∙ by)) on.rest
    ]

covers-self : (p : Prefix) → IsTrue (covers p p.base)
covers-self p = Alike-covers p p.base (record { family = refl; bits = refl })

-- a node from which a prefix leads on
leads_on-goal : (bs : List (Option Branch)) (p : Prefix) (goal k : ℕ) (b : Branch) → held bs k ≡ Some b → LeadsTo (nodes_of [] bs) p goal k → leads_on (Some b) p ≡ true
leads_on-goal bs p goal k b at lead = elim (leads_to_from (nodes_of [] bs) p goal k (node_of [] b) lead (at_branch [] bs k b at)) as (λ _. leads_on (Some b) p ≡ true) [
  | inl here ↦
      let same : b.prefix ≡ p = here.1 in
      and_from _ _ (subst (λ (q : Prefix). IsTrue (covers q p.base)) (sym same) (covers-self p)) (not_from_false _ (le-ltb p.len b.prefix.len (omega (arith, ap (λ (q : Prefix). q.len) same))))
  | inr on ↦ let longer = on.longer in and_from _ _ on.within (not_from_false _ (le-ltb p.len b.prefix.len (omega (arith, longer))))
]

-- the last place on the way is the goal, if there is one
stop_has : (bs : List (Option Branch)) (p : Prefix) (here : ℕ) → IsStop bs p here → Leads (nodes_of [] bs) p (root_of (family_of p.base)) → prefix_at bs here ≡ Some p
stop_has bs p here stop way =
    let lead = along_way (nodes_of [] bs) p way.0 way.1 here stop.on.way in
    elim (leads_to_from (nodes_of [] bs) p way.0 here (node_of [] stop.on.branch) lead (at_branch [] bs here stop.on.branch stop.on.stands)) as (λ _. prefix_at bs here ≡ Some p) [
      | inl at ↦ ap (option_map (λ (b : Branch). b.prefix)) stop.on.stands ∙ ap Some at.1
      | inr on ↦
          let below = leads_to_starts (nodes_of [] bs) p way.0 on.next on.rest in
          let o = of_node [] bs on.next below.node below.stands in
          absurd (both_ways (leads_on (Some o.branch) p) (off_of bs p here stop.on.branch stop stop.on.stands on.longer on.next o.branch on.by o.stands) (leads_on-goal bs p way.0 on.next o.branch o.stands on.rest))
    ]

is_prefix-true : (bs : List (Option Branch)) (place : ℕ) (p : Prefix) → prefix_at bs place ≡ Some p → is_prefix_at bs place p ≡ true
is_prefix-true bs place p is = of (held bs place) is
  where
    of : (o : Option Branch) → option_map (λ (b : Branch). b.prefix) o ≡ Some p → option_map_or (λ (b : Branch). same_prefix b.prefix p) o false ≡ true
    of None is = absurd (none-some p is)
    of (Some b) is = ap (λ q. same_prefix q p) (same_Some b.prefix p is) ∙ same_prefix-refl p

pub place_none : (bs : List (Option Branch)) (p : Prefix) (here : ℕ) → IsStop bs p here → is_prefix_at bs here p ≡ false → Leads (nodes_of [] bs) p (root_of (family_of p.base)) → ⊥
place_none bs p here stop off way = both_ways (is_prefix_at bs here p) off (is_prefix-true bs here p (stop_has bs p here stop way))

pub place_some : (bs : List (Option Branch)) (p : Prefix) (here : ℕ) → IsStop bs p here → is_prefix_at bs here p ≡ true → IsPlaceOf bs p here
place_some bs p here stop on = of (held bs here) refl on
  where
    of : (o : Option Branch) → held bs here ≡ o → option_map_or (λ (b : Branch). same_prefix b.prefix p) o false ≡ true → IsPlaceOf bs p here
    of None at is = absurd (false≢true is)
    of (Some b) at is = (made_here bs p here b stop at (let e = ap (λ (q : Prefix). q.len) (same_prefix-true b.prefix p is) in omega (arith, e))).leads

pub place_nowhere : (bs : List (Option Branch)) → bs ≡ [] → (p : Prefix) → Leads (nodes_of [] bs) p (root_of (family_of p.base)) → ⊥
place_nowhere bs none p way = leads_nowhere (nodes_of [] bs) p (root_of (family_of p.base)) way (ap (λ b. node_at (nodes_of [] b) (root_of (family_of p.base))) none)
