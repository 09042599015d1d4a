-- A branch that was placed is spliced in.
use Rattle.std.proofs.Common.{◌≡◌, ℕ, ◌<◌, Bool, true, false, List, Option, Some, None, refl, sym, ◌∙◌, ap, subst, inl, inr}
use Rattle.std.specs.Bool.{IsTrue}
use Rattle.std.specs.Option.{option_map}
use Rattle.std.proofs.lemmas.Bool.{cases_eq}
use Rattle.std.proofs.lemmas.Option.{none-some, same_Some}
use Rattle.prefixes.specs.Addr.{family_of}
use Rattle.prefixes.specs.Prefix.{covers}
use Rattle.prefixes.specs.declared.prefix.Prefix.{Prefix}
use Rattle.prefixes.specs.declared.route.Route.{Route}
use Rattle.fib_trie.specs.declared.branch.Branch.{Branch}
use Rattle.fib_search.specs.Node.{TrieNode, node_at, pick, bit_at, root_of}
use Rattle.fib_search.specs.Trie.{LeadsTo, IsTrie, IsChild, goes_on}
use Rattle.fib_trie.specs.Ways.{Way, starts, steps}
use Rattle.fib_trie.specs.Branches.{node_of, nodes_of, with_child, bare, IsPlaced}
use Rattle.route_chains.specs.Places.{held}
use Rattle.fib_trie.proofs.Shapes.{node_at-nodes_of}
use Rattle.fib_trie.proofs.Splices.{Spliced, splice_keeps}
use Rattle.fib_trie.proofs.Stops.{at_branch}

-- a new branch goes between the branch here and its child for the bit
pub record Fits (bs : List (Option Branch)) (b : Branch) (bit : Bool) (new : Branch) : Type 0 where
  pub longer : b.prefix.len < new.prefix.len
  pub within : IsTrue (covers b.prefix new.prefix.base)
  pub next : bit_at new.prefix.base b.prefix.len ≡ bit
  pub children : (rs : List Route) (side : Bool) (c : ℕ) → pick side new.zero new.one ≡ Some c → IsChild (nodes_of rs bs) (node_of rs new) side c
  pub below : (c : ℕ) (x : Branch) → pick bit b.zero b.one ≡ Some c → held bs c ≡ Some x → pick (bit_at x.prefix.base new.prefix.len) new.zero new.one ≡ Some c

to_child : (bit : Bool) (place : ℕ) (b : Branch) → pick bit (with_child bit place b).zero (with_child bit place b).one ≡ Some place
to_child true place b = refl
to_child false place b = refl

to_other : (bit : Bool) (place : ℕ) (b : Branch) (side : Bool) → (side ≡ bit → ⊥) → pick side (with_child bit place b).zero (with_child bit place b).one ≡ pick side b.zero b.one
to_other true place b true differs = absurd (differs refl)
to_other true place b false differs = refl
to_other false place b true differs = refl
to_other false place b false differs = absurd (differs refl)

module _ (bs ds : List (Option Branch)) (here : ℕ) (bit : Bool) (place : ℕ) (b new : Branch) (stands : held bs here ≡ Some b) (put : IsPlaced bs ds here bit place new) where
  pub changed_here : held ds here ≡ Some (with_child bit place b)
  changed_here = put.stands_here ∙ ap (option_map (with_child bit place)) stands

  module _ (fits : Fits bs b bit new) where
    pub spliced : (rs : List Route) → Spliced (nodes_of rs bs) (nodes_of rs ds) here (node_of rs b) bit place (node_of rs new)
    spliced rs = record {
      stands = at_branch rs bs here b stands;
      free = node_at-nodes_of rs bs place ∙ ap (option_map (node_of rs)) put.free;
      changed = node_of rs (with_child bit place b);
      stands_changed = at_branch rs ds here (with_child bit place b) changed_here;
      same_prefix = refl;
      same_routes = refl;
      to_new = to_child bit place b;
      other_child = to_other bit place b;
      stands_new = at_branch rs ds place new put.stands_new;
      rest = λ j other differs. node_at-nodes_of rs ds j ∙ ap (option_map (node_of rs)) (put.rest j other differs) ∙ sym (node_at-nodes_of rs bs j);
      longer = fits.longer;
      within = fits.within;
      next = fits.next;
      children = fits.children rs;
      below = λ c x by at. below_node rs c x by at;
    }
      where
        of : (rs : List Route) (c : ℕ) (x : TrieNode) (o : Option Branch) → held bs c ≡ o → option_map (node_of rs) o ≡ Some x → pick bit b.zero b.one ≡ Some c → pick (bit_at x.prefix.base new.prefix.len) new.zero new.one ≡ Some c
        of rs c x None at is by = absurd (none-some x is)
        of rs c x (Some y) at is by = subst (λ (m : TrieNode). pick (bit_at m.prefix.base new.prefix.len) new.zero new.one ≡ Some c) (same_Some (node_of rs y) x is) (fits.below c y by at)

        below_node : (rs : List Route) (c : ℕ) (x : TrieNode) → pick bit b.zero b.one ≡ Some c → node_at (nodes_of rs bs) c ≡ Some x → pick (bit_at x.prefix.base new.prefix.len) new.zero new.one ≡ Some c
        below_node rs c x by at = of rs c x (held bs c) refl (sym (node_at-nodes_of rs bs c) ∙ at) by

    pub placed_keeps : (rs : List Route) → IsTrie (nodes_of rs bs) rs → IsTrie (nodes_of rs ds) rs
    placed_keeps rs trie = splice_keeps (nodes_of rs bs) (nodes_of rs ds) here (node_of rs b) bit place (node_of rs new) (spliced rs) rs trie refl

-- where a way that ends here leads on
pub leads_by : (nodes others : List (Option TrieNode)) (here : ℕ) → ((j : ℕ) (n : TrieNode) → (j ≡ here → ⊥) → node_at nodes j ≡ Some n → node_at others j ≡ Some n)
    → (p : Prefix) (goal : ℕ) → LeadsTo others p goal here → (j : ℕ) → Way nodes p j → LeadsTo others p goal j → LeadsTo others p goal (root_of (family_of p.base))
leads_by nodes others here same p goal from_here _ starts lead = lead
leads_by nodes others here same p goal from_here _ (steps place node way at less within next by) lead =
    leads_by nodes others here same p goal from_here place way
    (elim (cases_eq place here) as (λ _. LeadsTo others p goal place) [
      | inl is ↦ subst (LeadsTo others p goal) (sym is) from_here
      | inr differs ↦ goes_on place node (same place node differs at) less within next by lead
    ])

no_child : (side : Bool) (c : ℕ) → pick side None None ≡ Some c → ⊥
no_child true c by = none-some c by
no_child false c by = none-some c by

only_child : (s side : Bool) (c d : ℕ) (p : Prefix) → pick side (with_child s c (bare p)).zero (with_child s c (bare p)).one ≡ Some d → (s ≡ side) × (c ≡ d)
only_child true true c d p by = (refl, same_Some c d by)
only_child true false c d p by = absurd (none-some d by)
only_child false true c d p by = absurd (none-some d by)
only_child false false c d p by = (refl, same_Some c d by)

module _ (bs : List (Option Branch)) (b : Branch) (bit : Bool) (p : Prefix) (longer : b.prefix.len < p.len) (within : IsTrue (covers b.prefix p.base)) (next : bit_at p.base b.prefix.len ≡ bit) where
  -- with no child below
  pub fits_leaf : pick bit b.zero b.one ≡ None → Fits bs b bit (bare p)
  fits_leaf none = record {
    longer = longer;
    within = within;
    next = next;
    children = λ rs side c by. absurd (no_child side c by);
    below = λ c x by at. absurd (none-some c (sym none ∙ by));
  }

  -- over the child
  pub fits_over : (c : ℕ) (x : Branch) → pick bit b.zero b.one ≡ Some c → held bs c ≡ Some x → p.len < x.prefix.len → IsTrue (covers p x.prefix.base) → Fits bs b bit (with_child (bit_at x.prefix.base p.len) c (bare p))
  fits_over c x by at less covered = record {
    longer = longer;
    within = within;
    next = next;
    children = λ rs side d down. let only = only_child (bit_at x.prefix.base p.len) side c d p down in
        subst (λ k. IsChild (nodes_of rs bs) (node_of rs (with_child (bit_at x.prefix.base p.len) c (bare p))) side k) only.1
        (record { below = node_of rs x; stands = at_branch rs bs c x at; longer = less; within = covered; next = only.0 });
    below = λ d y down held_d.
        let cd : c ≡ d = same_Some c d (sym by ∙ down) in
        let xy : x ≡ y = same_Some x y (sym at ∙ ap (held bs) cd ∙ held_d) in
        subst (λ (z : Branch). pick (bit_at z.prefix.base p.len) (with_child (bit_at x.prefix.base p.len) c (bare p)).zero (with_child (bit_at x.prefix.base p.len) c (bare p)).one ≡ Some d) xy
        (to_child (bit_at x.prefix.base p.len) c (bare p) ∙ ap Some cd);
  }
