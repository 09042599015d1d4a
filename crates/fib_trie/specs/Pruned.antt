-- A node was taken out between the node above it and its only child.
use Rattle.std.specs.Prelude.{◌≡◌, ◌≢◌, ℕ, ◌<◌, Bool, if◌then◌else◌, IsTrue, IsFalse, List, [], Option, Some, None}
use Rattle.std.specs.List.{list_any}
use Rattle.prefixes.specs.Addr.{family_of}
use Rattle.prefixes.specs.Prefix.{covers, same_prefix}
use Rattle.prefixes.specs.declared.prefix.Prefix.{Prefix}
use Rattle.prefixes.specs.declared.route.Route.{Route}
use Rattle.fib_search.specs.Node.{bit_at, pick, root_of}
use Rattle.fib_search.specs.Trie.{IsTrie}
use Rattle.route_chains.specs.Places.{held}
use Rattle.fib_trie.specs.declared.branch.Branch.{Branch}
use Rattle.fib_trie.specs.declared.prune.Upper.{Upper}
use Rattle.fib_trie.specs.Branches.{nodes_of}
use Rattle.route_chains.specs.Chains.{Chained}
use Rattle.fib_trie.specs.Reached.{AreReached, AreFiled}
use Rattle.fib_trie.specs.Chained.{routes_of}

-- a branch with another child for a bit, or none
abbrev pub linked : Bool → Option ℕ → Branch → Branch
linked bit child b = record { prefix = b.prefix; zero = if bit then b.zero else child; one = if bit then child else b.one }

-- one of two children, if there aren't both; it may be none
abbrev pub only : Option ℕ → Option ℕ → Option (Option ℕ)
only None child = Some child
only (Some place) None = Some (Some place)
only (Some place) (Some other) = None

abbrev pub only_child : Branch → Option (Option ℕ)
only_child b = only b.zero b.one

-- the node of a shorter prefix that covers this one, whose child for the next bit stands at the place
pub record IsUpper (branches : List (Option Branch)) (p : Prefix) (place : ℕ) (upper : Upper) : Type 0 where
  pub stands : held branches upper.place ≡ Some upper.branch
  pub shorter : upper.branch.prefix.len < p.len
  pub within : IsTrue (covers upper.branch.prefix p.base)
  pub to : pick (bit_at p.base upper.branch.prefix.len) upper.branch.zero upper.branch.one ≡ Some place

abbrev pub IsUpperOf : List (Option Branch) → Prefix → ℕ → Option Upper → Type 0
IsUpperOf branches p place None = place ≡ root_of (family_of p.base)
IsUpperOf branches p place (Some upper) = IsUpper branches p place upper

-- The branches are the trie of routes without this prefix, if they were, and are reached. Elsewhere each one keeps its prefix,
-- and the place is free.
pub record IsPruned (old changed : List (Option Branch)) (p : Prefix) (place : ℕ) : Type 0 where
  pub keeps : AreReached old → (routes : List Route) → IsFalse (list_any (λ r. same_prefix r.prefix p) routes) → IsTrie (nodes_of routes old) routes → IsTrie (nodes_of routes changed) routes
  pub reaches : IsTrie (nodes_of [] old) [] → AreReached old → AreReached changed
  pub stays : (j : ℕ) (b : Branch) → j ≢ place → held old j ≡ Some b → (c : Branch) × (held changed j ≡ Some c) × (c.prefix ≡ b.prefix)
  pub free : held changed place ≡ None

-- the branches are the trie of the routes that stand in chains
pub record IsFiledTrie (branches : List (Option Branch)) (entries : List Chained) : Type 0 where
  pub trie : IsTrie (nodes_of (routes_of entries) branches) (routes_of entries)
  pub reached : AreReached branches
  pub filed : AreFiled branches entries
