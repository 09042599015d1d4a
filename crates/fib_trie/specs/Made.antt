-- A place for a prefix was made.
use Rattle.std.specs.Prelude.{◌≡◌, ◌≢◌, ℕ, ◌<◌, IsTrue, List, [], Option, Some}
use Rattle.prefixes.specs.Prefix.{covers}
use Rattle.prefixes.specs.declared.prefix.Prefix.{Prefix}
use Rattle.prefixes.specs.declared.route.Route.{Route}
use Rattle.fib_trie.specs.declared.branch.Branch.{Branch}
use Rattle.fib_search.specs.Node.{bit_at, pick}
use Rattle.fib_search.specs.Trie.{IsTrie}
use Rattle.fib_trie.specs.Reached.{prefix_at, IsPlaceOf, AreReached}
use Rattle.fib_trie.specs.Ways.{Way}
use Rattle.fib_trie.specs.Branches.{nodes_of}
use Rattle.route_chains.specs.Places.{held}

-- The branches are the trie of what they were the trie of, and lead to the prefix at this place. They are reached if they
-- were, and each one that stood keeps its prefix.
pub record IsMade (old changed : List (Option Branch)) (p : Prefix) (place : ℕ) : Type 0 where
  pub keeps : (routes : List Route) → IsTrie (nodes_of routes old) routes → IsTrie (nodes_of routes changed) routes
  pub leads : IsPlaceOf changed p place
  pub reaches : IsTrie (nodes_of [] old) [] → AreReached old → AreReached changed
  pub stays : (j : ℕ) (b : Branch) → held old j ≡ Some b → prefix_at changed j ≡ Some b.prefix

-- the branch here is on the way to a longer prefix
pub record IsAbove (branches : List (Option Branch)) (here : ℕ) (branch : Branch) (p : Prefix) : Type 0 where
  pub stands : held branches here ≡ Some branch
  pub longer : branch.prefix.len < p.len
  pub within : IsTrue (covers branch.prefix p.base)
  pub way : Way (nodes_of [] branches) p here

-- its child for the prefix's next bit
pub record IsBelow (branches : List (Option Branch)) (branch : Branch) (p : Prefix) (next : ℕ) (below : Branch) : Type 0 where
  pub by : pick (bit_at p.base branch.prefix.len) branch.zero branch.one ≡ Some next
  pub stands : held branches next ≡ Some below

-- a shorter prefix that both have, and after which their next bits differ
pub record IsFork (fork p q : Prefix) : Type 0 where
  pub covers_one : IsTrue (covers fork p.base)
  pub covers_other : IsTrue (covers fork q.base)
  pub shorter : fork.len < p.len
  pub shorter_other : fork.len < q.len
  pub apart : bit_at p.base fork.len ≢ bit_at q.base fork.len
