-- The way from a root towards a prefix.
use Rattle.std.specs.Prelude.{◌≡◌, ℕ, ◌<◌, ◌≤◌, IsTrue, List, [], Option, Some, None}
use Rattle.prefixes.specs.Addr.{family_of}
use Rattle.prefixes.specs.Prefix.{covers}
use Rattle.prefixes.specs.declared.prefix.Prefix.{Prefix}
use Rattle.fib_trie.specs.declared.branch.Branch.{Branch}
use Rattle.fib_search.specs.Node.{TrieNode, node_at, child, bit_at, root_of}
use Rattle.fib_trie.specs.Branches.{nodes_of, step_from}
use Rattle.route_chains.specs.Places.{held}

pub data Way (nodes : List (Option TrieNode)) (p : Prefix) : ℕ → Type 0 where
  starts : Way nodes p (root_of (family_of p.base))
  steps : (place : ℕ) (node : TrieNode) → Way nodes p place → node_at nodes place ≡ Some node → node.prefix.len < p.len → IsTrue (covers node.prefix p.base)
      → (next : ℕ) → child node (bit_at p.base node.prefix.len) ≡ Some next → Way nodes p next

-- a place on the way, whose prefix covers this one
pub record IsOn (branches : List (Option Branch)) (p : Prefix) (place : ℕ) : Type 0 where
  pub branch : Branch
  pub stands : held branches place ≡ Some branch
  pub short : branch.prefix.len ≤ p.len
  pub within : IsTrue (covers branch.prefix p.base)
  pub way : Way (nodes_of [] branches) p place

-- the last such place
pub record IsStop (branches : List (Option Branch)) (p : Prefix) (place : ℕ) : Type 0 where
  pub on : IsOn branches p place
  pub last : step_from branches p on.branch ≡ None
