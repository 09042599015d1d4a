-- When nodes are the trie of a list of routes.
use Rattle.std.specs.Prelude.{◌≡◌, ℕ, ◌<◌, ◌⊎◌, Bool, IsTrue, All, filter, List, [], Option, Some}
use Rattle.prefixes.specs.Addr.{family_of}
use Rattle.prefixes.specs.Prefix.{covers, same_prefix}
use Rattle.prefixes.specs.declared.addr.Addr.{Addr}
use Rattle.prefixes.specs.declared.addr.Addr.TheVariants as addr
use Rattle.prefixes.specs.declared.prefix.Prefix.{Prefix}
use Rattle.prefixes.specs.declared.route.Route.{Route}
use Rattle.fib_search.specs.Node.{TrieNode, node_at, child, bit_at, root_of}

-- the root of a family: its prefix has no bit
pub record IsRoot (nodes : List (Option TrieNode)) (place : ℕ) (base : Addr) : Type 0 where
  pub node : TrieNode
  pub stands : node_at nodes place ≡ Some node
  pub from : node.prefix.base ≡ base
  pub short : node.prefix.len ≡ 0

-- a child stands, and its prefix is a longer one within the node's, with this next bit
pub record IsChild (nodes : List (Option TrieNode)) (node : TrieNode) (bit : Bool) (place : ℕ) : Type 0 where
  pub below : TrieNode
  pub stands : node_at nodes place ≡ Some below
  pub longer : node.prefix.len < below.prefix.len
  pub within : IsTrue (covers node.prefix below.prefix.base)
  pub next : bit_at below.prefix.base node.prefix.len ≡ bit

-- From a place a prefix leads to the node at the goal, which has this prefix: on from a shorter prefix that covers it, by
-- the child of its next bit.
pub data LeadsTo (nodes : List (Option TrieNode)) (p : Prefix) (goal : ℕ) : ℕ → Type 0 where
  ends : (node : TrieNode) → node_at nodes goal ≡ Some node → node.prefix ≡ p → LeadsTo nodes p goal goal
  goes_on : (place : ℕ) (node : TrieNode) → node_at nodes place ≡ Some node → node.prefix.len < p.len → IsTrue (covers node.prefix p.base)
      → (next : ℕ) → child node (bit_at p.base node.prefix.len) ≡ Some next → LeadsTo nodes p goal next → LeadsTo nodes p goal place

-- it leads to a node of this prefix
abbrev pub Leads : List (Option TrieNode) → Prefix → ℕ → Type 0
Leads nodes p place = (goal : ℕ) × LeadsTo nodes p goal place

pub record IsTrie (nodes : List (Option TrieNode)) (routes : List Route) : Type 0 where
  pub rooted : (nodes ≡ []) ⊎ (IsRoot nodes 0 (addr.V4 0) × IsRoot nodes 1 (addr.V6 0))
  pub children : (place : ℕ) (node : TrieNode) (bit : Bool) (below : ℕ) → node_at nodes place ≡ Some node → child node bit ≡ Some below → IsChild nodes node bit below
  pub filed : (place : ℕ) (node : TrieNode) → node_at nodes place ≡ Some node → node.routes ≡ filter (λ r. same_prefix r.prefix node.prefix) routes
  pub found : All (λ r. Leads nodes r.prefix (root_of (family_of r.prefix.base))) routes
