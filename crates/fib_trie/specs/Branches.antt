-- Nodes whose routes stand in a list beside them.
use Rattle.std.specs.Prelude.{◌≡◌, ℕ, Bool, false, ◌&&◌, not, nat_lt, if◌then◌else◌, map, filter, List, Option, Some, None}
use Rattle.std.specs.Option.{option_map, option_and_then}
use Rattle.prefixes.specs.Prefix.{covers, same_prefix}
use Rattle.prefixes.specs.declared.prefix.Prefix.{Prefix}
use Rattle.prefixes.specs.declared.route.Route.{Route}
use Rattle.route_chains.specs.Places.{held}
use Rattle.fib_search.specs.Node.{TrieNode, bit_at, pick}
use Rattle.fib_trie.specs.declared.branch.Branch.{Branch}

-- a branch with the routes of exactly its prefix
abbrev pub node_of : List Route → Branch → TrieNode
node_of routes branch = record { prefix = branch.prefix; zero = branch.zero; one = branch.one; routes = filter (λ r. same_prefix r.prefix branch.prefix) routes }

abbrev pub nodes_of : List Route → List (Option Branch) → List (Option TrieNode)
nodes_of routes branches = map (option_map (node_of routes)) branches

-- the branch here is on the way to a prefix
abbrev pub leads_on : Option Branch → Prefix → Bool
leads_on None p = false
leads_on (Some here) p = covers here.prefix p.base && not (nat_lt p.len here.prefix.len)

abbrev pub kept_on : List (Option Branch) → Prefix → Option ℕ → Option ℕ
kept_on branches p None = None
kept_on branches p (Some next) = if leads_on (held branches next) p then Some next else None

-- the next place on the way to a prefix
abbrev pub step_from : List (Option Branch) → Prefix → Branch → Option ℕ
step_from branches p here = if nat_lt here.prefix.len p.len then kept_on branches p (pick (bit_at p.base here.prefix.len) here.zero here.one) else None

abbrev pub with_child : Bool → ℕ → Branch → Branch
with_child bit place here = record { prefix = here.prefix; zero = if bit then here.zero else Some place; one = if bit then Some place else here.one }

-- a branch without children
abbrev pub bare : Prefix → Branch
bare p = record { prefix = p; zero = None; one = None }

-- a branch came at an empty place, and is a child of the branch here
pub record IsPlaced (old changed : List (Option Branch)) (here : ℕ) (bit : Bool) (place : ℕ) (new : Branch) : Type 0 where
  pub free : held old place ≡ None
  pub stands_new : held changed place ≡ Some new
  pub stands_here : held changed here ≡ option_map (with_child bit place) (held old here)
  pub rest : (j : ℕ) → (j ≡ here → ⊥) → (j ≡ place → ⊥) → held changed j ≡ held old j

abbrev pub step_to : List (Option Branch) → Prefix → ℕ → Option ℕ
step_to branches p place = option_and_then (step_from branches p) (held branches place)
