-- Each node is reached by its own prefix, and each route stands in the chain of the node of its prefix.
use Rattle.std.specs.Prelude.{◌≡◌, ℕ, Bool, false, All, List, [], Option, Some, None}
use Rattle.std.specs.Option.{option_map, option_map_or}
use Rattle.prefixes.specs.Addr.{family_of}
use Rattle.prefixes.specs.Prefix.{same_prefix}
use Rattle.prefixes.specs.declared.prefix.Prefix.{Prefix}
use Rattle.fib_search.specs.Node.{root_of}
use Rattle.fib_search.specs.Trie.{LeadsTo, Leads}
use Rattle.route_chains.specs.Places.{held}
use Rattle.route_chains.specs.Chains.{Chained}
use Rattle.fib_trie.specs.declared.branch.Branch.{Branch}
use Rattle.fib_trie.specs.Branches.{nodes_of}

abbrev pub prefix_at : List (Option Branch) → ℕ → Option Prefix
prefix_at branches place = option_map (λ (b : Branch). b.prefix) (held branches place)

-- the node at a place has this prefix
abbrev pub is_prefix_at : List (Option Branch) → ℕ → Prefix → Bool
is_prefix_at branches place p = option_map_or (λ (b : Branch). same_prefix b.prefix p) (held branches place) false

-- from the root of its family the prefix leads to this place
abbrev pub IsPlaceOf : List (Option Branch) → Prefix → ℕ → Type 0
IsPlaceOf branches p place = LeadsTo (nodes_of [] branches) p place (root_of (family_of p.base))

abbrev pub AreReached : List (Option Branch) → Type 0
AreReached branches = (place : ℕ) (b : Branch) → held branches place ≡ Some b → IsPlaceOf branches b.prefix place

-- the place of the node of a prefix, or none where it leads to no node
abbrev pub IsPlace : List (Option Branch) → Prefix → Option ℕ → Type 0
IsPlace branches p None = Leads (nodes_of [] branches) p (root_of (family_of p.base)) → ⊥
IsPlace branches p (Some place) = IsPlaceOf branches p place

-- a chain has the number of a node's place
abbrev pub AreFiled : List (Option Branch) → List Chained → Type 0
AreFiled branches entries = All (λ e. prefix_at branches e.chain ≡ Some e.route.prefix) entries
