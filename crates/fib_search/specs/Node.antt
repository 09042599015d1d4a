-- Nodes of a trie, by place.
use Rattle.std.specs.Prelude.{ℕ, ◌+◌, ◌/◌, ◌-◌, ◌%◌, ◌^◌, ◌==◌, Bool, true, false, zero, suc, if◌then◌else◌, nat_lt, List, [], ◌∷◌, Option, Some, None}
use Rattle.prefixes.specs.Addr.{value_of, width_of}
use Rattle.prefixes.specs.Route.{link_of, suits}
use Rattle.prefixes.specs.declared.addr.Addr.{Addr}
use Rattle.prefixes.specs.declared.addr.Family.{Family}
use Rattle.prefixes.specs.declared.addr.Family.TheVariants as family
use Rattle.prefixes.specs.declared.prefix.Prefix.{Prefix}
use Rattle.prefixes.specs.declared.route.Route.{Route}
use Rattle.fib_search.specs.declared.node.NodeView.{NodeView}

-- a node: its prefix, the places of its children, and the routes of exactly its prefix
pub record TrieNode : Type 0 where
  pub prefix : Prefix
  pub zero : Option ℕ
  pub one : Option ℕ
  pub routes : List Route

-- the node at a place, if the place isn't empty
abbrev pub node_at : List (Option TrieNode) → ℕ → Option TrieNode
node_at [] place = None
node_at (here ∷ nodes) zero = here
node_at (here ∷ nodes) (suc place) = node_at nodes place

-- the bit of an address at a place, counted from the highest
abbrev pub bit_at : Addr → ℕ → Bool
bit_at a place = (value_of a / 2 ^ (width_of a - (place + 1)) % 2) == 1

abbrev pub pick : Bool → Option ℕ → Option ℕ → Option ℕ
pick true former latter = latter
pick false former latter = former

-- the child for a next bit
abbrev pub child : TrieNode → Bool → Option ℕ
child node bit = pick bit node.zero node.one

-- the place of the root of a family
abbrev pub root_of : Family → ℕ
root_of family.V4 = 0
root_of family.V6 = 1

-- the first route that suits the binding
abbrev pub first_of : List Route → Option ℕ → Option Route
first_of [] bound = None
first_of (r ∷ rs) bound = if suits (link_of r.out) bound then Some r else first_of rs bound

-- what a read of a node gives
abbrev pub view_of : Option ℕ → TrieNode → NodeView
view_of bound node = record { prefix = node.prefix; zero = node.zero; one = node.one; first = first_of node.routes bound }

-- the number of bits that the node at a place has fixed
abbrev pub level_of : Option TrieNode → ℕ
level_of None = 0
level_of (Some node) = node.prefix.len

-- the child on the way to an address, if a longer prefix may cover it
abbrev pub onward : NodeView → Addr → Option ℕ
onward node addr = if nat_lt node.prefix.len (width_of addr) then pick (bit_at addr node.prefix.len) node.zero node.one else None

abbrev pub or_else : Option Route → Option Route → Option Route
or_else (Some r) other = Some r
or_else None other = other
