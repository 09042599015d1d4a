-- Going down by what a read gives.
use Rattle.std.proofs.Common.{◌≡◌, ◌↔◌, ℕ, ◌<◌, ◌≤◌, true, false, List, Option, Some, None, refl, sym, ◌∙◌, subst}
use Rattle.std.specs.Option.{option_map}
use Rattle.std.proofs.lemmas.Option.{none-some, same_Some}
use Rattle.prefixes.specs.Addr.{family_of, width_of}
use Rattle.prefixes.specs.Prefix.{covers}
use Rattle.prefixes.specs.Best.{IsBest, best}
use Rattle.prefixes.proofs.Bests.{best-IsBest, IsBest-best}
use Rattle.prefixes.specs.declared.addr.Addr.{Addr}
use Rattle.prefixes.specs.declared.route.Route.{Route}
use Rattle.std.proofs.Math.Logic.{∥∥₁_elim, ∥∥₁_map, ∥∥₁_map₂}
use Rattle.std.proofs.Props.{props}
use Rattle.fib_search.specs.declared.node.NodeView.{NodeView}
use Rattle.fib_search.specs.Node.{TrieNode, node_at, or_else, view_of, onward, root_of}
use Rattle.fib_search.specs.Trie.{IsTrie}
use Rattle.fib_search.proofs.Going.{Going, level, start, level-within, ended, strayed, done, down, deeper}

pub best_exactly : (routes : List Route) (addr : Addr) (bound : Option ℕ) (o : Option Route) → o ≡ best routes addr bound → (r : Route) → (o ≡ Some r) ↔ IsBest routes addr bound r
best_exactly routes addr bound o value r = (λ is. best-IsBest addr bound routes r (sym value ∙ is), λ is. value ∙ IsBest-best addr bound routes r is)

pub record Seen (nodes : List (Option TrieNode)) (bound : Option ℕ) (place : ℕ) (view : NodeView) : Type 0 where
  pub node : TrieNode
  pub stands : node_at nodes place ≡ Some node
  pub is : view_of bound node ≡ view

seen_of : (nodes : List (Option TrieNode)) (bound : Option ℕ) (place : ℕ) (view : NodeView) (o : Option TrieNode) → node_at nodes place ≡ o → Some view ≡ option_map (view_of bound) o → Seen nodes bound place view
seen_of nodes bound place view None at read = absurd (none-some view (sym read))
seen_of nodes bound place view (Some node) at read = record { node = node; stands = at; is = sym (same_Some view (view_of bound node) read) }

none_of : (bound : Option ℕ) (o : Option TrieNode) → None ≡ option_map (view_of bound) o → o ≡ None
none_of bound None read = refl
none_of bound (Some node) read = absurd (none-some (view_of bound node) read)

option_route_prop : (a b : Option Route) → IsProp (a ≡ b)
option_route_prop a b = hlevel props

lt_prop : (a b : ℕ) → IsProp (a < b)
lt_prop a b = hlevel props

le_prop : (a b : ℕ) → IsProp (a ≤ b)
le_prop a b = hlevel props

-- what is read of the same nodes
pub read_of : (bound : Option ℕ) (place : ℕ) (o : Option NodeView) (ns ms : List (Option TrieNode)) → ns ≡ ms → o ≡ option_map (view_of bound) (node_at ns place) → o ≡ option_map (view_of bound) (node_at ms place)
read_of bound place o ns ms same read = subst (λ nodes. o ≡ option_map (view_of bound) (node_at nodes place)) same read

pub start_view : (nodes : List (Option TrieNode)) (routes : List Route) → ∥ IsTrie nodes routes ∥₁ → (addr : Addr) (bound : Option ℕ) → ∥ Going nodes routes addr bound (root_of (family_of addr)) None ∥₁
start_view nodes routes trie addr bound = ∥∥₁_map trie (λ t. start nodes routes t addr bound)

module _ (nodes : List (Option TrieNode)) (routes : List Route) (trie : ∥ IsTrie nodes routes ∥₁) (addr : Addr) (bound : Option ℕ) (place : ℕ) (found : Option Route) (going : ∥ Going nodes routes addr bound place found ∥₁) where
  pub within_view : level nodes place ≤ width_of addr
  within_view = ∥∥₁_elim trie (le_prop _ _) (λ t. ∥∥₁_elim going (le_prop _ _) (λ g. level-within nodes routes t addr bound place found g))

  pub ended_view : None ≡ option_map (view_of bound) (node_at nodes place) → found ≡ best routes addr bound
  ended_view read = ∥∥₁_elim trie (option_route_prop _ _) (λ t. ∥∥₁_elim going (option_route_prop _ _) (λ g. ended nodes routes t addr bound place found g (none_of bound (node_at nodes place) read)))

  module _ (view : NodeView) (read : Some view ≡ option_map (view_of bound) (node_at nodes place)) where
    seen : Seen nodes bound place view
    seen = seen_of nodes bound place view (node_at nodes place) refl read

    pub strayed_view : covers view.prefix addr ≡ false → found ≡ best routes addr bound
    strayed_view = subst (λ (v : NodeView). covers v.prefix addr ≡ false → found ≡ best routes addr bound) seen.is
        (λ apart. ∥∥₁_elim trie (option_route_prop _ _) (λ t. ∥∥₁_elim going (option_route_prop _ _) (λ g. strayed nodes routes t addr bound place found g seen.node seen.stands apart)))

    pub done_view : covers view.prefix addr ≡ true → onward view addr ≡ None → or_else view.first found ≡ best routes addr bound
    done_view = subst (λ (v : NodeView). covers v.prefix addr ≡ true → onward v addr ≡ None → or_else v.first found ≡ best routes addr bound) seen.is
        (λ cover none. ∥∥₁_elim trie (option_route_prop _ _) (λ t. ∥∥₁_elim going (option_route_prop _ _) (λ g. done nodes routes t addr bound place found g seen.node seen.stands cover none)))

    pub deeper_view : covers view.prefix addr ≡ true → (next : ℕ) → onward view addr ≡ Some next → level nodes place < level nodes next
    deeper_view = subst (λ (v : NodeView). covers v.prefix addr ≡ true → (next : ℕ) → onward v addr ≡ Some next → level nodes place < level nodes next) seen.is
        (λ cover next is. ∥∥₁_elim trie (lt_prop _ _) (λ t. ∥∥₁_elim going (lt_prop _ _) (λ g. deeper nodes routes t addr bound place found g seen.node seen.stands cover next is)))

    pub down_view : covers view.prefix addr ≡ true → (next : ℕ) → onward view addr ≡ Some next → ∥ Going nodes routes addr bound next (or_else view.first found) ∥₁
    down_view = subst (λ (v : NodeView). covers v.prefix addr ≡ true → (next : ℕ) → onward v addr ≡ Some next → ∥ Going nodes routes addr bound next (or_else v.first found) ∥₁) seen.is
        (λ cover next is. ∥∥₁_map₂ trie going (λ t g. down nodes routes t addr bound place found g seen.node seen.stands cover next is))
