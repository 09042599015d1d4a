-- Routes in slots, some of which are empty, and the places at which keys find them.
use Rattle.std.specs.Prelude.{◌≡◌, ℕ, ◌-◌, ◌==◌, Bool, true, List, [], ◌∷◌, Option, Some, None, if◌then◌else◌, min, suc, vec_len, vec_capacity}
use Rattle.std.specs.Map.{lookup}
use Rattle.std.specs.Option.{option_map}
use Rattle.std.specs.declared.vec.Vec.{Vec}
use Rattle.indexmap.specs.IndexMap.{IndexMap, spare}
use Rattle.networks.specs.declared.network.LinkRoute.{LinkRoute}
use Rattle.route_store.specs.Keys.{same_route_key, key_of, are_apart}
use Rattle.route_store.specs.declared.key.RouteKey.{RouteKey}

pub record RoutesView : Type 0 where
  pub routes : List LinkRoute
  -- how many routes may be added without memory
  pub room : ℕ

-- what stands in the slots that aren't empty, in order
abbrev pub present : {X : Type 0} → List (Option X) → List X
present [] = []
present (None ∷ slots) = present slots
present (Some x ∷ slots) = x ∷ present slots

-- the place of the first that passes the test
abbrev pub place_of : {X : Type 0} → (X → Bool) → List (Option X) → Option ℕ
place_of p [] = None
place_of p (None ∷ slots) = option_map suc (place_of p slots)
place_of p (Some x ∷ slots) = if p x then Some 0 else option_map suc (place_of p slots)

-- an empty slot in the place of a route of this link
abbrev pub unlinked : ℕ → Option LinkRoute → Option LinkRoute
unlinked link None = None
unlinked link (Some r) = if r.link == link then None else Some r

-- the least of what is left in the slots and in the map
abbrev pub room_of : {A S : Type 0} → Vec (Option LinkRoute) A → IndexMap RouteKey ℕ S → ℕ
room_of slots places = min (vec_capacity slots - vec_len slots) (spare places)

-- no two routes have one key, and the map answers what a search of the slots would
pub record IsPlaced (slots : List (Option LinkRoute)) (places : List (RouteKey × ℕ)) : Type 0 where
  pub apart : are_apart (present slots) ≡ true
  pub by_key : (key : RouteKey) → lookup (same_route_key key) places ≡ place_of (λ r. same_route_key (key_of r) key) slots
