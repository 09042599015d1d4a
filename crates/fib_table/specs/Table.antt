-- Tables of routes.
use Rattle.std.specs.Prelude.{ℕ, Bool, true, ◌==◌, ◌&&◌, not, List, [], ◌∷◌, map, filter}
use Rattle.std.specs.List.{list_any}
use Rattle.prefixes.specs.Route.{same_route, same_key}
use Rattle.prefixes.specs.declared.route.Route.{Route}

pub record TableView : Type 0 where
  pub routes : List Route
  -- the number of additions that take no memory
  pub room : ℕ

-- a route of this one's key stands in the list
abbrev pub has_key : List Route → Route → Bool
has_key routes r = list_any (λ other. same_key other r) routes

-- the route stands in the list
abbrev pub has_route : List Route → Route → Bool
has_route routes r = list_any (λ other. same_route other r) routes

-- the other routes, in their order
abbrev pub without_route : List Route → Route → List Route
without_route routes r = filter (λ other. not (same_route other r)) routes

-- no two routes have one key
abbrev pub are_keys_distinct : List Route → Bool
are_keys_distinct [] = true
are_keys_distinct (r ∷ rs) = not (has_key rs r) && are_keys_distinct rs

-- of routes with the numbers of their tables those of this table, in order
abbrev pub routes_in : ℕ → List (ℕ × Route) → List Route
routes_in n routes = map (λ (r : ℕ × Route). r.1) (filter (λ (r : ℕ × Route). r.0 == n) routes)
