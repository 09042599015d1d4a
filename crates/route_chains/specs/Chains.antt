-- Routes in chains, as contracts see them.
use Rattle.std.specs.Prelude.{◌≡◌, ℕ, ◌==◌, List, ◌∷◌, ◌++◌, map, filter}
use Rattle.prefixes.specs.declared.route.Route.{Route}

-- a route with the number of its chain
pub record Chained : Type 0 where
  pub chain : ℕ
  pub route : Route

pub record ChainsView : Type 0 where
  -- in order of addition
  pub entries : List Chained
  -- the chains have the numbers below this
  pub chains : ℕ
  -- the number of additions that take no memory
  pub room : ℕ

-- the routes of all chains, in order of addition
abbrev pub routes_of : List Chained → List Route
routes_of entries = map (λ (e : Chained). e.route) entries

-- a chain's routes, in order of addition
abbrev pub chain_of : ℕ → List Chained → List Route
chain_of k entries = map (λ (e : Chained). e.route) (filter (λ (e : Chained). e.chain == k) entries)

-- one entry of a list was taken out
pub record TakesOut (old new : List Chained) (e : Chained) : Type 0 where
  pub before : List Chained
  pub after : List Chained
  pub was : old ≡ before ++ e ∷ after
  pub is : new ≡ before ++ after
