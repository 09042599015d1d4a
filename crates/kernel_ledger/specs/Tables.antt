-- Tables of routes with their room, and the table for which a route's room is there.
use Rattle.std.specs.Prelude.{ℕ, ◌+◌, ◌==◌, List, [], ◌∷◌, length, Option}
use Rattle.std.specs.List.{position_or_len}
use Rattle.kernel_model.specs.State.{NumberedTable}
use Rattle.prefixes.specs.declared.route.Route.{Route}

pub record RoomyTable : Type 0 where
  pub number : ℕ
  pub routes : List Route
  -- the number of routes that may be added without memory
  pub room : ℕ

pub record TablesView : Type 0 where
  pub tables : List NumberedTable
  pub ready : Option ℕ

abbrev pub table_of : RoomyTable → NumberedTable
table_of t = record { number = t.number; routes = t.routes }

abbrev pub place_of : ℕ → List RoomyTable → ℕ
place_of n ts = position_or_len (λ t. t.number == n) ts

abbrev pub empty : RoomyTable
empty = record { number = 0; routes = []; room = 0 }

-- the number of the routes of all tables together
abbrev pub route_total : List NumberedTable → ℕ
route_total [] = 0
route_total (t ∷ ts) = length t.routes + route_total ts
