-- The room that a table which is ready has.
use Rattle.std.specs.Prelude.{◌≡◌, ℕ, ◌<◌, ◌≤◌, List, [], Option, Some, None, length, get_or, map}
use Rattle.kernel_ledger.specs.Tables.{RoomyTable, place_of, table_of, empty, route_total}

-- an empty table of this number stands aside, with room
abbrev pub IsAside : ℕ → Option RoomyTable → Type 0
IsAside n fresh = (t : RoomyTable) × (fresh ≡ Some t) × (t.number ≡ n) × (t.routes ≡ []) × (0 < t.room)

-- the table is there and has room, or an empty one stands aside, and there is room to put it last
pub record HasRoom (n : ℕ) (tables : List RoomyTable) (more : ℕ) (fresh : Option RoomyTable) : Type 0 where
  pub there : place_of n tables < length tables → 0 < (get_or tables (place_of n tables) empty).room
  pub last : length tables ≤ place_of n tables → 0 < more
  pub aside : length tables ≤ place_of n tables → IsAside n fresh

abbrev pub ReadyHasRoom : Option ℕ → List RoomyTable → ℕ → Option RoomyTable → Type 0
ReadyHasRoom None tables more fresh = Unit {0}
ReadyHasRoom (Some n) tables more fresh = HasRoom n tables more fresh

-- the table that is ready has its room, and the routes are counted
pub record AreKept (ready : Option ℕ) (tables : List RoomyTable) (more : ℕ) (fresh : Option RoomyTable) (total : ℕ)
    : Type 0 where
  pub ready_has_room : ReadyHasRoom ready tables more fresh
  pub counted : total ≡ route_total (map table_of tables)
