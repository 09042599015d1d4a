-- What contracts see of a kernel, and what a request makes of it.
use Rattle.std.specs.Prelude.{ℕ, ◌+◌, ◌-◌, ◌<◌, ◌^◌, List, ◌++◌, length, filter, Option, Some, None, IsTrue, ◌&&◌, if◌then◌else◌}
use Rattle.rule_match.specs.declared.packet.Packet.{Packet}
use Rattle.kernel_model.specs.State.{KernelState, is_route, start}
use Rattle.kernel_model.specs.Journal.{replay, is_addition, is_refused, is_broken, well_asked, Listed}
use Rattle.kernel_model.specs.declared.request.Entry.{Entry}

-- which additions are refused and which deletions break, by their numbers from 1
pub record Lists : Type 0 where
  pub refuse : List ℕ
  pub breaks : List ℕ

-- a kernel that watches a packet, or none, over another kernel
pub record Watching : Type 0 where
  pub packet : Option Packet
  -- the length of the journal when the watching began
  pub since : ℕ
  -- the name of the reference by which it stands over the other
  pub over : ℕ

-- all that requests and arming change
pub record KernelView : Type 0 where
  pub journal : List Entry
  -- none in a kernel that keeps no such lists
  pub lists : Option Lists
  -- those that watch, the outermost first
  pub watching : List Watching

-- the number of requests for which room is there, and the table for which a route's room is there
pub record Room : Type 0 where
  pub spare : ℕ
  pub ready : Option ℕ

abbrev pub state_of : KernelView → KernelState
state_of k = replay k.journal

-- how many additions were refused, and how many deletions broke
abbrev pub refusals_of : KernelView → ℕ
refusals_of k = length (filter is_refused k.journal)

abbrev pub breaks_of : KernelView → ℕ
breaks_of k = length (filter is_broken k.journal)

-- these entries more, and nothing else
abbrev pub grown : KernelView → List Entry → KernelView
grown k entries = record k { journal = k.journal ++ entries }

-- room for one request less; asking for a route's addition uses up the room in its table
abbrev pub used : Room → Entry → Room
used room e = record { spare = room.spare - 1; ready = if is_addition e && is_route e.request then None else room.ready }

abbrev pub IfListed : Option Lists → List Entry → Type 0
IfListed None journal = Unit {0}
IfListed (Some lists) journal = Listed lists.refuse lists.breaks journal

-- What holds of every kernel: a request's number is below 2^63, what was asked could be asked, and what failed was listed.
pub record IsSound (k : KernelView) (room : Room) : Type 0 where
  pub fits : length k.journal + room.spare < 2 ^ 63
  pub well_asked : IsTrue (well_asked start k.journal)
  pub listed : IfListed k.lists k.journal
