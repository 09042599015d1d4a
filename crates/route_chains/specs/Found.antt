-- Where a search along a chain ended.
use Rattle.std.specs.Prelude.{◌≡◌, ℕ, ◌+◌, Bool, true, find, List, Option, Some, None}
use Rattle.std.specs.Option.{option_map, option_and_then}
use Rattle.prefixes.specs.declared.route.Route.{Route}
use Rattle.route_chains.specs.declared.slot.Slot.{Slot}
use Rattle.route_chains.specs.Places.{held}
use Rattle.route_chains.specs.Chains.{chain_of}
use Rattle.route_chains.specs.Links.{entries_of, is_at, IsNext}

abbrev pub route_at : List (Option Slot) → Option ℕ → Option Route
route_at slots place = option_map (λ (s : Slot). s.route) (option_and_then (held slots) place)

-- the place from which the chain goes on
abbrev pub past : Option ℕ → ℕ
past None = 0
past (Some place) = place + 1

-- what the chain's head, or the slot at a place, is linked to
abbrev pub link_of : List (Option Slot) → Option ℕ → Option ℕ → Option ℕ
link_of slots head None = head
link_of slots head (Some place) = option_and_then (λ (s : Slot). s.next) (held slots place)

abbrev pub IsOf : ℕ → List (Option Slot) → Option ℕ → Type 0
IsOf k slots None = Unit {0}
IsOf k slots (Some place) = is_at k slots place ≡ true

-- at the chain's first route that passes the test, or at its end; before it stands a slot of the chain, or its head
pub record IsFound (slots : List (Option Slot)) (k : ℕ) (head : Option ℕ) (test : Route → Bool) (before at : Option ℕ) : Type 0 where
  pub before_is : IsOf k slots before
  pub linked : link_of slots head before ≡ at
  pub next : IsNext k slots (past before) at
  pub value : find test (chain_of k (entries_of slots)) ≡ route_at slots at
