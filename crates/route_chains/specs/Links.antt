-- Slots that are full or empty. A chain's slots are linked in their order, from the chain's head.
use Rattle.std.specs.Prelude.{◌≡◌, ℕ, ◌+◌, ◌<◌, ◌≤◌, ◌==◌, Bool, true, false, List, [], ◌∷◌, Option, Some, None, length, get_or, slice_set}
use Rattle.std.specs.Option.{option_map}
use Rattle.route_chains.specs.declared.slot.Slot.{Slot}
use Rattle.route_chains.specs.Chains.{Chained}
use Rattle.route_chains.specs.Places.{held}

abbrev pub entry_of : Slot → Chained
entry_of s = record { chain = s.chain; route = s.route }

-- what the full slots hold, in their order
abbrev pub entries_of : List (Option Slot) → List Chained
entries_of [] = []
entries_of (None ∷ slots) = entries_of slots
entries_of (Some s ∷ slots) = entry_of s ∷ entries_of slots

abbrev pub is_of : ℕ → Option Slot → Bool
is_of k None = false
is_of k (Some s) = s.chain == k

-- the slot at a place is full, and of this chain
abbrev pub is_at : ℕ → List (Option Slot) → ℕ → Bool
is_at k slots place = is_of k (held slots place)

-- the first place of a chain's slots from a place on, or none
abbrev pub IsNext : ℕ → List (Option Slot) → ℕ → Option ℕ → Type 0
IsNext k slots from None = (m : ℕ) → from ≤ m → is_at k slots m ≡ false
IsNext k slots from (Some place) = (from ≤ place) × (is_at k slots place ≡ true) × ((m : ℕ) → from ≤ m → m < place → is_at k slots m ≡ false)

-- each slot is linked to the next one of its chain
abbrev pub AreLinked : List (Option Slot) → Type 0
AreLinked slots = (place : ℕ) (s : Slot) → held slots place ≡ Some s → IsNext s.chain slots (place + 1) s.next

-- each slot is of a chain that is there
abbrev pub AreWithin : List (Option Slot) → ℕ → Type 0
AreWithin slots chains = (place : ℕ) (s : Slot) → held slots place ≡ Some s → s.chain < chains

-- each chain begins at its head
abbrev pub AreHeads : List (Option Slot) → List (Option ℕ) → Type 0
AreHeads slots heads = (k : ℕ) (d : Option ℕ) → k < length heads → IsNext k slots 0 (get_or heads k d)

-- the slots are in chains, and these are the heads
pub record AreChains (slots : List (Option Slot)) (heads : List (Option ℕ)) : Type 0 where
  pub linked : AreLinked slots
  pub begun : AreHeads slots heads
  pub within : AreWithin slots (length heads)

-- the slot that a search ended before, or the head, is linked to another place
abbrev pub with_next : Option ℕ → Slot → Slot
with_next next s = record { chain = s.chain; route = s.route; next = next }

abbrev pub relinked : List (Option Slot) → Option ℕ → Option ℕ → List (Option Slot)
relinked slots None next = slots
relinked slots (Some before) next = slice_set slots before (option_map (with_next next) (held slots before))

abbrev pub reheaded : List (Option ℕ) → ℕ → Option ℕ → Option ℕ → List (Option ℕ)
reheaded heads k None next = slice_set heads k next
reheaded heads k (Some before) next = heads
