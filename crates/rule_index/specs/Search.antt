-- The least spot whose rule matches.
use Rattle.std.specs.Prelude.{◌≡◌, ℕ, Bool, false, not, ◌&&◌, List, [], ◌∷◌, if◌then◌else◌, nat_lt, drop, slice_get, Option, Some, None}
use Rattle.std.specs.List.{find, AllByRecursion}
use Rattle.rule_match.specs.Rule.{matches, same_rule}
use Rattle.rule_match.specs.declared.packet.Packet.{Packet}
use Rattle.rule_match.specs.declared.rule.Rule.{Rule}
use Rattle.rule_index.specs.declared.spot.Spot.{Spot}
use Rattle.rule_index.specs.Spots.{below, flat, keyed_of}
use Rattle.rule_index.specs.Sorted.{place_of}

-- whether the rule is there and passes
abbrev pub passes : (Rule → Bool) → Option Rule → Bool
passes p None = false
passes p (Some r) = p r

-- the same of the rule of a spot
abbrev pub rule_passes : (Rule → Bool) → List Rule → Spot → Bool
rule_passes p rules s = passes p (slice_get rules s.number)

-- whether the rule of the spot matches, and the spot isn't before this one in the list
abbrev pub fits : List Rule → Packet → Spot → Spot → Bool
fits rules p from s = not (below (flat s) from) && rule_passes (λ r. matches r p) rules s

-- the earlier of what was found and of this spot, where it fits
abbrev pub better : List Rule → Packet → Spot → Option Spot → Spot → Option Spot
better rules p from None s = if fits rules p from s then Some s else None
better rules p from (Some best) s = if below (flat s) (flat best) && fits rules p from s then Some s else Some best

-- the earliest of what was found and of the spots that fit
abbrev pub least : List Rule → Packet → Spot → Option Spot → List Spot → Option Spot
least rules p from found [] = found
least rules p from found (s ∷ ss) = least rules p from (better rules p from found s) ss

-- whether the spot has a greater priority than what was found
abbrev pub is_past : Option Spot → Spot → Bool
is_past None s = false
is_past (Some best) s = nat_lt best.priority s.priority

-- each spot is where its rule stands
abbrev pub IsKeyed : List Rule → Spot → Type 0
IsKeyed rules s = (r : Rule) → slice_get rules s.number ≡ Some r → s ≡ keyed_of r s.number

abbrev pub AreKeyed : List Rule → List Spot → Type 0
AreKeyed rules ss = AllByRecursion (IsKeyed rules) ss

-- whether this rule arrived with the number
abbrev pub is_number_of : List Rule → Rule → ℕ → Bool
is_number_of rules rule n = passes (same_rule rule) (slice_get rules n)

abbrev pub is_same : List Rule → Rule → Spot → Bool
is_same rules rule s = is_number_of rules rule s.number

-- the first spot from this one on whose rule is the given one
abbrev pub first_same : List Rule → Rule → Spot → List Spot → Option Spot
first_same rules rule start ss = find (is_same rules rule) (drop (place_of start ss) ss)
