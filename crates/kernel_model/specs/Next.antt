-- The next rule of a list that a packet matches: after the ip-rule manual the rules are looked at in their order.
use Rattle.std.specs.Prelude.{ℕ, ◌+◌, List, [], ◌∷◌, if◌then◌else◌, drop, Option, Some, None}
use Rattle.rule_match.specs.Rule.{matches}
use Rattle.rule_match.specs.declared.packet.Packet.{Packet}
use Rattle.rule_match.specs.declared.rule.Rule.{Rule}
use Rattle.kernel_model.specs.declared.found.FoundRule.{FoundRule}

-- the first of the rules that matches, with its place, where the first of them has this place
abbrev pub first_match : Packet → ℕ → List Rule → Option FoundRule
first_match p place [] = None
first_match p place (r ∷ rs) = if matches r p then Some (record { place = place; rule = r }) else first_match p (place + 1) rs

-- the first rule from this place on that matches
abbrev pub next_match : List Rule → Packet → ℕ → Option FoundRule
next_match rules p from = first_match p from (drop from rules)
