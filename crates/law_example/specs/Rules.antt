-- When two rules are alike, when they are equal, and what a rule gives a packet.
use Rattle.std.specs.Prelude.{ℕ, ◌==◌, ◌&&◌, Bool, true, false, Option, Some, None, if◌then◌else◌}
use Rattle.law_example.specs.declared.rule.Packet.{Packet}
use Rattle.law_example.specs.declared.rule.Rule.{Rule}
use Rattle.law_example.specs.declared.rule.Verdict.{Verdict}
use Rattle.law_example.specs.declared.rule.Verdict.TheVariants.{Table}

abbrev pub same_mark : Option ℕ → Option ℕ → Bool
same_mark None None = true
same_mark None (Some n) = false
same_mark (Some m) None = false
same_mark (Some m) (Some n) = m == n

-- equal priority and equal selectors; the mark is the one selector
abbrev pub alike_rules : Rule → Rule → Bool
alike_rules a b = (a.priority == b.priority) && same_mark a.mark b.mark

abbrev pub same_rule : Rule → Rule → Bool
same_rule a b = alike_rules a b && (a.table == b.table)

-- whether a stated mark, or none, selects the packets of this mark
abbrev pub selects : Option ℕ → ℕ → Bool
selects None mark = true
selects (Some stated) mark = stated == mark

-- what a rule gives a packet, or nothing
abbrev pub gives : Packet → Rule → Option Verdict
gives packet rule = if selects rule.mark packet.mark then Some (Table rule.table) else None
