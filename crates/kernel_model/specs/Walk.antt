-- Where a kernel sends a packet, after the ip-rule manual.
use Rattle.std.specs.Prelude.{ℕ, ◌==◌, if◌then◌else◌, List, [], ◌∷◌, Option, Some, None, is_some}
use Rattle.std.specs.Option.{option_map}
use Rattle.prefixes.specs.Addr.{family_of}
use Rattle.prefixes.specs.Best.{answer}
use Rattle.prefixes.specs.declared.route.Answer.{Answer}
use Rattle.prefixes.specs.declared.route.Answer.TheVariants as to
use Rattle.rule_law.specs.Rules as law
use Rattle.rule_match.specs.Rule.{matches}
use Rattle.rule_match.specs.declared.rule.Action.{Action}
use Rattle.rule_match.specs.declared.rule.Action.TheVariants as action
use Rattle.rule_match.specs.declared.packet.Packet.{Packet}
use Rattle.rule_match.specs.declared.rule.Rule.{Rule}
use Rattle.rule_match.specs.declared.verdict.Verdict.{Verdict}
use Rattle.rule_match.specs.declared.verdict.Verdict.TheVariants as verdict
use Rattle.kernel_model.specs.State.{KernelState, NumberedTable, rules_of, routes_of, device_table}
use Rattle.kernel_model.specs.declared.step.Step.{Step}

-- what a table's answer means: a device route of table 255, the device table, leads to the device itself
abbrev pub verdict_by : ℕ → Answer → Verdict
verdict_by n (to.Out link gateway) = if n == device_table then verdict.Local else verdict.Out link gateway
verdict_by n to.Unreachable = verdict.Unreachable

-- what an action gives the packet: a table that answers nothing lets the walk go on
abbrev pub gives : List NumberedTable → Action → Packet → Option Verdict
gives tables (action.Table n) packet = option_map (verdict_by n) (answer (routes_of n tables) packet.dest packet.outgoing)
gives tables action.Prohibit packet = Some verdict.Prohibited
gives tables action.Unreachable packet = Some verdict.Unreachable

-- what a rule gives the packet: nothing where it doesn't match
abbrev pub rule_gives : List NumberedTable → Packet → Rule → Option Verdict
rule_gives tables packet rule = if matches rule packet then gives tables rule.action packet else None

-- what the first rule that gives something gives
abbrev pub walk_rules : List NumberedTable → Packet → List Rule → Verdict
walk_rules tables packet rules = law.walk (rule_gives tables packet) verdict.Unreachable rules

abbrev pub walk : KernelState → Packet → Verdict
walk k packet = walk_rules k.tables packet (rules_of k (family_of packet.dest))

abbrev pub step_of : Rule → Step
step_of rule = record { priority = rule.priority; action = rule.action }

-- the rules that match, up to the one that decides
abbrev pub trail_rules : List NumberedTable → Packet → List Rule → List Step
trail_rules tables packet [] = []
trail_rules tables packet (rule ∷ rules) =
    if matches rule packet
    then step_of rule ∷ (if is_some (gives tables rule.action packet) then [] else trail_rules tables packet rules)
    else trail_rules tables packet rules

abbrev pub trail_of : KernelState → Packet → List Step
trail_of k packet = trail_rules k.tables packet (rules_of k (family_of packet.dest))
