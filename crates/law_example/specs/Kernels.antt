-- A kernel, as the requests that it has carried out.
use Rattle.std.specs.Prelude.{List, []}
use Rattle.rule_law.specs.Rules.{walk}
use Rattle.rule_law.specs.Plans.{Request, Add, Delete, after}
use Rattle.law_example.specs.Rules.{gives}
use Rattle.law_example.specs.Kinds.{rule_kind}
use Rattle.law_example.specs.declared.rule.Packet.{Packet}
use Rattle.law_example.specs.declared.rule.Rule.{Rule}
use Rattle.law_example.specs.declared.rule.Verdict.{Verdict}
use Rattle.law_example.specs.declared.rule.Verdict.TheVariants.{Unreachable}
use Rattle.law_example.specs.declared.kernel.Entry.{Entry}
use Rattle.law_example.specs.declared.kernel.Entry.TheVariants.{Added, Deleted}

-- the request of which an entry tells
abbrev pub request_of : Entry → Request Rule
request_of (Added rule) = Add rule
request_of (Deleted rule) = Delete rule

-- the rules of the kernel: it began with none
abbrev pub rules_of : List (Request Rule) → List Rule
rules_of history = after rule_kind history []

-- what a list of rules does with a packet
abbrev pub verdict_by : Packet → List Rule → Verdict
verdict_by packet rules = walk (gives packet) Unreachable rules
