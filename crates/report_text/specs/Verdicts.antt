-- Where a packet goes, as it is printed.
use Rattle.std.specs.Prelude.{ℕ, List, [], ◌++◌, codes, Option, None, Some}
use Rattle.addr_text.specs.Canonical.{canonical}
use Rattle.policy_state.specs.View.{StateView}
use Rattle.prefixes.specs.declared.addr.Addr.{Addr}
use Rattle.rule_match.specs.declared.verdict.Verdict.{Verdict}
use Rattle.rule_match.specs.declared.verdict.Verdict.TheVariants as verdict
use Rattle.report_text.specs.Links.{link_text}

abbrev pub gateway_text : Option Addr → List ℕ
gateway_text None = []
gateway_text (Some gateway) = codes " via " ++ canonical gateway

abbrev pub verdict_text : StateView → Verdict → List ℕ
verdict_text state verdict.Local = codes "loopback"
verdict_text state (verdict.Out link gateway) = codes "out " ++ link_text state link ++ gateway_text gateway
verdict_text state verdict.Prohibited = codes "prohibited"
verdict_text state verdict.Unreachable = codes "unreachable"
