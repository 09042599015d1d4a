-- Verdicts: what a table's answer becomes, and when two are equal.
use Rattle.std.specs.Prelude.{Bool, true, false, ◌&&◌, ◌==◌}
use Rattle.std.specs.Option.{option_eq}
use Rattle.prefixes.specs.Addr.{same_addr}
use Rattle.prefixes.specs.declared.route.Answer.{Answer}
use Rattle.prefixes.specs.declared.route.Answer.TheVariants as answer
use Rattle.rule_match.specs.declared.verdict.Verdict.{Verdict}
use Rattle.rule_match.specs.declared.verdict.Verdict.TheVariants as verdict

abbrev pub verdict_of : Answer → Verdict
verdict_of (answer.Out link gateway) = verdict.Out link gateway
verdict_of answer.Unreachable = verdict.Unreachable

abbrev pub same_verdict : Verdict → Verdict → Bool
same_verdict verdict.Local verdict.Local = true
same_verdict (verdict.Out i g) (verdict.Out j h) = (i == j) && option_eq same_addr g h
same_verdict verdict.Prohibited verdict.Prohibited = true
same_verdict verdict.Unreachable verdict.Unreachable = true
same_verdict _ _ = false
