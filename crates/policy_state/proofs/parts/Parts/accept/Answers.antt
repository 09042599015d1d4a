use Rattle.std.proofs.Common.{◌≡◌, ◌∙◌, true, sym, ap}
use Rattle.std.specs.Prelude.{nat_lt}
use Rattle.net_names.specs.declared.code.Code.TheVariants as code
use Rattle.policy_state.specs.Counts.{rule_count}
use Rattle.policy_state.specs.Good.{most_rules}
use Rattle.policy_state.specs.Parts.{view_of}
use Rattle.policy_state.specs.Step.{because, has_too_many_rules, reasons}
use Rattle.policy_state.specs.View.{StateView}
use Rattle.policy_state.proofs.Accepted.{first-some}
use Rattle.policy_state.proofs.AcceptLemmas.{first-last}
use Rattle.policy_state.proofs.parts.Parts.accept.Goals as goal

pub returns-in-Err-clause-code : goal.returns-in-Err-clause-code
returns-in-Err-clause-code c =
    let s : StateView = view_of c.args.self.now in
    sym (first-some (reasons s c.args.command.now) _ c.in-Err.code (sym c.in-Err.ensures.code))

pub returns-then-has_too_many_rules-clause-code : goal.returns-then-has_too_many_rules-clause-code
returns-then-has_too_many_rules-clause-code c =
    let s : StateView = view_of c.args.self.now in
    let past : has_too_many_rules s c.args.command.now ≡ true =
    ap (λ (t : StateView). nat_lt most_rules (rule_count t)) (sym c.in-Ok.ensures.makes.turned) ∙ (sym c.has_too_many_rules.ensures ∙ c.if-has_too_many_rules.true) in
    sym (first-last (reasons s c.args.command.now) (because code.NoSpace (has_too_many_rules s c.args.command.now)) (sym c.in-Ok.ensures.code) past)
