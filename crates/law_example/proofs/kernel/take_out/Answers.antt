use Rattle.std.proofs.Common.{◌∙◌, sym, ap, None, Some}
use Rattle.std.specs.List.{remove}
use Rattle.law_example.specs.Rules.{same_rule}
use Rattle.list_lemmas.proofs.Positions.{position_cases}
use Rattle.rule_law.proofs.Places.{without-remove, without-absent}
use Rattle.law_example.specs.Kinds.{rule_kind}
use Rattle.law_example.proofs.kernel.take_out.Goals as goal

pub returns-in-Some : goal.returns-in-Some
returns-in-Some c =
    let at : _ = position_cases (λ other. same_rule c.args.rule.now other) c.args.rules.now.items (Some c.in-Some.place)
    (sym c.in-Some.is ∙ rw c.deref.ensures.value at c.find_rule.ensures) in
    c.remove.ensures.items ∙ (ap (λ n. remove c.args.rules.now.items n) at.0 ∙ sym (without-remove rule_kind c.args.rule.now c.args.rules.now.items at.1))

pub returns-in_default : goal.returns-in_default
returns-in_default c =
    let past : _ = position_cases (λ other. same_rule c.args.rule.now other) c.args.rules.now.items None
    (sym c.in_default.is ∙ rw c.deref.ensures.value at c.find_rule.ensures) in
    sym (without-absent rule_kind c.args.rule.now c.args.rules.now.items past)
