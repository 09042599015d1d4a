use Rattle.std.proofs.Common.{◌∙◌, sym}
use Rattle.rule_index.proofs.Nexts.{match-here, match-past}
use Rattle.rule_index.proofs.index.RuleIndexRuleStore.next_match.Goals as goal

pub returns-in_err-rule : goal.returns-in_err-rule
returns-in_err-rule c =
    c.from_residual.ensures ∙ sym (match-past c.args.packet.now c.args.self.now.list c.args.from c.args.from (sym c.rule_at.ensures ∙ c.in_err-rule.was))

pub returns-then-matches : goal.returns-then-matches
returns-then-matches c =
    sym (match-here c.args.packet.now c.args.self.now.list c.args.from c.args.from c.in_ok-rule.rule (sym c.rule_at.ensures ∙ c.in_ok-rule.was) (sym c.if-matches.ensures))
