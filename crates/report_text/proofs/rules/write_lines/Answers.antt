use Rattle.kernel_model.specs.State.{rules_of}
use Rattle.kernel_model.specs.View.{state_of}
use Rattle.report_text.proofs.InTurn.{one_fails, one_more}
use Rattle.report_text.specs.RuleTexts.{rule_line}
use Rattle.report_text.proofs.rules.write_lines.Goals as goal

pub returns-in_err-write_line : goal.returns-in_err-write_line
returns-in_err-write_line g c =
    one_fails (rule_line c.args.state.now) (rules_of (state_of (g.K.Kernel.seen c.args.kernel.now)) c.args.family) c.loop-place.place c.rule_at-rule.result c.from_residual.result
    c.rule_at-rule.ensures c.from_residual.ensures.0 c.loop-place.invariant c.in_err-write_line.ensures

pub loop-place-preserved : goal.loop-place-preserved
loop-place-preserved g c =
    one_more (rule_line c.args.state.now) (rules_of (state_of (g.K.Kernel.seen c.args.kernel.now)) c.args.family) c.loop-place.place c.rule_at-rule.result
    c.rule_at-rule.ensures c.loop-place.invariant c.in_ok-write_line.ensures
