use Rattle.report_text.proofs.InTurn.{one_fails, one_more}
use Rattle.report_text.specs.Trails.{step_text}
use Rattle.report_text.proofs.trail.write_trail.Goals as goal

pub returns-in_err-write_step : goal.returns-in_err-write_step
returns-in_err-write_step c =
    one_fails step_text c.args.trail.now.steps c.loop-place.place c.step_at-step.result c.from_residual.result c.step_at-step.ensures
    c.from_residual.ensures.0 c.loop-place.invariant c.in_err-write_step.ensures

pub loop-place-preserved : goal.loop-place-preserved
loop-place-preserved c =
    one_more step_text c.args.trail.now.steps c.loop-place.place c.step_at-step.result c.step_at-step.ensures c.loop-place.invariant c.in_ok-write_step.ensures
