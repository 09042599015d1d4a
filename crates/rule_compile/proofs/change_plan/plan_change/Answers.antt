use Rattle.std.proofs.Common.{◌∙◌}
use Rattle.std.proofs.lemmas.Result.{IfOk-weaker}
use Rattle.rule_compile.proofs.TouchedPlans.{planned-is}
use Rattle.rule_compile.proofs.change_plan.plan_change.Goals as goal

pub returns : goal.returns
returns c command names same =
    IfOk-weaker c.planned.result _ _ (λ plan is. is ∙ planned-is c.args.state.now c.goodness.ensures.formed c.args.change.now c.requires.fits c.requires.good_after.formed command names same) c.planned.ensures
