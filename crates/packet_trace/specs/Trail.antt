-- What contracts see of a trail.
use Rattle.std.specs.Prelude.{List}
use Rattle.rule_match.specs.declared.verdict.Verdict.{Verdict}
use Rattle.kernel_model.specs.declared.step.Step.{Step}

pub record TrailView : Type 0 where
  pub steps : List Step
  pub verdict : Verdict
