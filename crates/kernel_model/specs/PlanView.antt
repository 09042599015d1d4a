-- What contracts see of a plan.
use Rattle.std.specs.Prelude.{List}
use Rattle.kernel_model.specs.declared.request.Request.{Request}

pub record PlanView : Type 0 where
  pub adds : List Request
  pub deletes : List Request
