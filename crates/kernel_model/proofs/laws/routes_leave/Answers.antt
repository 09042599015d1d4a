use Rattle.kernel_model.proofs.LeavingRoutes.{routes_leave}
use Rattle.kernel_model.proofs.laws.routes_leave.Goals as goal

pub returns : goal.returns
returns c = λ link gone routes dest bound order. routes_leave dest bound link gone order routes
