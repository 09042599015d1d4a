use Rattle.kernel_model.proofs.Stopped.{moments_go_on}
use Rattle.kernel_model.proofs.laws.moments_go_on.Goals as goal

pub returns : goal.returns
returns c = moments_go_on
