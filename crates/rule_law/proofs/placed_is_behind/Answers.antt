use Rattle.rule_law.proofs.Beside.{placed_behind-is}
use Rattle.rule_law.proofs.placed_is_behind.Goals as goal

pub returns : goal.returns
returns g c = placed_behind-is
