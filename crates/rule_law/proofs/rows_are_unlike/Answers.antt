use Rattle.rule_law.proofs.Unlike.{TurnsInto-unlike}
use Rattle.rule_law.proofs.rows_are_unlike.Goals as goal

pub returns : goal.returns
returns g c = TurnsInto-unlike
