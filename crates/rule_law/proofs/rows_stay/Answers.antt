use Rattle.rule_law.proofs.Turning.{TurnsInto-same}
use Rattle.rule_law.proofs.rows_stay.Goals as goal

pub returns : goal.returns
returns g c = TurnsInto-same
