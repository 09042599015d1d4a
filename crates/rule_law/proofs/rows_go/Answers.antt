use Rattle.rule_law.proofs.Turning.{TurnsInto-part}
use Rattle.rule_law.proofs.rows_go.Goals as goal

pub returns : goal.returns
returns g c = TurnsInto-part
