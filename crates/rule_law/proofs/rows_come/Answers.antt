use Rattle.rule_law.proofs.Turning.{TurnsInto-more}
use Rattle.rule_law.proofs.rows_come.Goals as goal

pub returns : goal.returns
returns g c = TurnsInto-more
