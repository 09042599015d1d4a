use Rattle.rule_law.proofs.Turning.{TurnsInto-replaced}
use Rattle.rule_law.proofs.rows_are_replaced.Goals as goal

pub returns : goal.returns
returns g c = λ k old new h. TurnsInto-replaced k old new h
