use Rattle.rule_law.proofs.Turning.{TurnsInto-conditions, TurnsInto-from}
use Rattle.rule_law.proofs.order_is_one_equation.Goals as goal

pub returns : goal.returns
returns g c = λ k old new. (TurnsInto-conditions k old new, λ h. TurnsInto-from k old new h.0 h.1)
