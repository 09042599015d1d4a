use Rattle.rule_law.proofs.Beside.{walk-same}
use Rattle.rule_law.proofs.walk_asks.Goals as goal

pub returns : goal.returns
returns g c = λ k gives other none rules. walk-same k gives other none rules
