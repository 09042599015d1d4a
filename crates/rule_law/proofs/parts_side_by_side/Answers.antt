use Rattle.rule_law.proofs.Turning.{TurnsInto-append}
use Rattle.rule_law.proofs.parts_side_by_side.Goals as goal

pub returns : goal.returns
returns g c = λ k old new old_other new_other a t u. TurnsInto-append k old new old_other new_other a t u
