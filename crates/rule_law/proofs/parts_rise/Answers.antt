use Rattle.rule_law.proofs.Keys.{Rises-joined, each_rises}
use Rattle.rule_law.proofs.parts_rise.Goals as goal

pub returns-clause-rises : goal.returns-clause-rises
returns-clause-rises g c = λ k key low rows parts d s. (Rises-joined k key rows low parts s d (each_rises k key rows parts s)).0

pub returns-clause-none_below : goal.returns-clause-none_below
returns-clause-none_below g c = λ k key low rows parts d s. (Rises-joined k key rows low parts s d (each_rises k key rows parts s)).1
