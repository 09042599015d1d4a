use Rattle.rule_law.proofs.Beside.{GiversAreAlike-append}
use Rattle.rule_law.proofs.givers_side_by_side.Goals as goal

pub returns : goal.returns
returns g c = λ k gives rows others. GiversAreAlike-append k gives rows others
