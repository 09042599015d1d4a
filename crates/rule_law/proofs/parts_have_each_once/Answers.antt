use Rattle.rule_law.proofs.Keys.{HasEachOnce-joined}
use Rattle.rule_law.proofs.parts_have_each_once.Goals as goal

pub returns : goal.returns
returns g c = λ k key key_of rows parts d s o. HasEachOnce-joined k key key_of rows parts s d o
