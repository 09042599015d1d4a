use Rattle.rule_law.proofs.Keys.{TurnsInto-joined}
use Rattle.rule_law.proofs.parts_by_key.Goals as goal

pub returns : goal.returns
returns g c = λ k key key_of old new parts shown d s t h. TurnsInto-joined k key key_of shown old new parts s t d h
