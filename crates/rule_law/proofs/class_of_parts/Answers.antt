use Rattle.rule_law.proofs.Keys.{class-joined}
use Rattle.rule_law.proofs.class_of_parts.Goals as goal

pub returns : goal.returns
returns g c = class-joined
