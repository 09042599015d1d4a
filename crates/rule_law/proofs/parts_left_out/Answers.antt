use Rattle.rule_law.proofs.Keys.{flat_map-filter}
use Rattle.rule_law.proofs.parts_left_out.Goals as goal

pub returns : goal.returns
returns g c = flat_map-filter
