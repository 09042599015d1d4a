use Rattle.addr_text.proofs.Written.{groups_text-recommended, one_recommended}
use Rattle.addr_text.proofs.laws.recommended_text.Goals as goal

pub returns-clause-is : goal.returns-clause-is
returns-clause-is c = groups_text-recommended

pub returns-clause-one : goal.returns-clause-one
returns-clause-one c = one_recommended
