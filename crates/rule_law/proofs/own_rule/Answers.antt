use Rattle.rule_law.proofs.Beside.{own-old_and_new, own-plan}
use Rattle.rule_law.proofs.own_rule.Goals as goal

pub returns-clause-tables : goal.returns-clause-tables
returns-clause-tables g c = own-old_and_new

pub returns-clause-plan : goal.returns-clause-plan
returns-clause-plan g c = own-plan
