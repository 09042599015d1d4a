use Rattle.rule_law.proofs.Statements.{any_ends_as_before, ends_as_before}
use Rattle.rule_law.proofs.ends_as_before.Goals as goal

pub returns-clause-of_a_plan : goal.returns-clause-of_a_plan
returns-clause-of_a_plan g c = ends_as_before

pub returns-clause-of_any : goal.returns-clause-of_any
returns-clause-of_any g c = any_ends_as_before
