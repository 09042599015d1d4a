use Rattle.law_example.proofs.TwoTables.{conditions}
use Rattle.law_example.proofs.tables.may_change.Goals as goal

pub returns : goal.returns
returns c = conditions
