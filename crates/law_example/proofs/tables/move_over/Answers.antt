use Rattle.law_example.proofs.TwoTables.{conditions}
use Rattle.law_example.proofs.tables.move_over.Goals as goal

pub change-requires-clause-tables : goal.change-requires-clause-tables
change-requires-clause-tables c = conditions
