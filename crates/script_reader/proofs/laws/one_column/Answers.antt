use Rattle.script_reader.specs.BadLines.{IsLine}
use Rattle.script_reader.proofs.OneColumn.{one_column}
use Rattle.script_reader.proofs.laws.one_column.Goals as goal

pub returns : goal.returns
returns c = one_column IsLine
