use Rattle.std.proofs.Common.{◌==◌}
use Rattle.list_lemmas.proofs.Positions.{position_cases}
use Rattle.kernel_ledger.proofs.tables.find_table.Goals as goal

pub returns : goal.returns
returns c = position_cases (λ t. t.number == c.args.number) c.args.tables.now c.position_of.result c.position_of.ensures
