use Rattle.policy_state.proofs.Tables.{table-rises, table-behind_own}
use Rattle.policy_state.proofs.laws.table_rises.Goals as goal

pub returns-clause-rises : goal.returns-clause-rises
returns-clause-rises c = table-rises

pub returns-clause-behind_own : goal.returns-clause-behind_own
returns-clause-behind_own c = table-behind_own
