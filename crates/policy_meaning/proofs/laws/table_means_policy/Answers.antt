use Rattle.policy_meaning.proofs.Meaning.{table_means_policy}
use Rattle.policy_meaning.proofs.laws.table_means_policy.Goals as goal

pub returns : goal.returns
returns c = table_means_policy
