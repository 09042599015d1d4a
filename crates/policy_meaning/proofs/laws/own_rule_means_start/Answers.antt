use Rattle.policy_meaning.proofs.Meaning.{own_rule_means_start}
use Rattle.policy_meaning.proofs.laws.own_rule_means_start.Goals as goal

pub returns : goal.returns
returns c = own_rule_means_start
