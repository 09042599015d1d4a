use Rattle.policy_meaning.proofs.Promised.{stays-with_more_after, stays-with_more_before}
use Rattle.policy_meaning.proofs.laws.more_networks_stay_in.Goals as goal

pub returns-clause-after : goal.returns-clause-after
returns-clause-after c = stays-with_more_after

pub returns-clause-before : goal.returns-clause-before
returns-clause-before c = stays-with_more_before
