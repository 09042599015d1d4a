use Rattle.policy_meaning.proofs.Promised.{barred_stays_in}
use Rattle.policy_meaning.proofs.laws.barred_stays_in.Goals as goal

pub returns : goal.returns
returns c = λ s p good barred not_root. barred_stays_in s p good barred not_root
