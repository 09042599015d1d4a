use Rattle.std.proofs.Common.{◌==◌, not, rules}
use Rattle.std.proofs.lemmas.Fn.{filter_same}
use Rattle.policy_state.proofs.commit.take_pairs_by.Goals as goal

pub returns : goal.returns
returns c = filter_same _ (λ p. not (p.out == c.args.link)) _ (λ x b f' k. search rules) c.args.pairs.now.items c.retain.new.self.items c.retain.ensures.filtered
