use Rattle.std.proofs.Common.{not, rules}
use Rattle.std.proofs.lemmas.Fn.{filter_same}
use Rattle.policy_state.specs.Step.{is_pair}
use Rattle.policy_state.proofs.commit.take_pair.Goals as goal

pub returns : goal.returns
returns c = filter_same _ (λ p. not (is_pair c.args.pair.now p)) _ (λ x b f' k. search rules) c.args.pairs.now.items c.retain.new.self.items c.retain.ensures.filtered
