use Rattle.std.proofs.Common.{refl, rules}
use Rattle.word_text.proofs.Nothing.{first_values}
use Rattle.word_text.proofs.values.Values.nothing.Goals as goal

pub returns : goal.returns
returns c = first_values c.unwrap-lo.result _ _ _ (search rules) refl refl refl refl refl
