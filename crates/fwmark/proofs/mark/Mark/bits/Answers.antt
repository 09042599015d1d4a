use Rattle.std.proofs.Common.{◌∙◌, arith}
use Rattle.std.proofs.lemmas.Grind.{common_steps}
use Rattle.fwmark.proofs.Same.{same_by_word}
use Rattle.fwmark.proofs.mark.Mark.bits.Goals as goal

pub returns-clause-no_other : goal.returns-clause-no_other
returns-clause-no_other c = λ mark fits same. same_by_word mark c.args.self.now fits (omega arith) (same ∙ grind (arith, common_steps))
