use Rattle.std.proofs.Common.{arith}
use Rattle.number_text.proofs.Spelled.{digits-of_spelled, decimal-lower}
use Rattle.number_text.proofs.laws.one_text.Goals as goal

pub returns-clause-decimal : goal.returns-clause-decimal
returns-clause-decimal c = λ text n small spells. digits-of_spelled 10 n text (omega arith) (omega arith) small (decimal-lower text spells.numeral.1) spells

pub returns-clause-hexadecimal : goal.returns-clause-hexadecimal
returns-clause-hexadecimal c = λ text n small spells. digits-of_spelled 16 n text (omega arith) (omega arith) small spells.lower spells.number
