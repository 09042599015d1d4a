use Rattle.number_text.proofs.Spelled.{SpellsDecimal-decimal, SpellsHexadecimal-hexadecimal}
use Rattle.number_text.proofs.laws.what_is_written.Goals as goal

pub returns-clause-decimal : goal.returns-clause-decimal
returns-clause-decimal c = SpellsDecimal-decimal

pub returns-clause-hexadecimal : goal.returns-clause-hexadecimal
returns-clause-hexadecimal c = SpellsHexadecimal-hexadecimal
