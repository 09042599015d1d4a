use Rattle.script_reader.specs.Words.{texts, words_of}
use Rattle.script_reader.proofs.OneLine.{one_line_says}
use Rattle.script_reader.proofs.laws.one_line.Goals as goal

pub returns : goal.returns
returns c = λ text a b one other. one_line_says a b (texts (words_of text)) one.says other.says
