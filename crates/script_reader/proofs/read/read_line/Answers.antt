use Rattle.std.proofs.Common.{IsTrue, false, inr}
use Rattle.script_reader.specs.BadLines.{IsLine}
use Rattle.script_reader.specs.Cursor.{words_left}
use Rattle.script_reader.specs.Lines.{IsBlank, IsText, script}
use Rattle.script_reader.specs.Words.{texts}
use Rattle.script_reader.proofs.LineOutcomes.{bad_is_no_line, goes_wrong, script_lines}
use Rattle.script_reader.proofs.read.read_line.Goals as goal

bad : goal.returns-in-Err-clause-bad
bad c =
    let is_text : IsText c.args.text.now = c.in_default.ensures in
    let filled : IsBlank (texts (words_left c.of-words.result)) → ⊥ = λ blank. let no : IsTrue false = c.if-is_blank.ensures.1 blank in cc in
    inr (inr (goes_wrong script IsLine script_lines c.of-words.result c.in-Err.column c.in-Err.ensures filled c.args.text.now is_text c.of-words.ensures.words c.of-words.ensures.end))

pub returns-in-Err-clause-bad : goal.returns-in-Err-clause-bad
returns-in-Err-clause-bad c = bad c

pub returns-in-Err-clause-none : goal.returns-in-Err-clause-none
returns-in-Err-clause-none c = λ line spells. bad_is_no_line IsLine c.args.text.now c.in-Err.column (bad c) spells.is_text (line, spells.says)
