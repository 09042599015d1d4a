use Rattle.number_text.proofs.Appending.{rewritten}
use Rattle.script_reader.specs.Parts.{parts_of}
use Rattle.script_reader.proofs.PrintedLines.{printed_is}
use Rattle.script_reader.proofs.print.print_line.Goals as goal

pub returns-in-Some : goal.returns-in-Some
returns-in-Some c = rewritten (printed_is (parts_of c.args.line.now) c.in-Some.form c.in-Some.v c.in-Some.list c.kinds.result.now c.in-Some.ensures c.kinds.ensures) c.write_line.ensures
