use Rattle.word_text.specs.Kinds.{kinds_in}
use Rattle.script_reader.proofs.Steps.{Fills, kinds_from}
use Rattle.script_reader.proofs.read.read_form.Given as goal

abbrev pub invariant-loop-kind : goal.invariant-loop-kind
invariant-loop-kind l = Fills (kinds_in l.kinds) (kinds_from l.kinds l.kind-index) l.fn.words l.words l.values l.list.items
