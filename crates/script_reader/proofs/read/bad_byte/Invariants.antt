use Rattle.std.proofs.Common.{◌≡◌, true, take}
use Rattle.std.specs.List.{list_all}
use Rattle.script_reader.specs.Lines.{is_printable}
use Rattle.script_reader.proofs.read.bad_byte.Given as goal

abbrev pub invariant-loop-place : goal.invariant-loop-place
invariant-loop-place l = list_all is_printable (take l.place l.text) ≡ true
