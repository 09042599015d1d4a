use Rattle.std.proofs.Common.{length}
use Rattle.addr_text.proofs.Rows.{ReadSoFar}
use Rattle.addr_text.proofs.row.read_parts.Given as goal

abbrev pub invariant-loop-first : goal.invariant-loop-first
invariant-loop-first l = ReadSoFar l.form l.text l.parts.items l.rest

abbrev pub decreases-loop-first : goal.decreases-loop-first
decreases-loop-first l = length l.rest
