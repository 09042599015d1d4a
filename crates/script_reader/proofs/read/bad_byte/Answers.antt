use Rattle.std.proofs.Common.{inr, sym}
use Rattle.script_reader.proofs.Bytes.{bad_byte_at}
use Rattle.script_reader.proofs.read.bad_byte.Goals as goal

pub returns-then-not-is_printable : goal.returns-then-not-is_printable
returns-then-not-is_printable c = inr (bad_byte_at c.args.text.now _ c.if-text-gt-LINE_LIMIT.false c.loop-place-test.true c.loop-place.invariant (sym c.if-not-is_printable.ensures))
