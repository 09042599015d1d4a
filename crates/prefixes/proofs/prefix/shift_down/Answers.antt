use Rattle.std.proofs.Common.{sym}
use Rattle.prefixes.proofs.Bits.{shift-past}
use Rattle.prefixes.proofs.prefix.shift_down.Goals as goal

pub returns-else-by-lt128 : goal.returns-else-by-lt128
returns-else-by-lt128 c = sym (shift-past c.args.value 128 c.args.by c.ranges.value.fits c.if-by-lt128.false)
