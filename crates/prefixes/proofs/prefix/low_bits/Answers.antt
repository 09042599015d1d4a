use Rattle.std.proofs.Common.{◌-◌, ◌∙◌, ap, sym, bit_and}
use Rattle.std.proofs.lemmas.Nat.{and_mask, one_shl}
use Rattle.prefixes.proofs.Bits.{low-past}
use Rattle.prefixes.proofs.prefix.low_bits.Goals as goal

pub returns-then-count-lt128 : goal.returns-then-count-lt128
returns-then-count-lt128 c =
    ap (λ x. bit_and c.args.value (x - 1)) (one_shl c.args.count 128 c.if-count-lt128.true) ∙ and_mask c.args.value c.args.count

pub returns-else-count-lt128 : goal.returns-else-count-lt128
returns-else-count-lt128 c = sym (low-past c.args.value 128 c.args.count c.ranges.value.fits c.if-count-lt128.false)
