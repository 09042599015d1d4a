use Rattle.std.proofs.Common.{arith}
use Rattle.addr_text.proofs.Gaps.{gap_at}
use Rattle.addr_text.proofs.split.split_at_gap.Goals as goal

pub returns : goal.returns
returns c = λ left right e. let gap = gap_at c.args.text.now left right e in
    c.loop-place.invariant _ (omega arith) gap.1 gap.2
