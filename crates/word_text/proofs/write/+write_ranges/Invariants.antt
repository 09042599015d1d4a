use Rattle.std.proofs.Common.{length}
use Rattle.word_text.proofs.write.+write_ranges.Given as goal

abbrev pub decreases-write_ranges : goal.decreases-write_ranges
decreases-write_ranges l = length l.list.now
