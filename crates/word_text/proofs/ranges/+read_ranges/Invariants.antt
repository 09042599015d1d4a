use Rattle.std.proofs.Common.{length}
use Rattle.word_text.proofs.ranges.+read_ranges.Given as goal

abbrev pub decreases-read_ranges : goal.decreases-read_ranges
decreases-read_ranges l = length l.word.now
