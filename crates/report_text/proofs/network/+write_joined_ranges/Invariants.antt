use Rattle.std.proofs.Common.{length}
use Rattle.report_text.proofs.network.+write_joined_ranges.Given as goal

abbrev pub decreases-write_joined_ranges : goal.decreases-write_joined_ranges
decreases-write_joined_ranges l = length l.ranges.now
