use Rattle.std.proofs.Common.{length}
use Rattle.report_text.proofs.network.+write_joined_names.Given as goal

abbrev pub decreases-write_joined_names : goal.decreases-write_joined_names
decreases-write_joined_names l = length l.links.now
