use Rattle.std.proofs.Common.{length}
use Rattle.uid_ranges.proofs.list.+self_meets.Given as goal

abbrev pub decreases-self_meets : goal.decreases-self_meets
decreases-self_meets l = length l.list.now
