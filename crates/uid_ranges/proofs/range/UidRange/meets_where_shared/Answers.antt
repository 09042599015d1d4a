use Rattle.uid_ranges.proofs.Shared.{shared_of-meets, meets_from_shared}
use Rattle.uid_ranges.proofs.range.UidRange.meets_where_shared.Goals as goal

pub returns : goal.returns
returns c = (shared_of-meets c.args.one c.args.other, λ shared. meets_from_shared c.args.one c.args.other shared.0 shared.1 shared.2)
