use Rattle.std.proofs.Common.{sym, rules}
use Rattle.std.proofs.lemmas.List.Sorted.{IsPartitionPoint-from_clause}
use Rattle.number_runs.proofs.Heads.{parted-index, prefix_len-point}
use Rattle.number_runs.proofs.find.place_in.Goals as goal

pub returns-clause-place : goal.returns-clause-place
returns-clause-place g c =
    let p = g.T.Test.passes c.args.test.now in
    let point =
    IsPartitionPoint-from_clause p _ _ c.partition_point.ensures.partitioned (parted-index p c.args.run.now c.requires) (λ a r q k. search rules) in
    sym (prefix_len-point p c.args.run.now c.partition_point.result c.partition_point.ensures.bound point.0 point.1)
