use Rattle.std.proofs.Common.{sym, rules}
use Rattle.std.proofs.lemmas.List.Sorted.{IsPartitionPoint-from_clause}
use Rattle.number_runs.proofs.Heads.{parted-index, prefix_len-point}
use Rattle.number_runs.proofs.Flat.{ends_run, parted-runs}
use Rattle.number_runs.proofs.find.whole_runs.Goals as goal

pub returns-clause-count : goal.returns-clause-count
returns-clause-count g c =
    let p = g.T.Test.passes c.args.test.now in
    let point =
    IsPartitionPoint-from_clause (ends_run p) _ _ c.partition_point.ensures.partitioned
    (parted-index (ends_run p) c.args.runs.now (parted-runs p c.args.runs.now c.requires.parted c.requires.filled)) (λ a r q k. search rules) in
    sym (prefix_len-point (ends_run p) c.args.runs.now c.partition_point.result c.partition_point.ensures.bound point.0 point.1)
