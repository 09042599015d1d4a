use Rattle.std.proofs.Common.{◌≤◌, sym, arith, rules}
use Rattle.std.proofs.lemmas.List.Sorted.{IsPartitionPoint-from_clause}
use Rattle.std.proofs.lemmas.List.Sums.{prefix_len_is}
use Rattle.uid_ranges.specs.declared.range.UidRange.{UidRange}
use Rattle.network_store.specs.RankIndex.{ends_before}
use Rattle.network_store.specs.declared.rank_index.OwnedRange.{OwnedRange}
use Rattle.network_store.proofs.Sorted.{parted}
use Rattle.network_store.proofs.rank_index.place_of.Goals as goal

pub returns-clause-place : goal.returns-clause-place
returns-clause-place c =
    let test = λ (e : OwnedRange). ends_before c.args.rank c.args.uid.number e.range in
    let point = IsPartitionPoint-from_clause test _ _ c.partition_point.ensures.partitioned (parted c.args.rank c.args.uid.number c.args.ranges.now c.requires) (λ a r q k. search rules) in
    let bound = c.partition_point.ensures.bound in
    let itself : c.args.uid.number ≤ c.args.uid.number = omega arith in
    let users : UidRange = record { first = c.args.uid; last = c.args.uid; ordered = itself } in
    let any : OwnedRange = record { range = record { users = users; rank = c.args.rank }; owner = 0 } in
    sym (prefix_len_is test c.args.ranges.now c.partition_point.result any bound (λ k h. point.0 k any (omega arith) h) (λ h. point.1 c.partition_point.result any (omega arith) h))
