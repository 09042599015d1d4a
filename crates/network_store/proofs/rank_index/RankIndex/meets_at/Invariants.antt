use Rattle.std.proofs.Common.{◌≡◌, false, take}
use Rattle.network_store.specs.RankIndex.{any_meets}
use Rattle.network_store.proofs.rank_index.RankIndex.meets_at.Given as goal

-- none of those so far is met
abbrev pub invariant-loop-users : goal.invariant-loop-users
invariant-loop-users l = any_meets l.rank (take l.users-index l.more) l.self.ranges ≡ false
