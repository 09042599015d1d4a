use Rattle.std.proofs.Common.{◌≡◌, ℕ, ◌<◌, None}
use Rattle.network_store.specs.RankIndex.{owner_at}
use Rattle.network_store.proofs.rank_index.RankIndex.first_owner.Given as goal

-- no range of a lower rank holds the UID
abbrev pub invariant-loop-rank : goal.invariant-loop-rank
invariant-loop-rank l = (lower : ℕ) → lower < l.rank → owner_at lower l.uid.number l.self.ranges ≡ None
