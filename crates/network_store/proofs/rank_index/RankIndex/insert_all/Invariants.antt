use Rattle.std.proofs.Common.{◌≡◌, ◌≤◌, ◌+◌, cond, Some, false, length, take, drop}
use Rattle.uid_ranges.specs.Ranges.{AreDisjoint}
use Rattle.uid_ranges.specs.Ranks.{all_at}
use Rattle.uid_ranges.specs.declared.ranked.Ranked.{Ranked}
use Rattle.network_store.specs.RankIndex.{owner_of, has_ranked, any_meets}
use Rattle.network_store.proofs.rank_index.RankIndex.insert_all.Given as goal

-- those so far belong to the network, and the others fit in
abbrev pub invariant-loop-users : goal.invariant-loop-users
invariant-loop-users l =
    ((r : Ranked) → owner_of l.self.ranges r ≡ cond (has_ranked (all_at l.rank (take l.users-index l.more)) r) (Some l.owner) (owner_of l.initial.self.ranges r))
    × (length l.more ≤ l.self.room + l.users-index)
    × AreDisjoint (drop l.users-index l.more)
    × (any_meets l.rank (drop l.users-index l.more) l.self.ranges ≡ false)
