use Rattle.std.proofs.Common.{◌≡◌, cond, None, take}
use Rattle.uid_ranges.specs.declared.ranked.Ranked.{Ranked}
use Rattle.network_store.specs.RankIndex.{owner_of, has_among}
use Rattle.network_store.proofs.rank_index.RankIndex.remove_among.Given as goal

-- those so far that are among the ranges belong to none
abbrev pub invariant-loop-one : goal.invariant-loop-one
invariant-loop-one l =
    (r : Ranked) → owner_of l.self.ranges r ≡ cond (has_among l.gone (take l.one-index l.list) r) None (owner_of l.initial.self.ranges r)
