use Rattle.std.proofs.Common.{◌≡◌}
use Rattle.policy_meaning.proofs.AnswersInTurn.{rank_says, from_rank}
use Rattle.policy_meaning.proofs.holders.ask_holders.Given as goal

-- what is said at all ranks is what is said from this one on
abbrev pub invariant-loop-rank : goal.invariant-loop-rank
invariant-loop-rank l = from_rank (rank_says l.holder l.state l.packet) 0 ≡ from_rank (rank_says l.holder l.state l.packet) l.rank
