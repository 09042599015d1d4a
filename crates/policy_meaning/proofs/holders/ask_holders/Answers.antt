use Rattle.std.proofs.Common.{◌≡◌, ◌∙◌, ◌+◌, ℕ, sym, Option, is_some, true, false}
use Rattle.rule_match.specs.declared.verdict.Verdict.{Verdict}
use Rattle.policy_meaning.proofs.AnswersInTurn.{rank_says, from_rank, from_rank-next, from_rank-end, from_rank-all, speaks, silent}
use Rattle.policy_meaning.proofs.holders.ask_holders.Goals as goal

pub returns-then-is_some : goal.returns-then-is_some
returns-then-is_some c =
    let says : ℕ → Option Verdict = rank_says c.args.holder c.args.state.now c.args.packet.now in
    let some : is_some (says c.loop-rank.rank) ≡ true = cc in
    c.ask_at_rank-answer.ensures
    ∙ sym (sym (from_rank-all c.args.holder c.args.state.now c.args.packet.now)
    ∙ (c.loop-rank.invariant ∙ (from_rank-next says c.loop-rank.rank c.loop-rank-test.true ∙ speaks (says c.loop-rank.rank) (from_rank says (c.loop-rank.rank + 1)) some)))

pub loop-rank-preserved : goal.loop-rank-preserved
loop-rank-preserved c =
    let says : ℕ → Option Verdict = rank_says c.args.holder c.args.state.now c.args.packet.now in
    let none : is_some (says c.loop-rank.rank) ≡ false = cc in
    c.loop-rank.invariant ∙ (from_rank-next says c.loop-rank.rank c.loop-rank-test.true ∙ silent (says c.loop-rank.rank) (from_rank says (c.loop-rank.rank + 1)) none)

pub returns : goal.returns
returns c =
    let says : ℕ → Option Verdict = rank_says c.args.holder c.args.state.now c.args.packet.now in
    sym (sym (from_rank-all c.args.holder c.args.state.now c.args.packet.now) ∙ (c.loop-rank.invariant ∙ from_rank-end says c.loop-rank.rank c.loop-rank-test.false))
