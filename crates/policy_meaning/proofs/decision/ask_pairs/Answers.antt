use Rattle.std.proofs.Common.{◌≡◌, ◌∙◌, ◌+◌, ◌<◌, sym, drop, length, get_or, Option, is_some, true, false}
use Rattle.policy_state.specs.declared.tether.TetherPair.{TetherPair}
use Rattle.policy_meaning.specs.Policy.{first_given, asks_pair, by_routes}
use Rattle.policy_meaning.proofs.AnswersInTurn.{from, speaks, silent}
use Rattle.rule_match.specs.declared.verdict.Verdict.{Verdict}
use Rattle.policy_meaning.proofs.decision.ask_pairs.Goals as goal

abbrev none : TetherPair
none = record { input = 0; out = 0 }

pub returns-then-is_some : goal.returns-then-is_some
returns-then-is_some c =
    let s = c.args.state.now in
    let says : TetherPair → Option Verdict = asks_pair (by_routes c.args.packet.now) s c.args.packet.now in
    let i = c.loop-pair.pair-index in
    let within : i < length s.pairs = rw c.pairs-pair-items.ensures at c.loop-pair-test.true in
    let here : c.ask_pair-answer.result ≡ says (get_or s.pairs i none) = rw c.pairs-pair-items.ensures at c.ask_pair-answer.ensures in
    let some : is_some (says (get_or s.pairs i none)) ≡ true = cc in
    here ∙ sym (c.loop-pair.invariant ∙ (from says s.pairs i none within ∙ speaks _ (first_given says (drop (i + 1) s.pairs)) some))

pub loop-pair-preserved : goal.loop-pair-preserved
loop-pair-preserved c =
    let s = c.args.state.now in
    let says : TetherPair → Option Verdict = asks_pair (by_routes c.args.packet.now) s c.args.packet.now in
    let i = c.loop-pair.pair-index in
    let within : i < length s.pairs = rw c.pairs-pair-items.ensures at c.loop-pair-test.true in
    let here : c.ask_pair-answer.result ≡ says (get_or s.pairs i none) = rw c.pairs-pair-items.ensures at c.ask_pair-answer.ensures in
    let none_said : is_some (says (get_or s.pairs i none)) ≡ false = cc in
    c.loop-pair.invariant ∙ (from says s.pairs i none within ∙ silent _ (first_given says (drop (i + 1) s.pairs)) none_said)
