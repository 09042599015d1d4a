use Rattle.std.proofs.Common.{◌≡◌, ◌∙◌, ◌+◌, ◌<◌, ℕ, sym, drop, length, get_or, Option, is_some, true, false}
use Rattle.rule_match.specs.declared.verdict.Verdict.{Verdict}
use Rattle.network_store.specs.Stored.{net_of}
use Rattle.policy_meaning.specs.Policy.{first_given, asks_link}
use Rattle.policy_meaning.proofs.AnswersInTurn.{from, speaks, silent}
use Rattle.policy_meaning.proofs.asking.ask_interfaces.Goals as goal

pub returns-then-is_some : goal.returns-then-is_some
returns-then-is_some c =
    let n = c.args.network.now in
    let says : ℕ → Option Verdict = λ link. asks_link (net_of n) link c.args.packet.now in
    let within : c.loop-link.link-index < length n.interfaces.items = rw c.as_slice-link-items.ensures.value at c.loop-link-test.true in
    let here : c.ask_link-answer.result ≡ says (get_or n.interfaces.items c.loop-link.link-index 0) = rw c.as_slice-link-items.ensures.value at c.ask_link-answer.ensures in
    let some : is_some (says (get_or n.interfaces.items c.loop-link.link-index 0)) ≡ true = cc in
    here ∙ sym (c.loop-link.invariant ∙ (from says n.interfaces.items c.loop-link.link-index 0 within ∙ speaks _ (first_given says (drop (c.loop-link.link-index + 1) n.interfaces.items)) some))

pub loop-link-preserved : goal.loop-link-preserved
loop-link-preserved c =
    let n = c.args.network.now in
    let says : ℕ → Option Verdict = λ link. asks_link (net_of n) link c.args.packet.now in
    let within : c.loop-link.link-index < length n.interfaces.items = rw c.as_slice-link-items.ensures.value at c.loop-link-test.true in
    let here : c.ask_link-answer.result ≡ says (get_or n.interfaces.items c.loop-link.link-index 0) = rw c.as_slice-link-items.ensures.value at c.ask_link-answer.ensures in
    let none : is_some (says (get_or n.interfaces.items c.loop-link.link-index 0)) ≡ false = cc in
    c.loop-link.invariant ∙ (from says n.interfaces.items c.loop-link.link-index 0 within ∙ silent _ (first_given says (drop (c.loop-link.link-index + 1) n.interfaces.items)) none)
