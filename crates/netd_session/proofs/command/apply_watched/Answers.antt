use Rattle.std.proofs.Common.{rules, ◌≡◌, ◌∙◌, ◌≤◌, ◌++◌, ℕ, List, Option, Ok, length, ap, sym, arith}
use Rattle.kernel_model.specs.Form.{AreWellFormed}
use Rattle.kernel_model.specs.State.{KernelState}
use Rattle.kernel_model.specs.View.{KernelView, state_of}
use Rattle.kernel_model.specs.declared.request.Entry.{Entry}
use Rattle.net_control.specs.Applied.{IsAnswered}
use Rattle.net_control.specs.Bounds.{KeepsLimit}
use Rattle.net_control.specs.Causes.{HasCause}
use Rattle.net_control.specs.Moments.{GoesOnce, KeepsLockdown, KeepsPolicy, SendsByPolicy}
use Rattle.net_control.specs.View.{IsKept}
use Rattle.packet_trace.specs.Changes.{changes_since}
use Rattle.policy_state.specs.Step.{changed}
use Rattle.policy_state.specs.View.{StateView}
use Rattle.rule_match.specs.declared.packet.Packet.{Packet}
use Rattle.turn_text.specs.declared.answer.Answer.TheVariants as answer
use Rattle.netd_session.specs.Watches.{noted_text, requests_text}
use Rattle.netd_session.proofs.Unwatched.{answered_under, bounded_under, caused_under, few_under, kept_under, locked_under, moments_under, moved, moved_journals, moved_one, moved_states, once_under, said_under, sends_under}
use Rattle.netd_session.proofs.command.apply_watched.Goals as goal

pub put_requests-requires : goal.put_requests-requires
put_requests-requires g c =
    let few : length (changes_since c.apply-result.new.kernel.packet c.apply-result.new.kernel.since (g.K.Kernel.seen c.apply-result.new.kernel.inner.now).journal) ≤ 2 =
    few_under (g.K.Kernel.seen c.new-watched.result.inner.now) (g.K.Kernel.seen c.apply-result.new.kernel.inner.now)
    c.new-watched.result.packet c.apply-result.new.kernel.packet c.new-watched.result.since c.apply-result.new.kernel.since
    c.new-watched.result.inner.ghost_name c.apply-result.new.kernel.inner.ghost_name
    c.args.controller.now.state (changed c.args.controller.now.state c.args.command.now) (c.apply-result.ensures.moments c.requires.runs)
    (c.new-watched.ensures.since ∙ ap (λ (v : KernelView). length v.journal) (sym c.new-watched.ensures.view)) in
    record { room = omega (arith, few, c.requires.room) }

pub returns-clause-answer : goal.returns-clause-answer
returns-clause-answer g c =
    moved (λ (k l : KernelView). IsAnswered c.apply-result.result c.args.command.now c.args.controller.now c.apply-result.new.self k l) _ _ (g.K.Kernel.seen c.new-watched.result.inner.now) (g.K.Kernel.seen c.apply-result.new.kernel.inner.now) (sym c.new-watched.ensures.view) (search rules)
    (answered_under (g.K.Kernel.seen c.new-watched.result.inner.now) (g.K.Kernel.seen c.apply-result.new.kernel.inner.now)
    c.new-watched.result.packet c.apply-result.new.kernel.packet c.new-watched.result.since c.apply-result.new.kernel.since
    c.new-watched.result.inner.ghost_name c.apply-result.new.kernel.inner.ghost_name
    c.apply-result.result c.args.command.now c.args.controller.now c.apply-result.new.self c.apply-result.ensures.answer)

pub returns-clause-caused : goal.returns-clause-caused
returns-clause-caused g c =
    moved (λ (k l : KernelView). HasCause c.apply-result.result c.args.command.now c.args.controller.now c.apply-result.new.self k l) _ _ (g.K.Kernel.seen c.new-watched.result.inner.now) (g.K.Kernel.seen c.apply-result.new.kernel.inner.now) (sym c.new-watched.ensures.view) (search rules)
    (caused_under (g.K.Kernel.seen c.new-watched.result.inner.now) (g.K.Kernel.seen c.apply-result.new.kernel.inner.now)
    c.new-watched.result.packet c.apply-result.new.kernel.packet c.new-watched.result.since c.apply-result.new.kernel.since
    c.new-watched.result.inner.ghost_name c.apply-result.new.kernel.inner.ghost_name
    c.apply-result.result c.args.command.now c.args.controller.now c.apply-result.new.self c.apply-result.ensures.caused)

pub returns-clause-bounded : goal.returns-clause-bounded
returns-clause-bounded g c =
    moved (λ (k l : KernelView). KeepsLimit c.args.controller.now.state c.args.command.now k l) _ _ (g.K.Kernel.seen c.new-watched.result.inner.now) (g.K.Kernel.seen c.apply-result.new.kernel.inner.now) (sym c.new-watched.ensures.view) (search rules)
    (bounded_under (g.K.Kernel.seen c.new-watched.result.inner.now) (g.K.Kernel.seen c.apply-result.new.kernel.inner.now)
    c.new-watched.result.packet c.apply-result.new.kernel.packet c.new-watched.result.since c.apply-result.new.kernel.since
    c.new-watched.result.inner.ghost_name c.apply-result.new.kernel.inner.ghost_name
    c.args.controller.now.state c.args.command.now c.apply-result.ensures.bounded)

pub returns-clause-formed : goal.returns-clause-formed
returns-clause-formed g c =
    moved_journals (λ (i j : List Entry). AreWellFormed i → AreWellFormed j) _ _ (g.K.Kernel.seen c.new-watched.result.inner.now).journal (g.K.Kernel.seen c.apply-result.new.kernel.inner.now).journal
    (search rules) (search rules) c.apply-result.ensures.formed

pub returns-clause-moments : goal.returns-clause-moments
returns-clause-moments g c =
    moved (λ (k l : KernelView). KeepsPolicy k l c.args.controller.now.state (changed c.args.controller.now.state c.args.command.now)) _ _ (g.K.Kernel.seen c.new-watched.result.inner.now) (g.K.Kernel.seen c.apply-result.new.kernel.inner.now) (sym c.new-watched.ensures.view) (search rules)
    (moments_under (g.K.Kernel.seen c.new-watched.result.inner.now) (g.K.Kernel.seen c.apply-result.new.kernel.inner.now)
    c.new-watched.result.packet c.apply-result.new.kernel.packet c.new-watched.result.since c.apply-result.new.kernel.since
    c.new-watched.result.inner.ghost_name c.apply-result.new.kernel.inner.ghost_name
    c.args.controller.now.state (changed c.args.controller.now.state c.args.command.now) (c.apply-result.ensures.moments c.requires.runs))

pub returns-clause-locked : goal.returns-clause-locked
returns-clause-locked g c =
    moved (λ (k l : KernelView). KeepsLockdown k l c.args.controller.now.state (changed c.args.controller.now.state c.args.command.now)) _ _ (g.K.Kernel.seen c.new-watched.result.inner.now) (g.K.Kernel.seen c.apply-result.new.kernel.inner.now) (sym c.new-watched.ensures.view) (search rules)
    (locked_under (g.K.Kernel.seen c.new-watched.result.inner.now) (g.K.Kernel.seen c.apply-result.new.kernel.inner.now)
    c.new-watched.result.packet c.apply-result.new.kernel.packet c.new-watched.result.since c.apply-result.new.kernel.since
    c.new-watched.result.inner.ghost_name c.apply-result.new.kernel.inner.ghost_name
    c.args.controller.now.state (changed c.args.controller.now.state c.args.command.now) (c.apply-result.ensures.moments c.requires.runs) (c.apply-result.ensures.locked c.requires.runs))

pub returns-clause-once : goal.returns-clause-once
returns-clause-once g c =
    moved (λ (k l : KernelView). GoesOnce k l c.args.controller.now.state (changed c.args.controller.now.state c.args.command.now)) _ _ (g.K.Kernel.seen c.new-watched.result.inner.now) (g.K.Kernel.seen c.apply-result.new.kernel.inner.now) (sym c.new-watched.ensures.view) (search rules)
    (once_under (g.K.Kernel.seen c.new-watched.result.inner.now) (g.K.Kernel.seen c.apply-result.new.kernel.inner.now)
    c.new-watched.result.packet c.apply-result.new.kernel.packet c.new-watched.result.since c.apply-result.new.kernel.since
    c.new-watched.result.inner.ghost_name c.apply-result.new.kernel.inner.ghost_name
    c.args.controller.now.state (changed c.args.controller.now.state c.args.command.now) (c.apply-result.ensures.moments c.requires.runs) (c.apply-result.ensures.once c.requires.runs))

pub returns-clause-as_before : goal.returns-clause-as_before
returns-clause-as_before g c =
    moved_states (λ (i j : KernelState). (request : ℕ) → c.apply-result.result ≡ Ok (answer.KernelRefused request) → j ≡ i) _ _
    (state_of (g.K.Kernel.seen c.new-watched.result.inner.now)) (state_of (g.K.Kernel.seen c.apply-result.new.kernel.inner.now))
    (ap state_of (sym c.new-watched.ensures.view)) (first_of (search rules, grind arith, cc)) c.apply-result.ensures.as_before

pub returns-clause-kept : goal.returns-clause-kept
returns-clause-kept g c =
    moved_one (λ (l : KernelView). IsKept c.apply-result.new.self l) _ (g.K.Kernel.seen c.apply-result.new.kernel.inner.now) (search rules)
    (kept_under c.apply-result.new.self (g.K.Kernel.seen c.apply-result.new.kernel.inner.now) c.apply-result.new.kernel.packet c.apply-result.new.kernel.since c.apply-result.new.kernel.inner.ghost_name c.apply-result.ensures.kept)

pub returns-clause-sends : goal.returns-clause-sends
returns-clause-sends g c =
    moved_one (λ (l : KernelView). SendsByPolicy c.apply-result.new.self l) _ (g.K.Kernel.seen c.apply-result.new.kernel.inner.now) (search rules)
    (sends_under c.apply-result.new.self (g.K.Kernel.seen c.apply-result.new.kernel.inner.now) c.apply-result.new.kernel.packet c.apply-result.new.kernel.since c.apply-result.new.kernel.inner.ghost_name c.apply-result.ensures.sends)

pub returns-clause-text : goal.returns-clause-text
returns-clause-text g c =
    moved (λ (k l : KernelView). c.put_requests.new.out.items ≡ c.args.out.now.items ++ requests_text c.args.number c.apply-result.new.self.state c.args.packet k l) _ _ (g.K.Kernel.seen c.new-watched.result.inner.now) (g.K.Kernel.seen c.apply-result.new.kernel.inner.now) (sym c.new-watched.ensures.view) (search rules)
    (c.put_requests.ensures.text
    ∙ (ap (λ (s : StateView). c.args.out.now.items ++ noted_text c.args.number s (changes_since c.apply-result.new.kernel.packet c.apply-result.new.kernel.since (g.K.Kernel.seen c.apply-result.new.kernel.inner.now).journal)) c.state.ensures
    ∙ (ap (λ (text : List ℕ). c.args.out.now.items ++ text) (said_under (g.K.Kernel.seen c.new-watched.result.inner.now) (g.K.Kernel.seen c.apply-result.new.kernel.inner.now)
    c.new-watched.result.packet c.apply-result.new.kernel.packet c.new-watched.result.since c.apply-result.new.kernel.since
    c.new-watched.result.inner.ghost_name c.apply-result.new.kernel.inner.ghost_name
    c.args.controller.now.state (changed c.args.controller.now.state c.args.command.now) (c.apply-result.ensures.moments c.requires.runs) c.args.number c.apply-result.new.self.state (c.new-watched.ensures.since ∙ ap (λ (v : KernelView). length v.journal) (sym c.new-watched.ensures.view)))
    ∙ ap (λ (p : Option Packet). c.args.out.now.items ++ requests_text c.args.number c.apply-result.new.self.state p (g.K.Kernel.seen c.new-watched.result.inner.now) (g.K.Kernel.seen c.apply-result.new.kernel.inner.now)) c.new-watched.ensures.packet)))
