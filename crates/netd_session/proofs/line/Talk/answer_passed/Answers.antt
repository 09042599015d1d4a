use Rattle.std.proofs.Common.{◌≡◌, ◌∙◌, Some, ap, sym, refl}
use Rattle.kernel_model.specs.View.{state_of}
use Rattle.kernel_model.specs.Walk.{trail_of}
use Rattle.net_names.specs.declared.code.Code.TheVariants as code
use Rattle.policy_meaning.specs.Policy.{policy}
use Rattle.policy_state.specs.View.{StateView, link_named}
use Rattle.rule_match.specs.Packet.{lo}
use Rattle.script_reader.specs.declared.line.Line.TheVariants as line
use Rattle.script_reader.specs.declared.line.TraceLine.TheVariants as trace
use Rattle.netd_session.proofs.Taking.{refused, told}
use Rattle.netd_session.proofs.Traces.{loopback_line, passed_line}
use Rattle.netd_session.specs.Answers.{passed_text}
use Rattle.netd_session.specs.Talks.{stands}
use Rattle.netd_session.specs.declared.turn.Said.TheVariants as said
use Rattle.netd_session.proofs.line.Talk.answer_passed.Goals as goal

pub returns-in-Some-passed-clause-answers : goal.returns-in-Some-passed-clause-answers
returns-in-Some-passed-clause-answers g c =
    let kernel = g.K.Kernel.seen c.args.kernel.now in
    let s = stands c.args.self.now kernel in
    let e = stands c.answer_packet.new.self kernel in
    let packet = c.in-Some-passed.packet in
    let known : link_named c.args.self.now.controller.state c.args.link.now ≡ Some c.in-Some.index =
    ap (λ (v : StateView). link_named v c.args.link.now) (sym c.state.ensures) ∙ (sym c.link_named.ensures ∙ c.in-Some.is) in
    told (line.Trace (trace.Passed c.args.link.now c.args.dest)) c.answer_packet.result (said.Went packet.mark (policy c.args.self.now.controller.state packet))
    (passed_text c.args.self.now.controller.state (policy c.args.self.now.controller.state packet) (trail_of (state_of kernel) packet)) c.args.number s e _ _ c.answer_packet.new.self.answer.items
    (passed_line c.args.number s e c.answer_packet.new.self.answer.items c.args.link.now c.args.dest c.in-Some.index packet known c.in-Some-passed.ensures.some)
    c.answer_packet.ensures.stays c.answer_packet.ensures.ok c.answer_packet.ensures.text c.answer_packet.ensures.err

pub returns-in-None-passed-clause-answers : goal.returns-in-None-passed-clause-answers
returns-in-None-passed-clause-answers g c =
    let kernel = g.K.Kernel.seen c.args.kernel.now in
    let s = stands c.args.self.now kernel in
    let e = stands c.refuse.new.self kernel in
    let known : link_named c.args.self.now.controller.state c.args.link.now ≡ Some c.in-Some.index =
    ap (λ (v : StateView). link_named v c.args.link.now) (sym c.state.ensures) ∙ (sym c.link_named.ensures ∙ c.in-Some.is) in
    let loopback : c.in-Some.index ≡ lo = c.in-None-passed.ensures.none.0 refl in
    refused (line.Trace (trace.Passed c.args.link.now c.args.dest)) c.refuse.result code.Invalid c.args.number s e _ _ c.refuse.new.self.answer.items
    (loopback_line c.args.number s e c.refuse.new.self.answer.items c.args.link.now c.args.dest c.in-Some.index known loopback)
    c.refuse.ensures.stays c.refuse.ensures.ok c.refuse.ensures.text c.refuse.ensures.err
