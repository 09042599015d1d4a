use Rattle.std.proofs.Common.{◌≡◌, ◌∙◌, Some, ap, sym}
use Rattle.policy_state.specs.View.{StateView, link_named}
use Rattle.script_reader.specs.declared.line.Line.TheVariants as line
use Rattle.script_reader.specs.declared.line.TraceLine.TheVariants as trace
use Rattle.netd_session.proofs.Taking.{packet_told}
use Rattle.netd_session.proofs.Traces.{bound_line, unbound_line}
use Rattle.netd_session.specs.Talks.{stands}
use Rattle.netd_session.proofs.line.Talk.answer_made.Goals as goal

pub returns-in-None-clause-answers : goal.returns-in-None-clause-answers
returns-in-None-clause-answers g c =
    let kernel = g.K.Kernel.seen c.args.kernel.now in
    let s = stands c.args.self.now kernel in
    let e = stands c.answer_packet.new.self kernel in
    packet_told (line.Trace (trace.Made c.args.uid c.args.mark c.args.dest c.args.link.now)) c.answer_packet.result c.made-packet.result c.args.number s e _ _ c.answer_packet.new.self.answer.items
    (unbound_line c.args.number s e c.answer_packet.new.self.answer.items c.args.uid c.args.mark c.args.dest c.args.link.now c.made-packet.result c.in-None.is c.made-packet.ensures)
    c.answer_packet.ensures.stays c.answer_packet.ensures.ok c.answer_packet.ensures.text c.answer_packet.ensures.err

pub returns-in-Some-link_named-clause-answers : goal.returns-in-Some-link_named-clause-answers
returns-in-Some-link_named-clause-answers g c =
    let kernel = g.K.Kernel.seen c.args.kernel.now in
    let s = stands c.args.self.now kernel in
    let e = stands c.answer_packet-in-Some-link_named.new.self kernel in
    let known : link_named c.args.self.now.controller.state c.in-Some.name ≡ Some c.in-Some-link_named.index =
    ap (λ (v : StateView). link_named v c.in-Some.name) (sym c.state.ensures) ∙ (sym c.link_named.ensures ∙ c.in-Some-link_named.is) in
    packet_told (line.Trace (trace.Made c.args.uid c.args.mark c.args.dest c.args.link.now)) c.answer_packet-in-Some-link_named.result c.made-packet-in-Some-link_named.result c.args.number s e _ _
    c.answer_packet-in-Some-link_named.new.self.answer.items
    (bound_line c.args.number s e c.answer_packet-in-Some-link_named.new.self.answer.items c.args.uid c.args.mark c.args.dest c.args.link.now c.in-Some.name c.in-Some.is
    c.in-Some-link_named.index c.made-packet-in-Some-link_named.result known c.made-packet-in-Some-link_named.ensures)
    c.answer_packet-in-Some-link_named.ensures.stays c.answer_packet-in-Some-link_named.ensures.ok c.answer_packet-in-Some-link_named.ensures.text c.answer_packet-in-Some-link_named.ensures.err
