use Rattle.std.proofs.Common.{◌≡◌, ◌∙◌, Some, sym}
use Rattle.mark_server.specs.Sockets.{socket_of}
use Rattle.script_reader.specs.declared.line.Line.TheVariants as line
use Rattle.script_reader.specs.declared.line.TraceLine.TheVariants as trace
use Rattle.netd_session.proofs.Taking.{packet_told}
use Rattle.netd_session.proofs.Traces.{sent_line}
use Rattle.netd_session.specs.Talks.{stands}
use Rattle.netd_session.proofs.line.Talk.answer_sent.Goals as goal

pub returns-in-Some-clause-answers : goal.returns-in-Some-clause-answers
returns-in-Some-clause-answers g c =
    let kernel = g.K.Kernel.seen c.args.kernel.now in
    let s = stands c.args.self.now kernel in
    let e = stands c.answer_packet.new.self kernel in
    let known : socket_of c.args.name.now c.args.self.now.sockets ≡ Some c.in-Some.socket = sym c.get.ensures ∙ c.in-Some.is in
    packet_told (line.Trace (trace.Trace c.args.name.now c.args.dest)) c.answer_packet.result c.made-packet.result c.args.number s e _ _ c.answer_packet.new.self.answer.items
    (sent_line c.args.number s e c.answer_packet.new.self.answer.items c.args.name.now c.args.dest c.in-Some.socket c.made-packet.result known c.made-packet.ensures)
    c.answer_packet.ensures.stays c.answer_packet.ensures.ok c.answer_packet.ensures.text c.answer_packet.ensures.err
