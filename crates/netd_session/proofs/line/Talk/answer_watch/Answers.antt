use Rattle.std.proofs.Common.{◌≡◌, ◌∙◌, Ok, Option, Some, sym, ap}
use Rattle.mark_server.specs.Sockets.{socket_of}
use Rattle.policy_meaning.specs.Policy.{policy}
use Rattle.script_reader.specs.declared.line.Line.TheVariants as line
use Rattle.script_reader.specs.declared.line.TraceLine.TheVariants as trace
use Rattle.netd_session.proofs.Taking.{told_then}
use Rattle.netd_session.proofs.Traces.{watch_line}
use Rattle.netd_session.specs.Answers.{watch_text}
use Rattle.netd_session.specs.Talks.{stands}
use Rattle.netd_session.specs.Turns.{Standing}
use Rattle.netd_session.specs.declared.turn.Said.TheVariants as said
use Rattle.netd_session.specs.declared.watch.Watch.{Watch}
use Rattle.netd_session.proofs.line.Talk.answer_watch.Goals as goal

pub returns-clause-answers : goal.returns-clause-answers
returns-clause-answers g c =
    let kernel = g.K.Kernel.seen c.args.kernel.now in
    let s = stands c.args.self.now kernel in
    let watch : Option Watch = Some (record { socket = c.args.name.now; dest = c.args.dest }) in
    let next : Standing = record s { watch = watch } in
    let e : Standing = record (stands c.answer_packet.new.self kernel) { watch = watch } in
    let packet = c.made-packet.result in
    let known : socket_of c.args.name.now c.args.self.now.sockets ≡ Some c.in-Some.socket = sym c.get.ensures ∙ c.in-Some.is in
    told_then (line.Trace (trace.Watch c.args.name.now c.args.dest)) (Ok tt) (said.Went packet.mark (policy c.args.self.now.controller.state packet))
    (watch_text c.args.self.now.controller.state packet.mark (policy c.args.self.now.controller.state packet)) c.args.number s next e _ _ c.answer_packet.new.self.answer.items
    (watch_line c.args.number s e c.answer_packet.new.self.answer.items c.args.name.now c.args.dest c.in-Some.socket packet known c.made-packet.ensures)
    (ap (λ (x : Standing). record x { watch = watch }) c.answer_packet.ensures.stays) tt
    c.in_ok-answer_packet.ensures.ok c.in_ok-answer_packet.ensures.text tt
