use Rattle.std.proofs.Common.{◌∙◌, Ok, ap, subst, sym}
use Rattle.mark_server.specs.Sockets.{Sockets, accepting, mark_in, put_last}
use Rattle.policy_state.specs.View.{StateView}
use Rattle.script_reader.specs.declared.line.Line.TheVariants as line
use Rattle.script_reader.specs.declared.line.SocketLine.TheVariants as socket
use Rattle.netd_session.proofs.Opened.{opened, opened_line}
use Rattle.netd_session.proofs.Taking.{told_then}
use Rattle.netd_session.specs.SocketLines.{IsMarked, said_of_mark, text_of_mark}
use Rattle.netd_session.specs.Talks.{stands}
use Rattle.netd_session.specs.Turns.{standing}
use Rattle.netd_session.proofs.line.Talk.accept_socket.Goals as goal

pub returns-clause-answers : goal.returns-clause-answers
returns-clause-answers g c =
    let kernel = g.K.Kernel.seen c.args.kernel.now in
    let s = stands c.args.self.now kernel in
    let e = stands c.put_made.new.self kernel in
    let made = c.in_ok-made.made in
    let model = accepting c.state.result.now c.args.name c.args.uid c.args.link.now c.args.self.now.sockets in
    let after = put_last c.args.name model c.args.self.now.sockets in
    let both = opened c.accept-accepted.result made model c.args.name c.args.self.now.sockets c.accept-accepted.new.self (sym c.in_ok-made.was ∙ c.made_of.ensures) c.accept-accepted.ensures.sockets c.accept-accepted.ensures.mark c.accept-accepted.ensures.kept c.accept-accepted.ensures.refused in
    told_then (line.Socket (socket.Accept c.args.name c.args.uid c.args.link.now)) (Ok tt) (said_of_mark made) (text_of_mark made) c.args.number s (record s { sockets = after }) e _ _ c.put_made.new.self.answer.items
    (λ more told. subst (λ (v : StateView). IsMarked (mark_in (accepting v c.args.name c.args.uid c.args.link.now c.args.self.now.sockets))
    (put_last c.args.name (accepting v c.args.name c.args.uid c.args.link.now c.args.self.now.sockets) c.args.self.now.sockets) c.args.number s e more c.put_made.new.self.answer.items)
    c.state.ensures (opened_line made model c.args.name c.args.number s e more c.put_made.new.self.answer.items both.0 told))
    (c.put_made.ensures.stays ∙ ap (λ (x : Sockets). standing c.args.self.now.controller kernel x c.args.self.now.watch) both.1)
    tt c.put_made.ensures.turns c.put_made.ensures.text tt
