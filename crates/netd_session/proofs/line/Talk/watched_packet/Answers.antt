use Rattle.std.proofs.Common.{◌∙◌, sym}
use Rattle.netd_session.proofs.Traces.{is_watched}
use Rattle.netd_session.proofs.line.Talk.watched_packet.Goals as goal

pub returns : goal.returns
returns c =
    is_watched c.args.self.now.sockets c.args.self.now.watch c.in_ok-watch.watch c.in_ok-socket.socket c.made.result
    c.in_ok-watch.was (sym c.get.ensures ∙ c.in_ok-socket.was) c.made.ensures
