use Rattle.std.proofs.Common.{◌≡◌}
use Rattle.report_text.proofs.InTurn.{one_fails, one_more}
use Rattle.report_text.specs.SocketTexts.{socket_line}
use Rattle.report_text.proofs.socket.write_lines.Goals as goal

pub returns-in_err-write_line : goal.returns-in_err-write_line
returns-in_err-write_line c =
    one_fails (socket_line c.args.state.now) c.args.sockets.now c.loop-place.place c.socket_at-name.result c.from_residual.result
    c.socket_at-name.ensures c.from_residual.ensures.0 c.loop-place.invariant c.in_err-write_line.ensures

pub loop-place-preserved : goal.loop-place-preserved
loop-place-preserved c =
    one_more (socket_line c.args.state.now) c.args.sockets.now c.loop-place.place c.socket_at-name.result
    c.socket_at-name.ensures c.loop-place.invariant c.in_ok-write_line.ensures
