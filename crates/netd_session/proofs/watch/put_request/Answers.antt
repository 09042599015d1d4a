use Rattle.std.proofs.Common.{◌≡◌, ◌≤◌, ◌++◌, ap, arith, length, length-append}
use Rattle.netd_session.proofs.Rooms.{from_ok, written_ok}
use Rattle.netd_session.specs.Watches.{request_room, request_text}
use Rattle.netd_session.proofs.watch.put_request.Goals as goal

pub returns-clause-text : goal.returns-clause-text
returns-clause-text c =
    written_ok c.write_request.result (request_text c.args.number c.args.state.now c.args.request c.args.verdict.now)
    (c.write_request.ensures.room c.requires.room) c.write_request.ensures.text

pub returns-clause-len : goal.returns-clause-len
returns-clause-len c =
    let text = request_text c.args.number c.args.state.now c.args.request c.args.verdict.now in
    let went = c.write_request.ensures.room c.requires.room in
    let written : c.write_request.new.out.items ≡ c.args.out.now.items ++ text = written_ok c.write_request.result text went c.write_request.ensures.text in
    let short : length text ≤ request_room = from_ok c.write_request.result went c.write_request.ensures.short in
    omega (arith, ap length written, length-append c.args.out.now.items text, short, c.args.out.now.ok.0, c.write_request.new.out.ok.0)

pub returns-clause-capacity : goal.returns-clause-capacity
returns-clause-capacity c = c.write_request.ensures.text.capacity
