use Rattle.std.proofs.Common.{arith, lit≤}
use Rattle.std.specs.Prelude.{codes}
use Rattle.turn_text.specs.Texts.{start_refused_text, start_room}
use Rattle.turn_text.proofs.Rooms.{in_room, line_length}
use Rattle.turn_text.proofs.texts.put_start_refused.Goals as goal

pub returns : goal.returns
returns c =
    in_room c.args.out.now c.write_number_line.new.out c.write_number_line.result (start_refused_text c.args.request)
    start_room c.write_number_line.ensures
    (omega (arith, line_length (codes "start: refused at request ") c.args.request (lit≤ tt) (omega arith))) c.requires.room
