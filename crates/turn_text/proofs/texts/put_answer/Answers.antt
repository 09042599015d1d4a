use Rattle.std.proofs.Common.{arith}
use Rattle.turn_text.specs.Texts.{answer_room, answer_text, numbered}
use Rattle.turn_text.proofs.Rooms.{answer_length, in_room}
use Rattle.turn_text.proofs.texts.put_answer.Goals as goal

pub returns : goal.returns
returns c =
    in_room c.args.out.now c.write_answer.new.out c.write_answer.result (numbered c.args.number (answer_text c.args.answer.now))
    answer_room c.write_answer.ensures
    (answer_length c.args.number c.args.answer.now (omega arith) c.requires.counted) c.requires.room
