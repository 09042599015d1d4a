use Rattle.std.proofs.Common.{◌≤◌, ◌<◌, ◌^◌, ◌++◌, ℕ, codes, length, arith, lit<, lit≤, length-append}
use Rattle.std.specs.Fmt.{decimal}
use Rattle.number_text.proofs.Spelled.{length-digits-le}
use Rattle.number_text.specs.Numbers.{hexadecimal}
use Rattle.turn_text.specs.Texts.{answer_room, line_feed, numbered}
use Rattle.word_text.specs.Texts.{mark_text}
use Rattle.netd_session.proofs.Rooms.{digits_10, fits, written_ok}
use Rattle.netd_session.specs.SocketLines.{mark_line}
use Rattle.netd_session.proofs.sockets.put_mark.Goals as goal

mark_length : (mark : ℕ) → mark < 2 ^ 32 → length (mark_line mark) ≤ 16
mark_length mark small =
    let digits : length (hexadecimal mark) ≤ 8 = length-digits-le 16 8 mark (lit≤ tt) (lit< tt) (lit≤ tt) (omega arith) in
    omega (arith, length-append (codes "mark " ++ mark_text mark) line_feed, length-append (codes "mark ") (mark_text mark), length-append (codes "0x") (hexadecimal mark), digits)

pub returns : goal.returns
returns c =
    let text = numbered c.args.number (mark_line c.args.mark) in
    let short : length (numbered c.args.number (mark_line c.args.mark)) ≤ answer_room =
    omega (
      arith,
      length-append (decimal c.args.number ++ codes ": ") (mark_line c.args.mark),
      length-append (decimal c.args.number) (codes ": "),
      digits_10 c.args.number (omega arith),
      mark_length c.args.mark (omega arith),
    ) in
    written_ok c.write_new_mark.result text (fits c.write_new_mark.result text answer_room c.write_new_mark.ensures short c.requires.room) c.write_new_mark.ensures
