use Rattle.std.proofs.Common.{Ok}
use Rattle.number_text.proofs.Appending.{both}
use Rattle.report_text.proofs.socket.write_line.Goals as goal

pub returns : goal.returns
returns c =
    let bound = both (Ok tt) (both (Ok tt) c.in_ok-write_user_and_mark.ensures c.in_ok-append_bytes.ensures) c.in_ok-write_bound.ensures in
    both c.append_byte.result bound c.append_byte.ensures
