use Rattle.std.proofs.Common.{Ok}
use Rattle.number_text.proofs.Appending.{both}
use Rattle.netd_session.proofs.answer.write_marked_verdict.Goals as goal

pub returns : goal.returns
returns c =
    let mark = both (Ok tt) (both (Ok tt) c.in_ok-append_bytes.ensures c.in_ok-write_mark.ensures) c.in_ok-append_bytes-2.ensures in
    both c.append_bytes-3.result (both (Ok tt) mark c.in_ok-write_verdict.ensures.text) c.append_bytes-3.ensures
