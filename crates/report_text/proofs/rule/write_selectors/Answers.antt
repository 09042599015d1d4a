use Rattle.std.proofs.Common.{Ok}
use Rattle.number_text.proofs.Appending.{both}
use Rattle.report_text.proofs.rule.write_selectors.Goals as goal

pub returns : goal.returns
returns c =
    let links = both (Ok tt) (both (Ok tt) c.in_ok-write_mark_part.ensures c.in_ok-write_incoming.ensures) c.in_ok-write_outgoing.ensures in
    both c.write_uids.result links c.write_uids.ensures
