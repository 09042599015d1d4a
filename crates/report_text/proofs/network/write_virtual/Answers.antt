use Rattle.std.proofs.Common.{Ok}
use Rattle.number_text.proofs.Appending.{both}
use Rattle.report_text.proofs.network.write_virtual.Goals as goal

pub returns : goal.returns
returns c =
    let security = both (Ok tt) (both (Ok tt) c.in_ok-append_bytes.ensures c.in_ok-write_security.ensures) c.in_ok-append_bytes-2.ensures in
    both c.write_ranges.result security c.write_ranges.ensures
