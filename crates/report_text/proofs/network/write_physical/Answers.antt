use Rattle.std.proofs.Common.{Ok}
use Rattle.number_text.proofs.Appending.{both}
use Rattle.report_text.proofs.network.write_physical.Goals as goal

pub returns : goal.returns
returns c =
    let permission = both (Ok tt) (both (Ok tt) c.in_ok-append_bytes.ensures c.in_ok-write_permission.ensures) c.in_ok-write_default.ensures in
    both c.write_apps.result permission c.write_apps.ensures
