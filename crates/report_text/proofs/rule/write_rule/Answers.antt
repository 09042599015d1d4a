use Rattle.std.proofs.Common.{Ok}
use Rattle.number_text.proofs.Appending.{both}
use Rattle.report_text.proofs.rule.write_rule.Goals as goal

pub returns : goal.returns
returns c =
    let selectors = both (Ok tt) (both (Ok tt) c.in_ok-write_number.ensures c.in_ok-append_bytes.ensures) c.in_ok-write_selectors.ensures in
    both c.write_action.result (both (Ok tt) selectors c.in_ok-append_byte.ensures) c.write_action.ensures
