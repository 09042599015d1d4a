use Rattle.std.proofs.Common.{Ok, ap, ◌∙◌}
use Rattle.std.specs.Fmt.{decimal}
use Rattle.number_text.proofs.Appending.{both, rewritten}
use Rattle.report_text.proofs.socket.write_user.Goals as goal

pub returns : goal.returns
returns c =
    let name = rewritten c.as_bytes.ensures.bytes c.in_ok-append_bytes-2.ensures in
    let user = rewritten (ap decimal (c.from.ensures ∙ c.number.ensures)) c.write_decimal.ensures in
    both c.write_decimal.result (both (Ok tt) (both (Ok tt) c.in_ok-append_bytes.ensures name) c.in_ok-append_bytes-3.ensures) user
