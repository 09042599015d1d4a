use Rattle.std.proofs.Common.{Ok, ap}
use Rattle.number_text.proofs.Appending.{both, rewritten}
use Rattle.report_text.specs.NetworkTexts.{names_text}
use Rattle.report_text.proofs.network.write_network.Goals as goal

pub returns : goal.returns
returns c =
    let names = rewritten (ap (names_text c.args.state.now) c.as_slice.ensures.value) c.write_names.ensures in
    both c.write_names.result (both (Ok tt) c.in_ok-write_id_and_kind.ensures c.in_ok-append_bytes.ensures) names
