use Rattle.std.proofs.Common.{Result, Ok, Err, OnOk}
use Rattle.number_text.proofs.Appending.{both}
use Rattle.rule_match.specs.declared.verdict.Verdict.TheVariants as verdict
use Rattle.report_text.specs.Verdicts.{verdict_text}
use Rattle.report_text.proofs.Short.{room_for, verdict-length}
use Rattle.report_text.proofs.verdict.write_out.Goals as goal

pub returns-clause-room : goal.returns-clause-room
returns-clause-room c =
    let written = both c.write_gateway.result (both (Ok tt) c.in_ok-append_bytes.ensures c.in_ok-write_link.ensures.text) c.write_gateway.ensures in
    room_for _ _ c.write_gateway.result (verdict_text c.args.state.now (verdict.Out c.args.link c.args.gateway)) written
    (verdict-length c.args.state.now c.args.link c.args.gateway c.write_link.ensures.short)

-- said of a call that went well
on_ok : {T E P : Type 0} (r : Result T E) → P → OnOk r P
on_ok (Ok u) holds = holds
on_ok (Err e) holds = tt

pub returns-clause-short : goal.returns-clause-short
returns-clause-short c = on_ok c.write_gateway.result (verdict-length c.args.state.now c.args.link c.args.gateway c.write_link.ensures.short)
