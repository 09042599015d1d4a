use Rattle.network_store.specs.Store.{nets_of}
use Rattle.network_store.specs.Stored.{net_of}
use Rattle.report_text.proofs.InTurn.{one_fails, one_more}
use Rattle.report_text.specs.NetworkTexts.{network_line}
use Rattle.report_text.proofs.network.write_lines.Goals as goal

pub returns-in_err-write_line : goal.returns-in_err-write_line
returns-in_err-write_line c =
    one_fails (network_line c.args.state.now) (nets_of c.args.networks.now) c.loop-place.place (net_of c.network_at.result.now) c.from_residual.result c.network_at.ensures
    c.from_residual.ensures.0 c.loop-place.invariant c.in_err-write_line.ensures

pub loop-place-preserved : goal.loop-place-preserved
loop-place-preserved c =
    one_more (network_line c.args.state.now) (nets_of c.args.networks.now) c.loop-place.place (net_of c.network_at.result.now) c.network_at.ensures c.loop-place.invariant
    c.in_ok-write_line.ensures
