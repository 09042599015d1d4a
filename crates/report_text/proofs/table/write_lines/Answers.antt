use Rattle.kernel_model.specs.State.{routes_of}
use Rattle.kernel_model.specs.View.{state_of}
use Rattle.report_text.proofs.InTurn.{one_fails, one_more}
use Rattle.report_text.specs.RouteTexts.{route_line}
use Rattle.report_text.proofs.table.write_lines.Goals as goal

pub returns-in_err-write_line : goal.returns-in_err-write_line
returns-in_err-write_line g c =
    one_fails (route_line c.args.state.now) (routes_of c.args.table (state_of (g.K.Kernel.seen c.args.kernel.now)).tables) c.loop-place.place c.route_at-route.result c.from_residual.result
    c.route_at-route.ensures c.from_residual.ensures.0 c.loop-place.invariant c.in_err-write_line.ensures

pub loop-place-preserved : goal.loop-place-preserved
loop-place-preserved g c =
    one_more (route_line c.args.state.now) (routes_of c.args.table (state_of (g.K.Kernel.seen c.args.kernel.now)).tables) c.loop-place.place c.route_at-route.result
    c.route_at-route.ensures c.loop-place.invariant c.in_ok-write_line.ensures
