use Rattle.std.proofs.Common.{Ok, take}
use Rattle.std.specs.List.{flat_map}
use Rattle.std.specs.declared.alloc.AllocError.{AllocError}
use Rattle.kernel_model.specs.State.{routes_of}
use Rattle.kernel_model.specs.View.{state_of}
use Rattle.number_text.specs.Appends.{Appends}
use Rattle.report_text.specs.RouteTexts.{route_line}
use Rattle.report_text.proofs.table.write_lines.Given as goal

abbrev pub invariant-loop-place : goal.invariant-loop-place
invariant-loop-place g l =
    Appends {T = Unit {0}} {E = AllocError} l.initial.out l.out (Ok tt) (flat_map (route_line l.state) (take l.place (routes_of l.table (state_of (g.K.Kernel.seen l.kernel)).tables)))
