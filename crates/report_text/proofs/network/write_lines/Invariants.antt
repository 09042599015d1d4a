use Rattle.std.proofs.Common.{Ok, take}
use Rattle.std.specs.List.{flat_map}
use Rattle.std.specs.declared.alloc.AllocError.{AllocError}
use Rattle.network_store.specs.Store.{nets_of}
use Rattle.number_text.specs.Appends.{Appends}
use Rattle.report_text.specs.NetworkTexts.{network_line}
use Rattle.report_text.proofs.network.write_lines.Given as goal

abbrev pub invariant-loop-place : goal.invariant-loop-place
invariant-loop-place l = Appends {T = Unit {0}} {E = AllocError} l.initial.out l.out (Ok tt) (flat_map (network_line l.state) (take l.place (nets_of l.networks)))
