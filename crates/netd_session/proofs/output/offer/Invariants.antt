use Rattle.std.proofs.Common.{length, take, ◌-◌, ◌≡◌, ◌≤◌}
use Rattle.std.specs.Io.KnownBytes.{Appends}
use Rattle.netd_session.proofs.output.offer.Given as goal

abbrev pub invariant-loop-at : goal.invariant-loop-at
invariant-loop-at g l = record {
  inside : l.at ≤ length l.piece;
  no_fault : (g.W.Sink.seen l.sink).faults ≡ (g.W.Sink.seen l.initial.sink).faults;
  taken : Appends (g.W.Sink.seen l.initial.sink).bytes (g.W.Sink.seen l.sink).bytes (take l.at l.piece);
}

abbrev pub decreases-loop-at : goal.decreases-loop-at
decreases-loop-at g l = length l.piece - l.at
