use Rattle.std.proofs.Common.{◌≤◌, drop, vec_len}
use Rattle.number_runs.specs.Runs.{HaveRoom}
use Rattle.number_runs.specs.Kept.{Keeps}
use Rattle.number_runs.proofs.room.widen.Given as goal

abbrev pub invariant-loop-at : goal.invariant-loop-at
invariant-loop-at l = record {
  keeps : Keeps l.spare l.initial.runs.items l.runs.items;
  within : l.at ≤ vec_len l.runs;
  room : HaveRoom l.spare (drop l.at l.runs.items);
}

abbrev pub decreases-loop-at : goal.decreases-loop-at
decreases-loop-at l = l.at
