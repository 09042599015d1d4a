use Rattle.std.proofs.Common.{◌≡◌, ◌-◌, true}
use Rattle.std.specs.Io.KnownBytes.{IsAtEnd}
use Rattle.line_input.specs.Looks.{held}
use Rattle.netd_session.specs.Checks.{printing}
use Rattle.netd_session.specs.Progress.{HasCome}
use Rattle.netd_session.specs.World.{streams}
use Rattle.netd_session.proofs.printing.check.Given as goal

abbrev pub invariant-loop-text : goal.invariant-loop-text
invariant-loop-text g l = record {
  come : HasCome printing tt tt (streams (g.S.Source.seen l.initial.source) (g.W.Sink.seen l.initial.sink))
      (streams (g.S.Source.seen l.source) (g.W.Sink.seen l.sink)) l.input.given (held l.input) l.number;
  finished : l.input.finished ≡ (g.S.Source.seen l.source).ended;
  none_left : (g.S.Source.seen l.source).ended ≡ true → IsAtEnd (g.S.Source.seen l.source).left;
}

abbrev pub decreases-loop-text : goal.decreases-loop-text
decreases-loop-text g l = 16777217 - l.number
