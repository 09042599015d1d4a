use Rattle.std.proofs.Common.{◌≡◌, ◌-◌, true, None}
use Rattle.std.specs.Io.KnownBytes.{IsAtEnd}
use Rattle.line_input.specs.Looks.{held}
use Rattle.net_control.specs.Moments.{SendsByPolicy}
use Rattle.net_control.specs.View.{IsKept}
use Rattle.netd_session.specs.Progress.{HasCome}
use Rattle.netd_session.specs.Talks.{stands}
use Rattle.netd_session.specs.World.{streams}
use Rattle.netd_session.proofs.SessionPass.{answering, stood}
use Rattle.netd_session.proofs.script.answer_lines.Given as goal

abbrev pub invariant-loop-number : goal.invariant-loop-number
invariant-loop-number g l = record {
  come : HasCome answering (stood (stands l.initial.talk (g.K.Kernel.seen l.initial.kernel)) l.initial.talk.turns.items)
      (stood (stands l.talk (g.K.Kernel.seen l.kernel)) l.talk.turns.items)
      (streams (g.S.Source.seen l.initial.source) (g.W.Sink.seen l.initial.sink))
      (streams (g.S.Source.seen l.source) (g.W.Sink.seen l.sink)) l.input.given (held l.input) l.number;
  running : l.talk.controller.halted ≡ None;
  kept : IsKept l.talk.controller (g.K.Kernel.seen l.kernel);
  sends : SendsByPolicy l.talk.controller (g.K.Kernel.seen l.kernel);
  finished : l.input.finished ≡ (g.S.Source.seen l.source).ended;
  none_left : (g.S.Source.seen l.source).ended ≡ true → IsAtEnd (g.S.Source.seen l.source).left;
}

abbrev pub decreases-loop-number : goal.decreases-loop-number
decreases-loop-number g l = 16777217 - l.number
