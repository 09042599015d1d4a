use Rattle.std.proofs.Common.{Ok, ap, refl, sym, ◌∙◌}
use Rattle.std.proofs.lemmas.Bool.{false≢true}
use Rattle.netd_session.proofs.Passing.{at_first, comes_on, ended_at_line, finished_at_end, finished_behind, input_failed, went_on, with_answer}
use Rattle.netd_session.proofs.SessionPass.{answering, answering_laws, session_of, takes_one, went_running}
use Rattle.netd_session.proofs.Taking.{with_text}
use Rattle.netd_session.proofs.script.answer_lines.Goals as goal

pub loop-number-init : goal.loop-number-init
loop-number-init g c = record {
  come = at_first answering _ _ _ _ c.new-input.ensures.given c.new-input.ensures.held;
  running = c.requires.runs;
  kept = c.requires.kept;
  sends = c.requires.sends;
  finished = c.new-input.ensures.finished ∙ sym c.requires.not_ended;
  none_left = λ ended. absurd (false≢true (sym c.requires.not_ended ∙ ended));
}

pub returns-in_err-next_line : goal.returns-in_err-next_line
returns-in_err-next_line g c before started =
    session_of _ c.requires.runs _ c.requires.no_turn _ _ started _ _ refl
    (input_failed answering _ _ _ _ _ _ _ c.loop-number.invariant.come c.next_line.new.self _ c.in_err-next_line.field-0.0 c.from_residual.result c.from_residual.ensures.1 c.in_err-next_line.ensures)

pub returns-in-End : goal.returns-in-End
returns-in-End g c before started =
    session_of _ c.requires.runs _ c.requires.no_turn _ _ started _ _ refl
    (finished_at_end answering _ _ _ _ _ _ _ c.loop-number.invariant.come c.next_line.new.self _ (with_answer (ap Ok c.in-End.is) c.in_ok-next_line.ensures))

pub returns-in_err-take_line : goal.returns-in_err-take_line
returns-in_err-take_line g c before started =
    session_of _ c.requires.runs _ c.requires.no_turn _ _ started _ _ refl
    (ended_at_line answering answering_laws _ _ _ _ _ _ _ _ c.loop-number.invariant.come c.next_line.new.self _ (with_answer (ap Ok c.in-Line.is) c.in_ok-next_line.ensures) _
    c.in_err-take_line.field-0.0 c.from_residual-in_err-take_line.result c.from_residual-in_err-take_line.ensures.1
    (takes_one _ _ _ _ _ _ _ _ _ (with_text c.line.ensures c.in_err-take_line.ensures.takes)))

pub returns-then-is_at_end : goal.returns-then-is_at_end
returns-then-is_at_end g c before started =
    session_of _ c.requires.runs _ c.requires.no_turn _ _ started _ _ refl
    (finished_behind answering answering_laws _ _ _ _ _ _ _ _ c.loop-number.invariant.come c.next_line.new.self _ (with_answer (ap Ok c.in-Line.is) c.in_ok-next_line.ensures) _
    (went_on answering _ _ _ _ _ _ c.in_ok-take_line.field-0 (takes_one _ _ _ _ _ _ _ _ _ (with_text c.line.ensures c.in_ok-take_line.ensures.takes)))
    (sym c.next_line.ensures.finished ∙ c.if-is_at_end.ensures.yes.0) c.if-is_at_end.ensures.yes.1)

pub loop-number-preserved : goal.loop-number-preserved
loop-number-preserved g c =
    let went = went_on answering _ _ _ _ _ _ c.in_ok-take_line.field-0 (takes_one _ _ _ _ _ _ _ _ _ (with_text c.line.ensures c.in_ok-take_line.ensures.takes)) in
    record {
      come = comes_on answering answering_laws _ _ _ _ _ _ _ _ c.loop-number.invariant.come c.next_line.new.self _ (with_answer (ap Ok c.in-Line.is) c.in_ok-next_line.ensures) _
          went (λ ended none. c.if-is_at_end.ensures.no (c.next_line.ensures.finished ∙ ended) none);
      running = went_running _ _ _ _ _ _ _ _ went;
      kept = c.take_line.ensures.kept;
      sends = c.take_line.ensures.sends;
      finished = c.next_line.ensures.finished;
      none_left = c.next_line.ensures.none_left;
    }
