use Rattle.std.proofs.Common.{Ok, ap, sym, ◌∙◌}
use Rattle.std.proofs.lemmas.Bool.{false≢true}
use Rattle.netd_session.proofs.Checking.{caused_check, of_line, printing_laws}
use Rattle.netd_session.proofs.Passing.{at_first, comes_on, ended_at_line, finished_at_end, finished_behind, input_failed, went_on, with_answer}
use Rattle.netd_session.specs.Checks.{printing}
use Rattle.netd_session.proofs.printing.check.Goals as goal

pub loop-text-init : goal.loop-text-init
loop-text-init g c = record {
  come = at_first printing tt _ _ _ c.new-input.ensures.given c.new-input.ensures.held;
  finished = c.new-input.ensures.finished ∙ sym c.requires.not_ended;
  none_left = λ ended. absurd (false≢true (sym c.requires.not_ended ∙ ended));
}

pub returns-in_err-next_line-clause-check : goal.returns-in_err-next_line-clause-check
returns-in_err-next_line-clause-check g c =
    input_failed printing _ _ _ _ _ _ _ c.loop-text.invariant.come c.next_line.new.self _ c.in_err-next_line.field-0.0 c.from_residual.result c.from_residual.ensures.1 c.in_err-next_line.ensures

pub returns-in_err-next_line-clause-causes : goal.returns-in_err-next_line-clause-causes
returns-in_err-next_line-clause-causes g c = caused_check _ _ _

pub returns-in-End-clause-check : goal.returns-in-End-clause-check
returns-in-End-clause-check g c =
    finished_at_end printing _ _ _ _ _ _ _ c.loop-text.invariant.come c.next_line.new.self _ (with_answer (ap Ok c.in-End.is) c.in_ok-next_line.ensures)

pub returns-in-End-clause-causes : goal.returns-in-End-clause-causes
returns-in-End-clause-causes g c = caused_check _ _ _

pub returns-in_err-print_one-clause-check : goal.returns-in_err-print_one-clause-check
returns-in_err-print_one-clause-check g c =
    ended_at_line printing printing_laws _ _ _ _ _ _ _ _ c.loop-text.invariant.come c.next_line.new.self _ (with_answer (ap Ok c.in-Line.is) c.in_ok-next_line.ensures) _
    c.in_err-print_one.field-0.0 c.from_residual-in_err-print_one.result c.from_residual-in_err-print_one.ensures.1 (of_line c.line.ensures c.in_err-print_one.ensures)

pub returns-in_err-print_one-clause-causes : goal.returns-in_err-print_one-clause-causes
returns-in_err-print_one-clause-causes g c = caused_check _ _ _

pub returns-then-is_at_end-clause-check : goal.returns-then-is_at_end-clause-check
returns-then-is_at_end-clause-check g c =
    finished_behind printing printing_laws _ _ _ _ _ _ _ _ c.loop-text.invariant.come c.next_line.new.self _ (with_answer (ap Ok c.in-Line.is) c.in_ok-next_line.ensures) _
    (went_on printing _ _ _ _ _ _ c.in_ok-print_one.field-0 (of_line c.line.ensures c.in_ok-print_one.ensures))
    (sym c.next_line.ensures.finished ∙ c.if-is_at_end.ensures.yes.0) c.if-is_at_end.ensures.yes.1

pub returns-then-is_at_end-clause-causes : goal.returns-then-is_at_end-clause-causes
returns-then-is_at_end-clause-causes g c = caused_check _ _ _

pub loop-text-preserved : goal.loop-text-preserved
loop-text-preserved g c = record {
  come = comes_on printing printing_laws _ _ _ _ _ _ _ _ c.loop-text.invariant.come c.next_line.new.self _ (with_answer (ap Ok c.in-Line.is) c.in_ok-next_line.ensures) _
      (went_on printing _ _ _ _ _ _ c.in_ok-print_one.field-0 (of_line c.line.ensures c.in_ok-print_one.ensures))
      (λ ended none. c.if-is_at_end.ensures.no (c.next_line.ensures.finished ∙ ended) none);
  finished = c.next_line.ensures.finished;
  none_left = c.next_line.ensures.none_left;
}
