use Rattle.std.proofs.Common.{refl, subst}
use Rattle.script_reader.specs.BadLines.{IfBad, IsBadAt}
use Rattle.script_reader.specs.Lines.{Spells}
use Rattle.script_reader.specs.declared.line.Line.{Line}
use Rattle.netd_session.proofs.Taking.{answered_line, bad_line, left_line}
use Rattle.netd_session.proofs.Tellings.{error_is}
use Rattle.netd_session.specs.declared.end.Stop.TheVariants as stop
use Rattle.netd_session.proofs.line.Talk.take_line.Goals as goal

pub returns-in-Err-Memory-clause-takes : goal.returns-in-Err-Memory-clause-takes
returns-in-Err-Memory-clause-takes g c = left_line _ _ _ _ _ _ _ _ refl refl refl

pub returns-in-Err-Bad-clause-takes : goal.returns-in-Err-Bad-clause-takes
returns-in-Err-Bad-clause-takes g c =
    bad_line c.tell_bad_line.result _ _ _ _ _ _ c.in-Err-Bad.column _ _
    (subst (IfBad (IsBadAt c.args.text.now)) c.in-Err-Bad.field-0-is c.in-Err-Bad.ensures.bad)
    (subst (IfBad (λ column. (line : Line) → Spells c.args.text.now line → ⊥)) c.in-Err-Bad.field-0-is c.in-Err-Bad.ensures.none)
    refl refl c.tell_bad_line.ensures

pub returns-in_err-answer_line-in-Ok-clause-takes : goal.returns-in_err-answer_line-in-Ok-clause-takes
returns-in_err-answer_line-in-Ok-clause-takes g c =
    left_line _ _ _ _ _ _ _ _ (error_is c.from_residual.result stop.Memory c.from_residual.ensures.1)
    c.in_err-answer_line-in-Ok.ensures.answers.0 c.in_err-answer_line-in-Ok.ensures.answers.1

pub returns-in_ok-answer_line-in-Ok-clause-takes : goal.returns-in_ok-answer_line-in-Ok-clause-takes
returns-in_ok-answer_line-in-Ok-clause-takes g c =
    answered_line c.tell_answer.result _ c.in-Ok.line _ _ _ _ _ _ _ _ c.in-Ok.ensures.line c.in_ok-answer_line-in-Ok.ensures.answers
    c.answer_line.ensures.kept c.answer_line.ensures.sends c.tell_answer.ensures
