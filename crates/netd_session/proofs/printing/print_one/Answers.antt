use Rattle.std.proofs.Common.{◌∙◌, ◌++◌, ℕ, List, ap, refl, subst}
use Rattle.script_reader.specs.BadLines.{IfBad, IsBadAt}
use Rattle.script_reader.specs.Canonical.{printed}
use Rattle.script_reader.specs.Lines.{Spells}
use Rattle.script_reader.specs.declared.line.Line.{Line}
use Rattle.netd_session.proofs.Checking.{bad_printed, left_unprinted, line_printed}
use Rattle.netd_session.proofs.Tellings.{same_text}
use Rattle.netd_session.proofs.printing.print_one.Goals as goal

pub returns-in-Err-Memory : goal.returns-in-Err-Memory
returns-in-Err-Memory g c = left_unprinted _ _ _ _ refl

pub returns-in-Err-Bad : goal.returns-in-Err-Bad
returns-in-Err-Bad g c =
    bad_printed c.tell_bad_line.result _ c.in-Err-Bad.column _ _ _
    (subst (IfBad (IsBadAt c.args.line.now)) c.in-Err-Bad.field-0-is c.in-Err-Bad.ensures.bad)
    (subst (IfBad (λ column. (line : Line) → Spells c.args.line.now line → ⊥)) c.in-Err-Bad.field-0-is c.in-Err-Bad.ensures.none) c.tell_bad_line.ensures

pub returns-in_ok-print_line-in-Ok : goal.returns-in_ok-print_line-in-Ok
returns-in_ok-print_line-in-Ok g c =
    line_printed c.offer.result _ c.in-Ok.line _ _ _ c.in-Ok.ensures.line
    (same_text (c.deref.ensures.value ∙ c.in_ok-print_line-in-Ok.ensures.written ∙ ap (λ (l : List ℕ). l ++ printed c.in-Ok.line) c.clear.ensures.items) c.offer.ensures)
