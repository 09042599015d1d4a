use Rattle.std.proofs.Common.{◌∙◌, ◌++◌, ℕ, List, Err, ap, inl, inr, refl}
use Rattle.turn_text.specs.Texts.{bad_text, numbered}
use Rattle.netd_session.proofs.Tellings.{error_is, same_text, then_part, then_whole}
use Rattle.netd_session.specs.declared.end.Stop.TheVariants as stop
use Rattle.netd_session.proofs.output.tell_bad_line.Goals as goal

pub returns-in_err-write_bad_line : goal.returns-in_err-write_bad_line
returns-in_err-write_bad_line g c = inr (error_is c.from_residual.result stop.Memory c.from_residual.ensures.1, refl)

pub returns-in_err-offer : goal.returns-in_err-offer
returns-in_err-offer g c =
    inl (then_part (numbered c.args.number (bad_text c.args.column)) (Err stop.BadLine) _ _ c.in_err-offer.field-0.0
    c.from_residual-in_err-offer.result c.from_residual-in_err-offer.ensures.1
    (same_text (c.deref.ensures.value ∙ c.in_ok-write_bad_line.ensures.written ∙ ap (λ (l : List ℕ). l ++ numbered c.args.number (bad_text c.args.column)) c.requires.empty) c.in_err-offer.ensures))

pub returns : goal.returns
returns g c =
    inl (then_whole (numbered c.args.number (bad_text c.args.column)) (Err stop.BadLine) _ _ c.in_ok-offer.field-0
    (same_text (c.deref.ensures.value ∙ c.in_ok-write_bad_line.ensures.written ∙ ap (λ (l : List ℕ). l ++ numbered c.args.number (bad_text c.args.column)) c.requires.empty) c.in_ok-offer.ensures))
