use Rattle.std.proofs.Common.{◌≡◌, ◌∙◌, ◌++◌, ℕ, List, Err, ap, sym, subst}
use Rattle.net_control.specs.declared.controller.StartFault.{StartFault}
use Rattle.net_io.specs.Streams.{SinkView}
use Rattle.turn_text.specs.Texts.{start_halted_text, start_refused_text}
use Rattle.netd_session.proofs.Tellings.{same_text, then_part, then_whole}
use Rattle.netd_session.specs.Ends.{TellsStart}
use Rattle.netd_session.specs.Stops.{End}
use Rattle.netd_session.specs.declared.end.Stop.TheVariants as stop
use Rattle.netd_session.proofs.script.tell_start.Goals as goal

-- the same fault
of_fault : {f same : StartFault} (result : End) (old new : SinkView) → f ≡ same → TellsStart same result old new → TellsStart f result old new
of_fault {f} {same} result old new is told = subst (λ (x : StartFault). TellsStart x result old new) (sym is) told

pub returns-in_err-offer-in-Refused : goal.returns-in_err-offer-in-Refused
returns-in_err-offer-in-Refused g c =
    of_fault _ _ _ c.in-Refused.is
    (then_part (start_refused_text c.in-Refused.request) (Err stop.StartRefused) _ _ c.in_err-offer-in-Refused.field-0.0 c.from_residual.result c.from_residual.ensures.1
    (same_text (c.deref.ensures.value ∙ c.put_start_refused.ensures ∙ ap (λ (l : List ℕ). l ++ start_refused_text c.in-Refused.request) c.requires.empty) c.in_err-offer-in-Refused.ensures))

pub returns-in-Refused : goal.returns-in-Refused
returns-in-Refused g c =
    of_fault _ _ _ c.in-Refused.is
    (then_whole (start_refused_text c.in-Refused.request) (Err stop.StartRefused) _ _ c.in_ok-offer-in-Refused.field-0
    (same_text (c.deref.ensures.value ∙ c.put_start_refused.ensures ∙ ap (λ (l : List ℕ). l ++ start_refused_text c.in-Refused.request) c.requires.empty) c.in_ok-offer-in-Refused.ensures))

pub returns-in_err-offer-in-Halted : goal.returns-in_err-offer-in-Halted
returns-in_err-offer-in-Halted g c =
    of_fault _ _ _ c.in-Halted.is
    (then_part (start_halted_text c.in-Halted.request) (Err stop.Halted) _ _ c.in_err-offer-in-Halted.field-0.0 c.from_residual-in_err-offer-in-Halted.result c.from_residual-in_err-offer-in-Halted.ensures.1
    (same_text (c.deref-in-Halted.ensures.value ∙ c.put_start_halted.ensures ∙ ap (λ (l : List ℕ). l ++ start_halted_text c.in-Halted.request) c.requires.empty) c.in_err-offer-in-Halted.ensures))

pub returns-in-Halted : goal.returns-in-Halted
returns-in-Halted g c =
    of_fault _ _ _ c.in-Halted.is
    (then_whole (start_halted_text c.in-Halted.request) (Err stop.Halted) _ _ c.in_ok-offer-in-Halted.field-0
    (same_text (c.deref-in-Halted.ensures.value ∙ c.put_start_halted.ensures ∙ ap (λ (l : List ℕ). l ++ start_halted_text c.in-Halted.request) c.requires.empty) c.in_ok-offer-in-Halted.ensures))
