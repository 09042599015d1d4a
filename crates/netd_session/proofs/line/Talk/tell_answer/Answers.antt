use Rattle.std.proofs.Common.{Option, Err, subst, ℕ}
use Rattle.netd_session.proofs.Tellings.{same_text, then_part, then_whole}
use Rattle.netd_session.specs.Lines.{halt, halt_of}
use Rattle.netd_session.specs.Telling.{Tells}
use Rattle.netd_session.specs.declared.end.Stop.TheVariants as stop
use Rattle.netd_session.proofs.line.Talk.tell_answer.Goals as goal

pub returns-in_err-offer : goal.returns-in_err-offer
returns-in_err-offer g c =
    then_part c.args.self.now.answer.items (halt_of c.args.self.now.controller) _ _ c.in_err-offer.field-0.0 c.from_residual.result c.from_residual.ensures.1
    (same_text c.deref.ensures.value c.in_err-offer.ensures)

pub returns-in-Some : goal.returns-in-Some
returns-in-Some g c =
    subst (λ (h : Option ℕ). Tells c.args.self.now.answer.items (halt h) (Err stop.Halted) (g.W.Sink.seen c.args.sink.now) (g.W.Sink.seen c.offer.new.sink)) c.in-Some.ensures
    (then_whole c.args.self.now.answer.items (Err stop.Halted) _ _ c.in_ok-offer.field-0 (same_text c.deref.ensures.value c.in_ok-offer.ensures))
