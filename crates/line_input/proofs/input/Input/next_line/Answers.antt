use Rattle.std.proofs.Common.{◌∙◌, Some, Ok, sym, ap}
use Rattle.line_input.proofs.Looked.{looks_fault, at_end, at_last, at_feed, at_byte, looks_long_line}
use Rattle.line_input.proofs.input.Input.next_line.Goals as goal

pub returns-in-Err : goal.returns-in-Err
returns-in-Err g c = looks_fault _ _ _ _ _ _ _ c.loop-self.invariant c.in-Err.fault c.in-Err.ensures c.loop-self-test.true

pub returns-in-Ok-None : goal.returns-in-Ok-None
returns-in-Ok-None g c =
    at_end _ _ _ _ _ _ _ c.loop-self.invariant _ c.next_byte.ensures (c.in-Ok-None.is ∙ ap (λ x. Ok x) c.in-Ok-None.field-0-is) (sym c.next_byte.ensures.length_kept ∙ c.if-self-eq0.true)

pub returns-in-Ok-None-2 : goal.returns-in-Ok-None-2
returns-in-Ok-None-2 g c =
    at_last _ _ _ _ _ _ _ c.loop-self.invariant _ c.next_byte.ensures (c.in-Ok-None.is ∙ ap (λ x. Ok x) c.in-Ok-None.field-0-is) (λ e. c.if-self-eq0.false (c.next_byte.ensures.length_kept ∙ e)) c.loop-self-test.true

pub returns-in-Ok-Some-eq10 : goal.returns-in-Ok-Some-eq10
returns-in-Ok-Some-eq10 g c =
    at_feed _ _ _ _ _ _ _ c.loop-self.invariant _ c.next_byte.ensures (c.in-Ok-Some-eq10.is ∙ ap (λ x. Ok x) (c.in-Ok-Some-eq10.field-0-is ∙ ap (λ x. Some x) c.in-Ok-Some-eq10.field-0-0-test)) c.loop-self-test.true

pub loop-self-preserved : goal.loop-self-preserved
loop-self-preserved g c =
    at_byte _ _ _ _ _ _ _ c.loop-self.invariant _ c.next_byte.ensures _ _ (c.in-Ok-Some.is ∙ ap (λ x. Ok x) c.in-Ok-Some.field-0-is) c.in-Ok-Some.byte-test.1 c.keep.ensures.held c.keep.ensures.given c.keep.ensures.line c.keep.ensures.length c.keep.ensures.finished

pub returns : goal.returns
returns g c = looks_long_line _ _ _ _ _ c.loop-self.invariant c.loop-self-test.false
