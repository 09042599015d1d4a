-- How a session begins, and how it ends where the start fails.
use Rattle.std.proofs.Common.{◌≡◌, ◌≢◌, ◌∙◌, ℕ, true, false, List, [], length, take, Err, inr, refl, sym, subst, arith}
use Rattle.std.proofs.KnownBytes.{Appends-nil, Consumes-nil}
use Rattle.std.proofs.lemmas.Bool.{false≢true}
use Rattle.std.specs.Io.KnownBytes.{IsAtEnd}
use Rattle.kernel_model.specs.View.{KernelView}
use Rattle.line_input.proofs.MetLines.{all_met}
use Rattle.line_input.specs.Lines.{AreMet}
use Rattle.net_control.specs.Moments.{KeepsPolicy}
use Rattle.net_control.specs.Started.{IsStarted}
use Rattle.net_control.specs.declared.controller.StartFault.{StartFault}
use Rattle.net_control.specs.declared.controller.StartFault.TheVariants as fault
use Rattle.net_io.specs.Streams.{SinkView}
use Rattle.policy_state.specs.View.{start}
use Rattle.turn_text.specs.Texts.{start_halted_text, start_refused_text}
use Rattle.netd_session.proofs.Tellings.{write_fault_of}
use Rattle.netd_session.specs.EndedView.{EndedView}
use Rattle.netd_session.specs.Ends.{FailsToStart, IsSession, TellsStart, at_start, not_begun, start_halted, start_refused}
use Rattle.netd_session.specs.Stops.{End}
use Rattle.netd_session.specs.Telling.{IsTaken, Tells, no_memory, sink_failed, taken_whole}
use Rattle.netd_session.specs.World.{World}
use Rattle.netd_session.specs.declared.end.Stop.{Stop}
use Rattle.netd_session.specs.declared.end.Stop.TheVariants as stop
use Rattle.netd_session.specs.declared.turn.Turn.{Turn}

-- no bytes have no line
none_met : (w : World) → AreMet [] w.source.ended []
none_met w = all_met w.source.ended [] [] [] (record { bytes = refl; each = tt }) refl (omega arith) (inr refl) (omega arith)

-- a source that has not ended
nothing_ended : (w : World) → w.source.ended ≡ false → w.source.ended ≡ true → IsAtEnd w.source.left
nothing_ended w not_ended ended = absurd (false≢true (sym not_ended ∙ ended))

-- the same end
pub with_end : {old new : World} {ended same : EndedView} → ended ≡ same → IsSession old new same → IsSession old new ended
with_end {old} {new} is session = subst (λ (e : EndedView). IsSession old new e) (sym is) session

-- memory ran out before the start, or in it, and nothing was asked
pub no_room : (old : World) (kernel : KernelView) (turns : List Turn) → old.source.ended ≡ false → turns ≡ [] → kernel ≡ old.kernel
    → IsSession old (record old { kernel = kernel }) (record { result = Err stop.Memory; turns = turns })
no_room old kernel turns not_ended none same = record {
  given = [];
  read = Consumes-nil old.source.left;
  lines = [];
  met = none_met old;
  none_left = nothing_ended old not_ended;
  out = [];
  written = Appends-nil old.sink.bytes;
  ending = not_begun record { no_memory = refl; kernel_is = same; no_turn = none; nothing_read = refl; nothing_met = refl; nothing_told = refl };
  few = inr ((λ e. absurd cc), omega arith);
  read_fault = inr ((λ e. absurd cc), refl);
  write_fault = inr ((λ e. absurd cc), refl);
}

-- what is said of a start that failed is no fault of source or sink
module _ (old new : KernelView) (text : List ℕ) where
  unfailed : (whole : End) → FailsToStart old new text whole → whole ≢ Err stop.WriteFault
  unfailed whole (start_refused request started says is) e = absurd cc
  unfailed whole (start_halted request started says is) e = absurd cc

  not_by_input : (whole result : End) (taken all before after : ℕ) (s : Stop) → FailsToStart old new text whole → IsTaken whole result taken all before after
      → s ≢ stop.StartRefused → s ≢ stop.Halted → s ≢ stop.WriteFault → s ≢ stop.Memory → result ≢ Err s
  not_by_input whole result taken all before after s failed (sink_failed is few more) r h w m e = w cc
  not_by_input whole result taken all before after s failed (no_memory is few kept) r h w m e = m cc
  not_by_input whole result taken all before after s (start_refused request started says same) (taken_whole is full kept) r h w m e = r cc
  not_by_input whole result taken all before after s (start_halted request started says same) (taken_whole is full kept) r h w m e = h cc

-- the start failed, and that was told
told_start : (old : World) (sink : SinkView) (kernel : KernelView) (text : List ℕ) (whole result : End) (turns : List Turn) → old.source.ended ≡ false → turns ≡ []
    → FailsToStart old.kernel kernel text whole → KeepsPolicy old.kernel kernel start start → Tells text whole result old.sink sink
    → IsSession old (record old { sink = sink; kernel = kernel }) (record { result = result; turns = turns })
told_start old sink kernel text whole result turns not_ended none failed moments told = record {
  given = [];
  read = Consumes-nil old.source.left;
  lines = [];
  met = none_met old;
  none_left = nothing_ended old not_ended;
  out = take told.taken text;
  written = told.written;
  ending = at_start record {
    text = text;
    whole = whole;
    failed = failed;
    moments = moments;
    taken = told.taken;
    told = told.outcome;
    says = refl;
    no_turn = none;
    nothing_read = refl;
    nothing_met = refl;
  };
  few = inr (never stop.TooLong (λ e. absurd cc) (λ e. absurd cc) (λ e. absurd cc) (λ e. absurd cc), omega arith);
  read_fault = inr (never stop.ReadFault (λ e. absurd cc) (λ e. absurd cc) (λ e. absurd cc) (λ e. absurd cc), refl);
  write_fault = write_fault_of whole result told.taken (length text) old.sink.faults sink.faults (unfailed old.kernel kernel text whole failed) told.outcome;
}
  where
    never : (s : Stop) → s ≢ stop.StartRefused → s ≢ stop.Halted → s ≢ stop.WriteFault → s ≢ stop.Memory → result ≢ Err s
    never s = not_by_input old.kernel kernel text whole result told.taken (length text) old.sink.faults sink.faults s failed told.outcome

-- the start failed
pub start_failed : (old : World) (sink : SinkView) (kernel : KernelView) (f : StartFault) (result : End) (turns : List Turn) → old.source.ended ≡ false → turns ≡ []
    → IsStarted (Err f) old.kernel kernel → KeepsPolicy old.kernel kernel start start → TellsStart f result old.sink sink
    → IsSession old (record old { sink = sink; kernel = kernel }) (record { result = result; turns = turns })
start_failed old sink kernel (fault.Refused request) result turns not_ended none started moments told =
    told_start old sink kernel (start_refused_text request) (Err stop.StartRefused) result turns not_ended none (start_refused request started refl refl) moments told
start_failed old sink kernel (fault.Halted request) result turns not_ended none started moments told =
    told_start old sink kernel (start_halted_text request) (Err stop.Halted) result turns not_ended none (start_halted request started refl refl) moments told
start_failed old sink kernel (fault.Memory e) result turns not_ended none started moments told =
    subst (λ (s : SinkView). IsSession old (record old { sink = s; kernel = kernel }) (record { result = result; turns = turns })) (sym told.1)
    (subst (λ (r : End). IsSession old (record old { kernel = kernel }) (record { result = r; turns = turns })) (sym told.0)
    (no_room old kernel turns not_ended none started))
