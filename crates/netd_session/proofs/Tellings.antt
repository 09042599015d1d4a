-- What is known of a text that was told, and how the session ends then.
use Rattle.std.proofs.Common.{◌≡◌, ◌≢◌, ◌∙◌, ◌⊎◌, ℕ, ◌<◌, false, List, length, take, Result, Ok, Err, inl, inr, refl, ap, subst, arith}
use Rattle.std.proofs.KnownBytes.{Appends-kept}
use Rattle.std.specs.Io.KnownBytes.{Appends, Keeps}
use Rattle.std.specs.Prelude.{IsErrAnd, alloc_error}
use Rattle.net_io.specs.Streams.{SinkView}
use Rattle.net_io.specs.declared.streams.WriteFault.{WriteFault}
use Rattle.net_io.specs.declared.streams.WriteFault.TheVariants as write
use Rattle.netd_session.specs.Passes.{StopsWhere}
use Rattle.netd_session.specs.Stops.{End, after_write, ends_with_input, goes_on, status_of}
use Rattle.netd_session.specs.Telling.{IsTaken, Tells, no_memory, sink_failed, taken_whole}
use Rattle.netd_session.specs.declared.end.Stop.{Stop}
use Rattle.netd_session.specs.declared.end.Stop.TheVariants as stop

-- a session that stopped so
abbrev pub stopped : Stop → End
stopped s = Err s

-- a write that failed so
abbrev pub unwritten : WriteFault → Result ℕ WriteFault
unwritten fault = Err fault

-- an offer that stopped in the middle
pub offered_in_part : (text : List ℕ) (taken : ℕ) (old mid new : SinkView) (fault : WriteFault) (result : End)
    → IsErrAnd result (λ s. s ≡ after_write fault) → taken < length text
    → Appends old.bytes mid.bytes (take taken text) → mid.faults ≡ old.faults → Keeps mid.bytes new.bytes
    → (unwritten fault ≡ Err write.Failed → mid.faults < new.faults) → (unwritten fault ≡ Err (write.Memory alloc_error) → new.faults ≡ mid.faults)
    → Tells text goes_on result old new
offered_in_part text taken old mid new fault (Ok u) is few so_far same kept failed memory = absurd is
offered_in_part text taken old mid new write.Failed (Err s) is few so_far same kept failed memory = record {
  taken = taken;
  written = Appends-kept old.bytes mid.bytes new.bytes (take taken text) so_far kept;
  outcome = sink_failed (ap (λ (t : Stop). stopped t) is) few (omega (arith, failed refl, same));
}
offered_in_part text taken old mid new (write.Memory e) (Err s) is few so_far same kept failed memory = record {
  taken = taken;
  written = Appends-kept old.bytes mid.bytes new.bytes (take taken text) so_far kept;
  outcome = no_memory (ap (λ (t : Stop). stopped t) is) few (memory refl ∙ same);
}

-- the same text
pub same_text : {text same : List ℕ} {whole result : End} {old new : SinkView} → text ≡ same → Tells text whole result old new → Tells same whole result old new
same_text {text} {same} {whole} {result} {old} {new} is told = subst (λ (t : List ℕ). Tells t whole result old new) is told

-- the one error that it can be
pub error_is : (result : End) (s : Stop) → IsErrAnd result (λ t. t ≡ s) → result ≡ Err s
error_is (Ok u) s is = absurd is
error_is (Err t) s is = ap (λ (x : Stop). stopped x) is

module _ (text : List ℕ) (whole : End) (old new : SinkView) where
  -- all of a text was taken, whatever the end is then
  pub then_whole : (u : Unit {0}) → Tells text goes_on (Ok u) old new → Tells text whole whole old new
  then_whole u t = record { taken = t.taken; written = t.written; outcome = by t.outcome }
    where
      by : IsTaken goes_on (Ok u) t.taken (length text) old.faults new.faults → IsTaken whole whole t.taken (length text) old.faults new.faults
      by (taken_whole is all kept) = taken_whole refl all kept
      by (sink_failed is few more) = absurd cc
      by (no_memory is few kept) = absurd cc

  -- or less than all of it
  pub then_part : (s : Stop) (result : End) → IsErrAnd result (λ t. t ≡ s) → Tells text goes_on (Err s) old new → Tells text whole result old new
  then_part s (Ok u) is t = absurd is
  then_part s (Err r) is t = record { taken = t.taken; written = t.written; outcome = by t.outcome }
    where
      by : IsTaken goes_on (Err s) t.taken (length text) old.faults new.faults → IsTaken whole (Err r) t.taken (length text) old.faults new.faults
      by (taken_whole end all kept) = absurd cc
      by (sink_failed end few more) = sink_failed (ap (λ (x : Stop). stopped x) is ∙ end) few more
      by (no_memory end few kept) = no_memory (ap (λ (x : Stop). stopped x) is ∙ end) few kept

-- a failed write is the end of the session where the sink failed while this was said
pub write_fault_of : (whole result : End) (taken all old new : ℕ) → whole ≢ Err stop.WriteFault → IsTaken whole result taken all old new
    → StopsWhere result stop.WriteFault (old < new) (new ≡ old)
write_fault_of whole result taken all old new other (taken_whole is full kept) = inr ((λ e. other (whole_is is e)), kept)
  where
    whole_is : result ≡ whole → result ≡ Err stop.WriteFault → whole ≡ Err stop.WriteFault
    whole_is a b = cc
write_fault_of whole result taken all old new other (sink_failed is few more) = inl (is, more)
write_fault_of whole result taken all old new other (no_memory is few kept) = inr ((λ e. apart is e), kept)
  where
    apart : result ≡ Err stop.Memory → result ≡ Err stop.WriteFault → ⊥
    apart a b = absurd cc

-- what is said of a line goes on, or ends as a bad line or a broken deletion does
abbrev pub EndsLine : End → Type 0
EndsLine whole = (whole ≡ goes_on) ⊎ ((whole ≡ Err stop.BadLine) ⊎ (whole ≡ Err stop.Halted))

-- that is no fault of the sink
pub line_unfailed : (whole : End) → EndsLine whole → whole ≢ Err stop.WriteFault
line_unfailed whole (inl is) same = absurd cc
line_unfailed whole (inr (inl is)) same = absurd cc
line_unfailed whole (inr (inr is)) same = absurd cc

-- a line that ends it does not end it as the input does
pub not_with_input : (whole result : End) (taken all old new : ℕ) → EndsLine whole → IsTaken whole result taken all old new → result ≢ goes_on → ends_with_input (status_of result) ≡ false
not_with_input whole result taken all old new ends (sink_failed is few more) stops = ap (λ (r : End). ends_with_input (status_of r)) is
not_with_input whole result taken all old new ends (no_memory is few kept) stops = ap (λ (r : End). ends_with_input (status_of r)) is
not_with_input whole result taken all old new (inl goes) (taken_whole is full kept) stops = absurd (stops (is ∙ goes))
not_with_input whole result taken all old new (inr (inl bad)) (taken_whole is full kept) stops = ap (λ (r : End). ends_with_input (status_of r)) (is ∙ bad)
not_with_input whole result taken all old new (inr (inr halts)) (taken_whole is full kept) stops = ap (λ (r : End). ends_with_input (status_of r)) (is ∙ halts)
