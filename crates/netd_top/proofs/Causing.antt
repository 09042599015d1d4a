-- Why the program ends as it does.
use Rattle.std.proofs.Common.{◌≡◌, ◌∙◌, ◌⊎◌, ◌↔◌, ℕ, ◌<◌, List, [], length, inl, inr, sym, ap, subst, arith}
use Rattle.command_words.specs.Forms.{FormView, IsForm, run, soak, wordless}
use Rattle.command_words.specs.declared.form.Wordless.TheVariants.{Check}
use Rattle.kernel_model.specs.View.{KernelView, breaks_of}
use Rattle.netd_session.proofs.Causing.{caused_session}
use Rattle.netd_session.proofs.Checking.{caused_check}
use Rattle.netd_session.proofs.Keeping.{IsInOrder, nothing_asked, session_in_order}
use Rattle.netd_session.specs.EndedView.{EndedView}
use Rattle.netd_session.specs.Stops.{End, goes_on, status_of}
use Rattle.netd_session.specs.Telling.{IsTaken, MakesAndTells, no_memory, sink_failed, taken_whole}
use Rattle.net_io.specs.Streams.{SinkView, SourceView}
use Rattle.net_control.specs.Causes.{BrokeSome}
use Rattle.netd_session.specs.World.{World, streams_of, world}
use Rattle.netd_session.specs.declared.end.Status.{Status}
use Rattle.netd_session.specs.declared.end.Status.TheVariants as status
use Rattle.netd_session.specs.declared.end.Stop.TheVariants as stop
use Rattle.netd_top.specs.Causes.{EndsSoak, HaveNoForm, HasRunCauses, RanCheck, RanSession}
use Rattle.netd_top.specs.Soak.{HasSoaked, SaysSums, made_world}
use Rattle.script_gen.specs.Script.{script_text}
use Rattle.netd_top.specs.Run.{DoesForm, DoesRun, TellsUsage, usage_status, usage_text, with_lists}

-- words have one form
abbrev pub OneForm : Type 0
OneForm = (words : List (List ℕ)) (form other : FormView) → IsForm words form → IsForm words other → form ≡ other

-- words of the form run, and the session that was run
ran : OneForm → (words : List (List ℕ)) (refuse breaks : List ℕ) (old new : World) (s : Status) → IsForm words (run refuse breaks) → DoesForm (run refuse breaks) old new s
    → HasRunCauses words old new s
ran one words refuse breaks old new s is (ended, did, told) = record {
  bad_words = record { only = λ e. absurd (here.2.bad_words e); there = λ none. absurd (none (run refuse breaks) is) };
  read_fault = here.2.read_fault;
  write_fault = here.2.write_fault;
  halted = here.2.halted;
  session = λ other_refuse other_breaks other. inl (by_form other_refuse other_breaks (one words (run refuse breaks) (run other_refuse other_breaks) is other));
  check = λ other. absurd (let same : run refuse breaks ≡ wordless Check = one words (run refuse breaks) (wordless Check) is other in cc);
  soak = λ seed count other. absurd (let same : run refuse breaks ≡ soak seed count = one words (run refuse breaks) (soak seed count) is other in cc);
}
  where
    here : RanSession (with_lists old refuse breaks) new s
    here =
        let both = caused_session (with_lists old refuse breaks) new ended did in
        subst (λ (t : Status). RanSession (with_lists old refuse breaks) new t) (sym told) (ended, did, both.0, both.1)

    by_lists : (f : FormView) → Type 0
    by_lists (run r b) = RanSession (with_lists old r b) new s
    by_lists (wordless form) = Unit {0}
    by_lists (soak seed count) = Unit {0}

    by_form : (r b : List ℕ) → run refuse breaks ≡ run r b → RanSession (with_lists old r b) new s
    by_form r b same = let ran_here : RanSession (with_lists old refuse breaks) new s = here in subst by_lists same ran_here

-- the word check, and the check that was made
checked : OneForm → (words : List (List ℕ)) (old new : World) (s : Status) → IsForm words (wordless Check) → DoesForm (wordless Check) old new s → HasRunCauses words old new s
checked one words old new s is (result, did, told, kept) = record {
  bad_words = record { only = λ e. absurd (here.2.bad_words e); there = λ none. absurd (none (wordless Check) is) };
  read_fault = here.2.read_fault;
  write_fault = here.2.write_fault;
  halted = here.2.halted;
  session = λ refuse breaks other. absurd (let same : wordless Check ≡ run refuse breaks = one words (wordless Check) (run refuse breaks) is other in cc);
  check = λ other. inl here;
  soak = λ seed count other. absurd (let same : wordless Check ≡ soak seed count = one words (wordless Check) (soak seed count) is other in cc);
}
  where
    here : RanCheck old new s
    here =
        let both = caused_check (streams_of old) (streams_of new) result old.kernel did in
        subst (λ (k : KernelView). RanCheck old (record new { kernel = k }) s) (sym kept)
        (subst (λ (t : Status). RanCheck old (record new { kernel = old.kernel }) t) (sym told) (result, did, both.0, both.1))

-- what telling the usage text says of the status
record Tells (s : Status) (before after : ℕ) : Type 0 where
  which : (s ≡ status.BadWords) ⊎ ((s ≡ status.Stopped stop.WriteFault) ⊎ (s ≡ status.Stopped stop.Memory))
  fault : (s ≡ status.Stopped stop.WriteFault) ↔ (before < after)

tells : (s : Status) (end : End) (taken whole before after : ℕ) → s ≡ usage_status end → IsTaken goes_on end taken whole before after → Tells s before after
tells s end taken whole before after is (taken_whole told all kept) =
    let told_all : s ≡ status.BadWords = is ∙ ap usage_status told in
    record { which = inl told_all; fault = ((λ e. absurd cc), (λ more. absurd (omega (arith, more, kept)))) }
tells s end taken whole before after is (sink_failed told few more) =
    let failed : s ≡ status.Stopped stop.WriteFault = is ∙ ap usage_status told in
    record { which = inr (inl failed); fault = ((λ _. more), (λ _. failed)) }
tells s end taken whole before after is (no_memory told few kept) =
    let wanting : s ≡ status.Stopped stop.Memory = is ∙ ap usage_status told in
    record { which = inr (inr wanting); fault = ((λ e. absurd cc), (λ more. absurd (omega (arith, more, kept)))) }

-- none of these statuses is another one
not_read_fault : (s : Status) → (s ≡ status.BadWords) ⊎ ((s ≡ status.Stopped stop.WriteFault) ⊎ (s ≡ status.Stopped stop.Memory)) → s ≡ status.Stopped stop.ReadFault → ⊥
not_read_fault s (inl is) e = absurd cc
not_read_fault s (inr (inl is)) e = absurd cc
not_read_fault s (inr (inr is)) e = absurd cc

not_halted : (s : Status) → (s ≡ status.BadWords) ⊎ ((s ≡ status.Stopped stop.WriteFault) ⊎ (s ≡ status.Stopped stop.Memory)) → s ≡ status.Stopped stop.Halted → ⊥
not_halted s (inl is) e = absurd cc
not_halted s (inr (inl is)) e = absurd cc
not_halted s (inr (inr is)) e = absurd cc

-- words of no form
told : (words : List (List ℕ)) (old new : World) (s : Status) → HaveNoForm words → TellsUsage old new s → HasRunCauses words old new s
told words old new s none usage =
    let t : Tells s old.sink.faults new.sink.faults = tells s usage.told.result usage.told.told.taken (length usage_text) old.sink.faults new.sink.faults usage.told.status_is usage.told.told.outcome in record {
      bad_words = record { only = λ _. none; there = λ _. t.which };
      read_fault = ((λ e. absurd (not_read_fault s t.which e)), (λ more. absurd (let same = ap (λ (w : World). w.source.faults) usage.rest in omega (arith, more, same))));
      write_fault = t.fault;
      halted = record {
        only = λ e. absurd (not_halted s t.which e);
        there = λ broke. absurd (let same = ap (λ (w : World). breaks_of w.kernel) usage.rest in omega (arith, broke, same));
      };
      session = λ refuse breaks is. absurd (none (run refuse breaks) is);
      check = λ is. absurd (none (wordless Check) is);
      soak = λ seed count is. absurd (none (soak seed count) is);
    }

-- memory ran out for the words
without_memory : (words : List (List ℕ)) (old new : World) (s : Status) → s ≡ status.Stopped stop.Memory → new ≡ old → HasRunCauses words old new s
without_memory words old new s is same = record {
  bad_words = record { only = λ e. absurd cc; there = λ _. inr (inr is) };
  read_fault = ((λ e. absurd (not_read_fault s (inr (inr is)) e)), (λ more. absurd (let stays = ap (λ (w : World). w.source.faults) same in omega (arith, more, stays))));
  write_fault = ((λ e. absurd cc), (λ more. absurd (let stays = ap (λ (w : World). w.sink.faults) same in omega (arith, more, stays))));
  halted = record {
    only = λ e. absurd (not_halted s (inr (inr is)) e);
    there = λ broke. absurd (let stays = ap (λ (w : World). breaks_of w.kernel) same in omega (arith, broke, stays));
  };
  session = λ refuse breaks form. inr (is, same);
  check = λ form. inr (is, same);
  soak = λ seed count form. (inr (inr is), ap (λ (w : World). w.source) same);
}

-- how telling the sums ended
sums_told : (text : List ℕ) (result : End) (s : Status) (old new : SinkView) → MakesAndTells text goes_on result old new → s ≡ status_of result
    → EndsSoak s × ((s ≡ status.Stopped stop.WriteFault) ↔ (old.faults < new.faults))
sums_told text result s old new (inr (is, same)) told =
    let out : s ≡ status.Stopped stop.Memory = told ∙ ap status_of is in
    (inr (inr out), ((λ e. absurd cc), (λ more. absurd (let kept = ap (λ (v : SinkView). v.faults) same in omega (arith, more, kept)))))
sums_told text result s old new (inl t) told = by t.outcome
  where
    by : IsTaken goes_on result t.taken (length text) old.faults new.faults → EndsSoak s × ((s ≡ status.Stopped stop.WriteFault) ↔ (old.faults < new.faults))
    by (taken_whole is all kept) =
        let out : s ≡ status.Finished = told ∙ ap status_of is in
        (inl out, ((λ e. absurd cc), (λ more. absurd (omega (arith, more, kept)))))
    by (sink_failed is few more) =
        let out : s ≡ status.Stopped stop.WriteFault = told ∙ ap status_of is in
        (inr (inl out), ((λ _. more), (λ _. out)))
    by (no_memory is few kept) =
        let out : s ≡ status.Stopped stop.Memory = told ∙ ap status_of is in
        (inr (inr out), ((λ e. absurd cc), (λ more. absurd (omega (arith, more, kept)))))

-- how `soak` ended, and what of it the sink tells
soak_told : (ended : EndedView) (kernel : KernelView) (s : Status) (old new : SinkView) → SaysSums ended kernel s old new
    → EndsSoak s × ((s ≡ status.Stopped stop.WriteFault) ↔ (old.faults < new.faults))
soak_told ended kernel s old new (inl (result, goes, told, is)) = sums_told _ result s old new told is
soak_told ended kernel s old new (inr (is, same)) =
    (inr (inr is), ((λ e. absurd cc), (λ more. absurd (let kept = ap (λ (v : SinkView). v.faults) same in omega (arith, more, kept)))))

not_finished : (s : Status) → s ≡ status.Finished → s ≡ status.Stopped stop.ReadFault → ⊥
not_finished s is e = absurd cc

soak_no_read_fault : (s : Status) → EndsSoak s → s ≡ status.Stopped stop.ReadFault → ⊥
soak_no_read_fault s (inl is) e = not_finished s is e
soak_no_read_fault s (inr other) e = not_read_fault s (inr other) e

soak_not_halted : (s : Status) → EndsSoak s → s ≡ status.Stopped stop.Halted → ⊥
soak_not_halted s (inl is) e = absurd cc
soak_not_halted s (inr other) e = not_halted s (inr other) e

soak_has_words : (s : Status) → EndsSoak s → s ≡ status.BadWords → ⊥
soak_has_words s (inl is) e = absurd cc
soak_has_words s (inr (inl is)) e = absurd cc
soak_has_words s (inr (inr is)) e = absurd cc

-- where a deletion broke the session didn't reach its end, so the sums were not told
soak_broke : (seed count : ℕ) (old new : World) (s : Status) → HasSoaked seed count old.kernel new.kernel old.sink new.sink s → BrokeSome old.kernel new.kernel → s ≡ status.Stopped stop.Memory
soak_broke seed count old new s did broke = by did.told
  where
    inner : Status
    inner = status_of did.ended.result

    broke_inner : BrokeSome (made_world old.kernel (script_text seed count)).kernel did.ran.after.kernel
    broke_inner = subst (λ (k : KernelView). BrokeSome old.kernel k) did.ran.kernel_is broke

    stopped : (inner ≡ status.Stopped stop.Halted) ⊎ ((inner ≡ status.Stopped stop.WriteFault) ⊎ (inner ≡ status.Stopped stop.Memory))
    stopped = (caused_session (made_world old.kernel (script_text seed count)) did.ran.after did.ended did.ran.did).0.halted.there broke_inner

    no_end : (t : Status) → t ≡ status.Finished → (t ≡ status.Stopped stop.Halted) ⊎ ((t ≡ status.Stopped stop.WriteFault) ⊎ (t ≡ status.Stopped stop.Memory)) → ⊥
    no_end t is (inl e) = absurd cc
    no_end t is (inr (inl e)) = absurd cc
    no_end t is (inr (inr e)) = absurd cc

    by : SaysSums did.ended new.kernel s old.sink new.sink → s ≡ status.Stopped stop.Memory
    by (inl (result, goes, told, is)) = absurd (no_end inner (ap status_of goes) stopped)
    by (inr (is, same)) = is

-- words of the form `soak`
soaked : OneForm → (words : List (List ℕ)) (seed count : ℕ) (old new : World) (s : Status) → IsForm words (soak seed count) → HasSoaked seed count old.kernel new.kernel old.sink new.sink s
    → new.source ≡ old.source → HasRunCauses words old new s
soaked one words seed count old new s is did source_is =
    let told = soak_told did.ended new.kernel s old.sink new.sink did.told in record {
      bad_words = record { only = λ e. absurd (soak_has_words s told.0 e); there = λ none. absurd (none (soak seed count) is) };
      read_fault = ((λ e. absurd (soak_no_read_fault s told.0 e)), (λ more. absurd (let same = ap (λ (v : SourceView). v.faults) source_is in omega (arith, more, same))));
      write_fault = told.1;
      halted = record {
        only = λ e. absurd (soak_not_halted s told.0 e);
        there = λ broke. inr (inr (soak_broke seed count old new s did broke));
      };
      session = λ refuse breaks other. absurd (let same : soak seed count ≡ run refuse breaks = one words (soak seed count) (run refuse breaks) is other in cc);
      check = λ other. absurd (let same : soak seed count ≡ wordless Check = one words (soak seed count) (wordless Check) is other in cc);
      soak = λ t n other. (told.0, source_is);
    }

-- nothing was done: a kernel, a sink and a source that are the same are the same world
pub same_world : (old new : World) → new.kernel ≡ old.kernel → new.sink ≡ old.sink → new.source ≡ old.source → new ≡ old
same_world old new kernel sink source =
    ap (λ (x : SourceView). world x new.sink new.kernel) source
    ∙ ap (λ (x : SinkView). world old.source x new.kernel) sink
    ∙ ap (λ (x : KernelView). world old.source old.sink x) kernel

pub run_causes : OneForm → (words : List (List ℕ)) (old new : World) (s : Status) → DoesRun words old new s → HasRunCauses words old new s
run_causes one words old new s (inl (run refuse breaks, is, does)) = ran one words refuse breaks old new s is does
run_causes one words old new s (inl (wordless Check, is, does)) = checked one words old new s is does
run_causes one words old new s (inl (soak seed count, is, (inl did, source_is))) = soaked one words seed count old new s is did source_is
run_causes one words old new s (inl (soak seed count, is, (inr (told, kernel_is, sink_is), source_is))) = without_memory words old new s told (same_world old new kernel_is sink_is source_is)
run_causes one words old new s (inr (inl (none, usage))) = told words old new s none usage
run_causes one words old new s (inr (inr (is, same))) = without_memory words old new s is same

-- whatever the words and the status
pub run_in_order : (words : List (List ℕ)) (old new : World) (s : Status) → DoesRun words old new s → old.kernel.journal ≡ [] → IsInOrder new.kernel
run_in_order words old new s (inl (run refuse breaks, is, (ended, did, told))) none = session_in_order (with_lists old refuse breaks) new ended did none
run_in_order words old new s (inl (wordless Check, is, (result, did, told, kept))) none = nothing_asked new.kernel (ap (λ (k : KernelView). k.journal) kept ∙ none)
run_in_order words old new s (inl (soak seed count, is, (inl did, source_is))) none =
    subst IsInOrder (sym did.ran.kernel_is) (session_in_order (made_world old.kernel (script_text seed count)) did.ran.after did.ended did.ran.did none)
run_in_order words old new s (inl (soak seed count, is, (inr (told, kernel_is, sink_is), source_is))) none = nothing_asked new.kernel (ap (λ (k : KernelView). k.journal) kernel_is ∙ none)
run_in_order words old new s (inr (inl (no_form, usage))) none = nothing_asked new.kernel (ap (λ (w : World). w.kernel.journal) usage.rest ∙ none)
run_in_order words old new s (inr (inr (is, same))) none = nothing_asked new.kernel (ap (λ (w : World). w.kernel.journal) same ∙ none)
