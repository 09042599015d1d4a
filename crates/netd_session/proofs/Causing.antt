-- Why a session ends as it does: each status has its cause, and each cause its status.
use Rattle.std.proofs.Common.{◌≡◌, ◌≢◌, ◌∙◌, ◌⊎◌, ◌↔◌, ℕ, ◌+◌, ◌<◌, ◌≤◌, true, List, [], ◌∷◌, ◌++◌, length, map, take, slice_get, zero, suc, Option, None, Some, Ok, Err, IsSome, inl, inr, refl, sym, ap, subst, append_assoc, arith}
use Rattle.std.proofs.lemmas.Bool.{cases_lt, false≢true}
use Rattle.std.proofs.lemmas.List.{append_cancel_left}
use Rattle.std.proofs.lemmas.List.Elements.{Contains-append_right, Contains-push_cases}
use Rattle.std.proofs.lemmas.Option.{none-some}
use Rattle.std.specs.Io.KnownBytes.{IsAtEnd}
use Rattle.std.specs.List.{Contains}
use Rattle.kernel_model.specs.Journal.{entry}
use Rattle.kernel_model.specs.Segment.{done, undone}
use Rattle.kernel_model.specs.View.{KernelView, breaks_of, grown}
use Rattle.kernel_model.specs.declared.request.Entry.{Entry}
use Rattle.kernel_model.specs.declared.request.EntryKind.TheVariants.{Added, Refused}
use Rattle.kernel_model.specs.declared.request.Request.{Request}
use Rattle.line_input.specs.Lines.{input_limit}
use Rattle.net_control.proofs.Causing.{has_start_cause}
use Rattle.net_control.specs.Causes.{BrokeNone, BrokeSome}
use Rattle.net_control.specs.Started.{start_adds}
use Rattle.net_control.specs.View.{ControllerView}
use Rattle.net_control.specs.declared.controller.StartFault.TheVariants as fault
use Rattle.script_reader.specs.declared.line.Line.{Line}
use Rattle.netd_session.proofs.Growing.{HasGrown, goes_grew, grew_by_none, grew_twice, never_falls, ran_grew}
use Rattle.netd_session.proofs.Asking.{IsKind, is_command, is_other, kind_of_line}
use Rattle.netd_session.proofs.Tellings.{stopped}
use Rattle.netd_session.specs.Answers.{IsAnsweredLine}
use Rattle.netd_session.specs.Causes.{ComesWhere, HasBadLine, HasCauses, InGrammar, IsCausedSession, NothingFailed, RefusedStart, StandsThen, ToldInPart}
use Rattle.netd_session.specs.EndedView.{EndedView}
use Rattle.netd_session.specs.Ends.{AtInput, AtLine, AtStart, FailsToStart, HasBegun, HasEnded, HasRun, at_input, at_line, at_start, before_line, not_begun, start_halted, start_refused as refused_at}
use Rattle.netd_session.specs.Passes.{EndsInput, StopsWhere, read_failed, read_whole, too_long as input_too_long}
use Rattle.netd_session.specs.Lines.{Goes, IsSaid, Ran, halt, no_line, one_more, says_answer, says_bad}
use Rattle.netd_session.specs.Stops.{End, goes_on, status_of}
use Rattle.netd_session.specs.Telling.{IsTaken, no_memory, sink_failed, taken_whole}
use Rattle.netd_session.specs.Turns.{Standing}
use Rattle.netd_session.specs.World.{World}
use Rattle.netd_session.specs.declared.end.Status.TheVariants as status
use Rattle.netd_session.specs.declared.end.Stop.{Stop}
use Rattle.netd_session.specs.declared.end.Stop.TheVariants as stop
use Rattle.netd_session.specs.declared.turn.Turn.{Turn}

-- what a line says of the breaks: none while the controller runs on, and one where it halts
record Breaks (s e : Standing) : Type 0 where
  none : e.controller.halted ≡ None → BrokeNone s.kernel e.kernel
  some : IsSome e.controller.halted → BrokeSome s.kernel e.kernel

is_halted : {A : Type 0} (h : Option ℕ) → h ≡ None → IsSome h → A
is_halted h none some = absurd (false≢true (subst (λ (o : Option ℕ). IsSome o) none some))

answered_breaks : (l : Line) (n : ℕ) (s e : Standing) (turns : List Turn) (out : List ℕ) → s.controller.halted ≡ None → IsAnsweredLine l n s e turns out → Breaks s e
answered_breaks l n s e turns out runs is = by (kind_of_line l n s e turns out is)
  where
    by : IsKind l n s e turns out → Breaks s e
    by (is_other other keeps) = record {
      none = λ _. ap breaks_of keeps.kernel;
      some = λ halted. is_halted e.controller.halted (ap (λ (c : ControllerView). c.halted) keeps.controller ∙ runs) halted;
    }
    by (is_command command same commanded) = record { none = unbroken; some = λ halted. broken (commanded.caused.halts.0 halted) }
      where
        unbroken : e.controller.halted ≡ None → BrokeNone s.kernel e.kernel
        unbroken goes_on = elim (cases_lt (breaks_of s.kernel) (breaks_of e.kernel)) as (λ _. BrokeNone s.kernel e.kernel) [
          | inl broke ↦ is_halted e.controller.halted goes_on (commanded.caused.halts.1 (inl broke))
          | inr few ↦ omega (arith, few, never_falls s.kernel e.kernel (commanded.moments.entries, commanded.moments.grew))
        ]

        broken : BrokeSome s.kernel e.kernel ⊎ IsSome s.controller.halted → BrokeSome s.kernel e.kernel
        broken (inl broke) = broke
        broken (inr halted) = is_halted s.controller.halted runs halted

goes_breaks : (text : List ℕ) (n : ℕ) (s e : Standing) (turns : List Turn) (out : List ℕ) → s.controller.halted ≡ None → Goes text n s e turns out → Breaks s e
goes_breaks text n s e turns out runs goes = answered_breaks goes.line n s e turns out runs goes.answered

-- what lines that were answered in turn do
ran_unbroken : {begun : Standing} {texts : List (List ℕ)} {e : Standing} {turns : List Turn} {out : List ℕ} → Ran begun texts e turns out
    → e.controller.halted ≡ None → BrokeNone begun.kernel e.kernel
ran_unbroken no_line running = refl
ran_unbroken (one_more texts m turns out ran runs text e more more_out goes) running =
    (goes_breaks text (length texts + 1) m e more more_out runs goes).none running ∙ ran_unbroken ran runs

ran_in_grammar : {begun : Standing} {texts : List (List ℕ)} {e : Standing} {turns : List Turn} {out : List ℕ} → Ran begun texts e turns out
    → (text : List ℕ) → Contains texts text → InGrammar text
ran_in_grammar no_line text (k, within, is) = absurd (omega (arith, within))
ran_in_grammar (one_more texts m turns out ran runs last e more more_out goes) text there =
    elim (Contains-push_cases texts last text there) as (λ _. InGrammar text) [
      | inl before ↦ ran_in_grammar ran text before
      | inr same ↦ subst (λ (t : List ℕ). InGrammar t) same (goes.line, goes.spelled)
    ]

-- where a request was refused no request was added
mismatch : (adds : List Request) (k : ℕ) (next refused : Request) (behind more : List Entry) → slice_get adds k ≡ Some next
    → map (entry Added) (take k adds) ++ entry Refused refused ∷ behind ≡ map (entry Added) adds ++ more → ⊥
mismatch [] k next refused behind more there same = none-some next there
mismatch (q ∷ adds) zero next refused behind more there same = apart (ap (λ (e : Entry). e.kind) (heads same))
  where
    heads : entry Refused refused ∷ behind ≡ entry Added q ∷ (map (entry Added) adds ++ more) → entry Refused refused ≡ entry Added q
    heads e = cc

    apart : Refused ≡ Added → ⊥
    apart e = absurd cc
mismatch (q ∷ adds) (suc k) next refused behind more there same = mismatch adds k next refused behind more there (tails same)
  where
    tails : entry Added q ∷ (map (entry Added) (take k adds) ++ entry Refused refused ∷ behind) ≡ entry Added q ∷ (map (entry Added) adds ++ more)
        → map (entry Added) (take k adds) ++ entry Refused refused ∷ behind ≡ map (entry Added) adds ++ more
    tails e = cc

-- a start that was done, whatever came after it, was not refused
not_refused : (before begun after : KernelView) → begun ≡ grown before (done start_adds []) → HasGrown begun after → RefusedStart before after → ⊥
not_refused before begun after done_is (entries, grew) (request, (k, undone_entries, undone_at, refused, number)) =
    mismatch start_adds k undone_at.refused undone_at.refused _ ([] ++ entries) undone_at.next
    (append_cancel_left before.journal (undone start_adds k undone_at.refused) (map (entry Added) start_adds ++ ([] ++ entries)) both)
  where
    both : before.journal ++ undone start_adds k undone_at.refused ≡ before.journal ++ (map (entry Added) start_adds ++ ([] ++ entries))
    both =
        sym (ap (λ (k : KernelView). k.journal) refused ∙ ap (λ (es : List Entry). before.journal ++ es) undone_at.all)
        ∙ (ap (λ (k : KernelView). k.journal) grew
        ∙ (ap (λ (k : KernelView). k.journal ++ entries) done_is
        ∙ (append_assoc before.journal (done start_adds []) entries
        ∙ ap (λ (es : List Entry). before.journal ++ es) (append_assoc (map (entry Added) start_adds) [] entries))))

broke_both : {A : Type 0} (before after : KernelView) → BrokeSome before after → BrokeNone before after → A
broke_both before after some none = absurd (omega (arith, some, none))

refused_unbroken : (before after : KernelView) → RefusedStart before after → BrokeNone before after
refused_unbroken before after (request, started) = ((has_start_cause (Err (fault.Refused request)) before after started).refused.0 (request, refl)).1

began_unbroken : (before : KernelView) (begun : Standing) → HasBegun before begun → BrokeNone before begun.kernel
began_unbroken before begun began = ((has_start_cause (Ok begun.controller) before begun.kernel began.started).started refl).1

module _ (old new : World) (lines : List (List ℕ)) where
  abbrev pub AllInGrammar : Type 0
  AllInGrammar = (text : List ℕ) → Contains lines text → InGrammar text

  abbrev pub NotRefused : Type 0
  NotRefused = RefusedStart old.kernel new.kernel → ⊥

  -- what is known at each end
  abbrev pub Known : End → Type 0
  Known (Ok u) = (new.source.ended ≡ true) × AllInGrammar × BrokeNone old.kernel new.kernel × NotRefused
  Known (Err stop.BadLine) = HasBadLine lines × BrokeNone old.kernel new.kernel × NotRefused
  Known (Err stop.ReadFault) = AllInGrammar × BrokeNone old.kernel new.kernel × NotRefused
  Known (Err stop.WriteFault) = Unit {0}
  Known (Err stop.Memory) = Unit {0}
  Known (Err stop.Halted) = BrokeSome old.kernel new.kernel × NotRefused
  Known (Err stop.StartRefused) = RefusedStart old.kernel new.kernel × (HasBadLine lines → ⊥) × BrokeNone old.kernel new.kernel
  Known (Err stop.TooLong) = AllInGrammar × BrokeNone old.kernel new.kernel × NotRefused

  no_bad : AllInGrammar → HasBadLine lines → ⊥
  no_bad all (text, there, bad) = bad (all text there)

  bad_line : (e : End) → Known e → ComesWhere (status_of e) (status.Stopped stop.BadLine) (HasBadLine lines × BrokeNone old.kernel new.kernel)
  bad_line (Ok u) k = record { only = λ e. absurd cc; there = λ h. absurd (no_bad k.1 h.0) }
  bad_line (Err stop.BadLine) k = record { only = λ _. (k.0, k.1); there = λ _. inl refl }
  bad_line (Err stop.ReadFault) k = record { only = λ e. absurd cc; there = λ h. absurd (no_bad k.0 h.0) }
  bad_line (Err stop.WriteFault) k = record { only = λ e. absurd cc; there = λ _. inr (inl refl) }
  bad_line (Err stop.Memory) k = record { only = λ e. absurd cc; there = λ _. inr (inr refl) }
  bad_line (Err stop.Halted) k = record { only = λ e. absurd cc; there = λ h. broke_both old.kernel new.kernel k.0 h.1 }
  bad_line (Err stop.StartRefused) k = record { only = λ e. absurd cc; there = λ h. absurd (k.1 h.0) }
  bad_line (Err stop.TooLong) k = record { only = λ e. absurd cc; there = λ h. absurd (no_bad k.0 h.0) }

  halted : (e : End) → Known e → ComesWhere (status_of e) (status.Stopped stop.Halted) (BrokeSome old.kernel new.kernel)
  halted (Ok u) k = record { only = λ e. absurd cc; there = λ broke. broke_both old.kernel new.kernel broke k.2 }
  halted (Err stop.BadLine) k = record { only = λ e. absurd cc; there = λ broke. broke_both old.kernel new.kernel broke k.1 }
  halted (Err stop.ReadFault) k = record { only = λ e. absurd cc; there = λ broke. broke_both old.kernel new.kernel broke k.1 }
  halted (Err stop.WriteFault) k = record { only = λ e. absurd cc; there = λ _. inr (inl refl) }
  halted (Err stop.Memory) k = record { only = λ e. absurd cc; there = λ _. inr (inr refl) }
  halted (Err stop.Halted) k = record { only = λ _. k.0; there = λ _. inl refl }
  halted (Err stop.StartRefused) k = record { only = λ e. absurd cc; there = λ broke. broke_both old.kernel new.kernel broke k.2 }
  halted (Err stop.TooLong) k = record { only = λ e. absurd cc; there = λ broke. broke_both old.kernel new.kernel broke k.1 }

  start_refused : (e : End) → Known e → ComesWhere (status_of e) (status.Stopped stop.StartRefused) (RefusedStart old.kernel new.kernel)
  start_refused (Ok u) k = record { only = λ e. absurd cc; there = λ refused. absurd (k.3 refused) }
  start_refused (Err stop.BadLine) k = record { only = λ e. absurd cc; there = λ refused. absurd (k.2 refused) }
  start_refused (Err stop.ReadFault) k = record { only = λ e. absurd cc; there = λ refused. absurd (k.2 refused) }
  start_refused (Err stop.WriteFault) k = record { only = λ e. absurd cc; there = λ _. inr (inl refl) }
  start_refused (Err stop.Memory) k = record { only = λ e. absurd cc; there = λ _. inr (inr refl) }
  start_refused (Err stop.Halted) k = record { only = λ e. absurd cc; there = λ refused. absurd (k.1 refused) }
  start_refused (Err stop.StartRefused) k = record { only = λ _. k.0; there = λ _. inl refl }
  start_refused (Err stop.TooLong) k = record { only = λ e. absurd cc; there = λ refused. absurd (k.2 refused) }

-- an end that comes exactly where its count says so
exactly : (e : End) (s : Stop) {there other : Type 0} → StopsWhere e s there other → (there → other → ⊥) → (status_of e ≡ status.Stopped s) ↔ there
exactly (Ok u) s (inl (is, here)) apart = absurd cc
exactly (Err t) s (inl (is, here)) apart = ((λ _. here), (λ _. same))
  where
    same : status.Stopped t ≡ status.Stopped s
    same = cc
exactly (Ok u) s (inr (not, instead)) apart = ((λ e. absurd cc), (λ here. absurd (apart here instead)))
exactly (Err t) s (inr (not, instead)) apart = ((λ e. absurd (not (same e))), (λ here. absurd (apart here instead)))
  where
    same : status.Stopped t ≡ status.Stopped s → stopped t ≡ Err s
    same e = cc

-- where nothing failed
complete : (old new : World) (given : List ℕ) (lines : List (List ℕ)) (e : End) → Known old new lines e
    → (status_of e ≡ status.Stopped stop.TooLong → input_limit < length given)
    → (status_of e ≡ status.Stopped stop.ReadFault → old.source.faults < new.source.faults)
    → (status_of e ≡ status.Stopped stop.WriteFault → old.sink.faults < new.sink.faults)
    → NothingFailed old new given lines → (status_of e ≡ status.Finished) ⊎ (status_of e ≡ status.Stopped stop.Memory)
complete old new given lines (Ok u) k many read written none = inl refl
complete old new given lines (Err stop.BadLine) k many read written none = absurd (no_bad old new lines none.in_grammar k.0)
complete old new given lines (Err stop.ReadFault) k many read written none = absurd (omega (arith, read refl, none.no_read_fault))
complete old new given lines (Err stop.WriteFault) k many read written none = absurd (omega (arith, written refl, none.no_write_fault))
complete old new given lines (Err stop.Memory) k many read written none = inr refl
complete old new given lines (Err stop.Halted) k many read written none = broke_both old.kernel new.kernel k.0 none.unbroken
complete old new given lines (Err stop.StartRefused) k many read written none = absurd (none.started k.0)
complete old new given lines (Err stop.TooLong) k many read written none = absurd (omega (arith, many refl, none.short))

of_finished : (e : End) → status_of e ≡ status.Finished → e ≡ goes_on
of_finished (Ok u) is = refl
of_finished (Err s) is = absurd cc

never_bad_words : (e : End) → status_of e ≢ status.BadWords
never_bad_words (Ok u) is = absurd cc
never_bad_words (Err s) is = absurd cc

-- all causes, by what is known
pub has_causes : (old new : World) (given : List ℕ) (lines : List (List ℕ)) (e : End) → Known old new lines e
    → StopsWhere e stop.TooLong (length given ≡ input_limit + 1) (length given ≤ input_limit) → (new.source.ended ≡ true → IsAtEnd new.source.left)
    → StopsWhere e stop.ReadFault (old.source.faults < new.source.faults) (new.source.faults ≡ old.source.faults)
    → StopsWhere e stop.WriteFault (old.sink.faults < new.sink.faults) (new.sink.faults ≡ old.sink.faults) → HasCauses old new (status_of e) given lines
has_causes old new given lines e known many none_left read written = record {
  finished = λ is. let ended : new.source.ended ≡ true = (subst (λ (t : End). Known old new lines t) (of_finished e is) known).0 in (ended, none_left ended);
  bad_words = never_bad_words e;
  bad_line = bad_line old new lines e known;
  read_fault = read_fault;
  write_fault = write_fault;
  halted = halted old new lines e known;
  start_refused = start_refused old new lines e known;
  too_long = too_long;
  complete = complete old new given lines e known too_long.0 read_fault.0 write_fault.0;
}
  where
    read_fault : (status_of e ≡ status.Stopped stop.ReadFault) ↔ (old.source.faults < new.source.faults)
    read_fault = exactly e stop.ReadFault read (λ more same. omega (arith, more, same))

    write_fault : (status_of e ≡ status.Stopped stop.WriteFault) ↔ (old.sink.faults < new.sink.faults)
    write_fault = exactly e stop.WriteFault written (λ more same. omega (arith, more, same))

    one_more_byte : (length given ≡ input_limit + 1) → input_limit < length given
    one_more_byte is = omega (arith, is)

    wider : StopsWhere e stop.TooLong (length given ≡ input_limit + 1) (length given ≤ input_limit) → StopsWhere e stop.TooLong (input_limit < length given) (length given ≤ input_limit)
    wider (inl (is, count)) = inl (is, one_more_byte count)
    wider (inr other) = inr other

    too_long : (status_of e ≡ status.Stopped stop.TooLong) ↔ (input_limit < length given)
    too_long = exactly e stop.TooLong (wider many) (λ more few. omega (arith, more, few))

no_line_met : (lines : List (List ℕ)) → lines ≡ [] → HasBadLine lines → ⊥
no_line_met lines none (text, there, bad) = absurd (let here = subst (λ (l : List (List ℕ)). Contains l text) none there in omega (arith, here.1))

-- what is known after lines that were answered
module _ (old new : World) (lines : List (List ℕ)) (stands : Standing) (turns : List Turn) (out : List ℕ) (run : HasRun old lines stands turns out) where
  run_unbroken : BrokeNone old.kernel stands.kernel
  run_unbroken = ran_unbroken run.ran run.running ∙ began_unbroken old.kernel run.begun run.began

  run_not_refused : (after : KernelView) → HasGrown stands.kernel after → RefusedStart old.kernel after → ⊥
  run_not_refused after grew = not_refused old.kernel run.begun.kernel after run.began.started.0 (grew_twice run.begun.kernel stands.kernel after (ran_grew run.ran) grew)

module _ (old new : World) (ended : EndedView) (given : List ℕ) (lines : List (List ℕ)) (out : List ℕ) where
  -- what is known of an end, and what stands then
  record Ended (e : End) : Type 0 where
    known : Known old new lines e
    stands : StandsThen (status_of e) old new ended given lines out

  same_end : (e f : End) → e ≡ f → Ended f → Ended e
  same_end e f is known = subst Ended (sym is) known

  in_part : ToldInPart old new ended given lines out → Ended (Err stop.WriteFault)
  in_part told = record { known = tt; stands = told }

  in_part_for_memory : ToldInPart old new ended given lines out → Ended (Err stop.Memory)
  in_part_for_memory told = record { known = tt; stands = inl told }

  -- the start failed
  known_at_start : (at : AtStart old new ended given lines out) (whole : End) → FailsToStart old.kernel new.kernel at.text whole
      → IsTaken whole ended.result at.taken (length at.text) old.sink.faults new.sink.faults → Ended ended.result
  known_at_start at whole failed (sink_failed is few more) = same_end ended.result (Err stop.WriteFault) is (in_part (inr (at, few)))
  known_at_start at whole failed (no_memory is few kept) = same_end ended.result (Err stop.Memory) is (in_part_for_memory (inr (at, few)))
  known_at_start at whole (refused_at request started says same) (taken_whole is full kept) =
      same_end ended.result (Err stop.StartRefused) (is ∙ same) record {
        known = ((request, started), no_line_met lines at.nothing_met, refused_unbroken old.kernel new.kernel (request, started));
        stands = inr (at, full);
      }
  known_at_start at whole (start_halted request started says same) (taken_whole is full kept) =
      same_end ended.result (Err stop.Halted) (is ∙ same) record {
        known = (broke, λ refused. broke_both old.kernel new.kernel broke (refused_unbroken old.kernel new.kernel refused));
        stands = inr (at, full);
      }
    where
      broke : BrokeSome old.kernel new.kernel
      broke = (has_start_cause (Err (fault.Halted request)) old.kernel new.kernel started).halted.0 (request, refl)

  -- the session ended at a line
  known_at_line : (at : AtLine old new ended lines out) (whole : End) → IsSaid at.text (length at.before + 1) at.stood at.stands at.more at.last whole
      → IsTaken whole ended.result at.taken (length at.last) old.sink.faults new.sink.faults → Ended ended.result
  known_at_line at whole said (sink_failed is few more) = same_end ended.result (Err stop.WriteFault) is (in_part (inl (at, few)))
  known_at_line at whole said (no_memory is few kept) = same_end ended.result (Err stop.Memory) is (in_part_for_memory (inl (at, few)))
  known_at_line at whole (says_bad bad same) (taken_whole is full kept) =
      same_end ended.result (Err stop.BadLine) (is ∙ same) record {
        known = (
          (at.text, subst (λ (l : List (List ℕ)). Contains l at.text) (sym at.cut) (Contains-append_right at.before (at.text ∷ at.behind) at.text (0, omega arith, refl)), λ spelled. bad.no_line spelled.0 spelled.1),
          ap breaks_of kernel_is ∙ run_unbroken old new at.before at.stood at.turns at.told_before at.run,
          run_not_refused old new at.before at.stood at.turns at.told_before at.run new.kernel (grew_by_none at.stood.kernel new.kernel kernel_is),
        );
        stands = inl (at, full);
      }
    where
      kernel_is : new.kernel ≡ at.stood.kernel
      kernel_is = at.kernel_is ∙ ap (λ (x : Standing). x.kernel) bad.stays
  known_at_line at whole (says_answer goes same) (taken_whole is full kept) = by at.stands.controller.halted refl
    where
      broke_here : IsSome at.stands.controller.halted → BrokeSome at.stood.kernel at.stands.kernel
      broke_here some = (goes_breaks at.text (length at.before + 1) at.stood at.stands at.more at.last at.run.running goes).some some

      broke : IsSome at.stands.controller.halted → BrokeSome old.kernel new.kernel
      broke some = omega (arith, broke_here some, run_unbroken old new at.before at.stood at.turns at.told_before at.run, ap breaks_of at.kernel_is)

      by : (h : Option ℕ) → at.stands.controller.halted ≡ h → Ended ended.result
      by None on = absurd (at.stops (is ∙ same ∙ ap halt on))
      by (Some request) on = same_end ended.result (Err stop.Halted) (is ∙ same ∙ ap halt on) record {
        known = (
          broke (subst (λ (o : Option ℕ). IsSome o) (sym on) refl),
          run_not_refused old new at.before at.stood at.turns at.told_before at.run new.kernel
              (subst (λ (k : KernelView). HasGrown at.stood.kernel k) (sym at.kernel_is) (goes_grew at.text (length at.before + 1) at.stood at.stands at.more at.last goes)),
        );
        stands = inl (at, full);
      }

  -- the session ended with the input
  known_at_input : (at : AtInput old new ended given lines out) → EndsInput ended.result new.source.ended (length given) old.source.faults new.source.faults → Ended ended.result
  known_at_input at = by
    where
      in_grammar : (text : List ℕ) → Contains lines text → InGrammar text
      in_grammar = ran_in_grammar at.run.ran

      unbroken : BrokeNone old.kernel new.kernel
      unbroken = ap breaks_of at.kernel_is ∙ run_unbroken old new lines at.stands ended.turns out at.run

      unrefused : RefusedStart old.kernel new.kernel → ⊥
      unrefused = run_not_refused old new lines at.stands ended.turns out at.run new.kernel (grew_by_none at.stands.kernel new.kernel at.kernel_is)

      by : EndsInput ended.result new.source.ended (length given) old.source.faults new.source.faults → Ended ended.result
      by (read_whole is at_end few same) = same_end ended.result goes_on is record { known = (at_end, in_grammar, unbroken, unrefused); stands = at }
      by (read_failed is few more) = same_end ended.result (Err stop.ReadFault) is record { known = (in_grammar, unbroken, unrefused); stands = at }
      by (input_too_long is count same) = same_end ended.result (Err stop.TooLong) is record { known = (in_grammar, unbroken, unrefused); stands = at }

  known_and_stands : HasEnded old new ended given lines out → Ended ended.result
  known_and_stands (not_begun at) = same_end ended.result (Err stop.Memory) at.no_memory record { known = tt; stands = inr (inr at) }
  known_and_stands (at_start at) = known_at_start at at.whole at.failed at.told
  known_and_stands (at_line at) = known_at_line at at.whole at.said at.told
  known_and_stands (before_line at) = same_end ended.result (Err stop.Memory) at.no_memory record { known = tt; stands = inr (inl at) }
  known_and_stands (at_input at) = known_at_input at at.ends

-- the causes of a session
pub caused_session : (old new : World) (ended : EndedView) → IsCausedSession old new ended
caused_session old new ended s =
    let both = known_and_stands old new ended s.given s.lines s.out s.ending in
    (has_causes old new s.given s.lines ended.result both.known s.few s.none_left s.read_fault s.write_fault, both.stands)
