-- The whole journal of a run, moment by moment.
use Rattle.std.proofs.Common.{◌≡◌, ◌⊎◌, ℕ, List, [], inl, inr, sym, subst}
use Rattle.command_words.specs.Forms.{FormView, IsForm, run, soak, wordless}
use Rattle.kernel_model.specs.State.{start as kernel_start}
use Rattle.kernel_model.specs.View.{KernelView}
use Rattle.kernel_model.specs.Walk.{walk}
use Rattle.netd_session.proofs.Histories.{session_history}
use Rattle.netd_session.specs.History.{History}
use Rattle.netd_session.specs.Stops.{status_of}
use Rattle.netd_session.specs.World.{World}
use Rattle.netd_session.specs.declared.end.Status.{Status}
use Rattle.netd_top.proofs.Causing.{OneForm, same_world}
use Rattle.netd_top.specs.History.{DidNothing, HasHistory, HasRunHistory}
use Rattle.netd_top.specs.Run.{DoesRun, with_lists}
use Rattle.netd_top.specs.Soak.{made_world}
use Rattle.script_gen.specs.Script.{script_text}
use Rattle.policy_meaning.specs.Policy.{policy}
use Rattle.policy_state.specs.View.{start}
use Rattle.rule_match.specs.declared.packet.Packet.{Packet}

module _ (words : List (List ℕ)) (old new : World) (s : Status) (one : OneForm) (means : (packet : Packet) → walk kernel_start packet ≡ policy start packet) (none : old.kernel.journal ≡ []) where
  of_run : (refuse breaks : List ℕ) → IsForm words (run refuse breaks) → DoesRun words old new s → HasHistory s new ⊎ DidNothing old new s
  of_run refuse breaks form (inl (run r b, is, (ended, did, told))) =
      inl (ended.turns, did.lines, subst (λ (t : Status). History t ended.turns did.lines new.kernel.journal) (sym told) (session_history (with_lists old r b) new ended means none did))
  of_run refuse breaks form (inl (wordless only, is, does)) = absurd (let same : wordless only ≡ run refuse breaks = one words (wordless only) (run refuse breaks) is form in cc)
  of_run refuse breaks form (inl (soak seed count, is, does)) = absurd (let same : soak seed count ≡ run refuse breaks = one words (soak seed count) (run refuse breaks) is form in cc)
  of_run refuse breaks form (inr (inl (no_form, told))) = absurd (no_form (run refuse breaks) form)
  of_run refuse breaks form (inr (inr nothing_done)) = inr nothing_done

  of_soak : (seed count : ℕ) → IsForm words (soak seed count) → DoesRun words old new s → ((ended : Status) × HasHistory ended new) ⊎ DidNothing old new s
  of_soak seed count form (inl (run r b, is, does)) = absurd (let same : run r b ≡ soak seed count = one words (run r b) (soak seed count) is form in cc)
  of_soak seed count form (inl (wordless only, is, does)) = absurd (let same : wordless only ≡ soak seed count = one words (wordless only) (soak seed count) is form in cc)
  of_soak seed count form (inl (soak seed' count', is, (inl did, source_is))) =
      inl (
        status_of did.ended.result,
        (
          did.ended.turns,
          did.ran.did.lines,
          subst (λ (k : KernelView). History (status_of did.ended.result) did.ended.turns did.ran.did.lines k.journal) (sym did.ran.kernel_is)
              (session_history (made_world old.kernel (script_text seed' count')) did.ran.after did.ended means none did.ran.did),
        ),
      )
  of_soak seed count form (inl (soak seed' count', is, (inr (told, kernel_is, sink_is), source_is))) = inr (told, same_world old new kernel_is sink_is source_is)
  of_soak seed count form (inr (inl (no_form, told))) = absurd (no_form (soak seed count) form)
  of_soak seed count form (inr (inr nothing_done)) = inr nothing_done

  pub run_history : DoesRun words old new s → HasRunHistory words old new s
  run_history does = record { run = λ refuse breaks form. of_run refuse breaks form does; soak = λ seed count form. of_soak seed count form does }
