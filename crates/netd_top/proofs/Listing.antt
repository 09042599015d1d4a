-- Refusals and breaks fall where the two lists say.
use Rattle.std.proofs.Common.{◌≡◌, ◌∙◌, ℕ, List, [], Option, inl, inr, sym, ap, subst}
use Rattle.std.proofs.lemmas.Option.{none-some}
use Rattle.command_words.specs.Forms.{FormView, IsForm, run, soak, wordless}
use Rattle.kernel_model.specs.Journal.{Listed}
use Rattle.kernel_model.specs.View.{IfListed, KernelView, Lists}
use Rattle.netd_session.proofs.Growing.{session_lists}
use Rattle.netd_session.specs.World.{World}
use Rattle.netd_session.specs.declared.end.Status.{Status}
use Rattle.netd_top.proofs.Causing.{OneForm}
use Rattle.netd_top.specs.History.{FailsWhereListed}
use Rattle.netd_top.specs.Run.{DoesRun, with_lists}
use Rattle.netd_top.specs.Soak.{made_world}
use Rattle.script_gen.specs.Script.{script_text}

nothing_listed : (refuse breaks : List ℕ) → Listed refuse breaks []
nothing_listed refuse breaks = record { refusals = λ k e is. absurd (none-some e is); broken = λ k e is. absurd (none-some e is) }

module _ (words : List (List ℕ)) (old new : World) (s : Status) (one : OneForm) (none : old.kernel.journal ≡ []) (sound : IfListed new.kernel.lists new.kernel.journal) where
  asked_nothing : (refuse breaks : List ℕ) → new ≡ old → Listed refuse breaks new.kernel.journal
  asked_nothing refuse breaks same = subst (Listed refuse breaks) (sym (ap (λ (w : World). w.kernel.journal) same ∙ none)) (nothing_listed refuse breaks)

  of_run : (refuse breaks : List ℕ) → IsForm words (run refuse breaks) → DoesRun words old new s → Listed refuse breaks new.kernel.journal
  of_run refuse breaks form (inl (run r b, is, (ended, did, told))) = by_form (one words (run r b) (run refuse breaks) is form)
    where
      listed : Listed r b new.kernel.journal
      listed = subst (λ (l : Option Lists). IfListed l new.kernel.journal) (session_lists (with_lists old r b) new ended did) sound

      by_lists : (f : FormView) → Type 0
      by_lists (run x y) = Listed x y new.kernel.journal
      by_lists (wordless other) = Unit {0}
      by_lists (soak seed count) = Unit {0}

      by_form : run r b ≡ run refuse breaks → Listed refuse breaks new.kernel.journal
      by_form same = let here : Listed r b new.kernel.journal = listed in subst by_lists same here
  of_run refuse breaks form (inl (wordless only, is, does)) = absurd (let same : wordless only ≡ run refuse breaks = one words (wordless only) (run refuse breaks) is form in cc)
  of_run refuse breaks form (inl (soak seed count, is, does)) = absurd (let same : soak seed count ≡ run refuse breaks = one words (soak seed count) (run refuse breaks) is form in cc)
  of_run refuse breaks form (inr (inl (no_form, told))) = absurd (no_form (run refuse breaks) form)
  of_run refuse breaks form (inr (inr nothing_done)) = asked_nothing refuse breaks nothing_done.1

  of_soak : (seed count : ℕ) → IsForm words (soak seed count) → DoesRun words old new s → Listed [] [] new.kernel.journal
  of_soak seed count form (inl (run r b, is, does)) = absurd (let same : run r b ≡ soak seed count = one words (run r b) (soak seed count) is form in cc)
  of_soak seed count form (inl (wordless only, is, does)) = absurd (let same : wordless only ≡ soak seed count = one words (wordless only) (soak seed count) is form in cc)
  of_soak seed count form (inl (soak seed' count', is, (inl did, source_is))) =
      subst (λ (l : Option Lists). IfListed l new.kernel.journal)
      (ap (λ (k : KernelView). k.lists) did.ran.kernel_is ∙ session_lists (made_world old.kernel (script_text seed' count')) did.ran.after did.ended did.ran.did) sound
  of_soak seed count form (inl (soak seed' count', is, (inr (told, kernel_is, sink_is), source_is))) =
      subst (Listed [] []) (sym (ap (λ (k : KernelView). k.journal) kernel_is ∙ none)) (nothing_listed [] [])
  of_soak seed count form (inr (inl (no_form, told))) = absurd (no_form (soak seed count) form)
  of_soak seed count form (inr (inr nothing_done)) = asked_nothing [] [] nothing_done.1

  pub fails_where_listed : DoesRun words old new s → FailsWhereListed words new.kernel.journal
  fails_where_listed does = record { run = λ refuse breaks form. of_run refuse breaks form does; soak = λ seed count form. of_soak seed count form does }
