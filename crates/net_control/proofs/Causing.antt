-- Each answer has its cause, and each cause its answer.
use Rattle.std.proofs.Common.{◌≡◌, ◌≢◌, ◌∙◌, ◌⊎◌, ◌↔◌, ℕ, ◌+◌, List, [], ◌∷◌, length, filter, Option, None, Some, Result, Ok, Err, IsSome, inl, inr, refl, sym, ap, subst, arith}
use Rattle.std.proofs.lemmas.Bool.{false≢true}
use Rattle.std.proofs.lemmas.Option.{none-some}
use Rattle.std.specs.declared.alloc.AllocError.{AllocError}
use Rattle.kernel_model.proofs.Counts.{refusals-grown, breaks-grown, refused-done, broken-done, refused-undone, broken-undone, broken-halted}
use Rattle.kernel_model.specs.Journal.{entry, is_refused, is_broken}
use Rattle.kernel_model.specs.Segment.{IsUndoneAt, IsHalted, done}
use Rattle.kernel_model.specs.View.{KernelView, grown, refusals_of, breaks_of}
use Rattle.kernel_model.specs.declared.request.Entry.{Entry}
use Rattle.kernel_model.specs.declared.request.EntryKind.TheVariants.{Refused, Broken}
use Rattle.kernel_model.specs.declared.request.Request.{Request}
use Rattle.net_control.specs.Applied.{IsAnswered, IsTaken, adds_of, code_of, deletes_of}
use Rattle.net_control.specs.Causes.{HasCause, HasStartCause, RefusedSome, RefusedNone, BrokeSome, BrokeNone}
use Rattle.net_control.specs.Started.{IsStarted, start_adds}
use Rattle.net_control.specs.View.{ControllerView}
use Rattle.turn_text.specs.declared.answer.Answer.{Answer}
use Rattle.turn_text.specs.declared.answer.Answer.TheVariants as answer
use Rattle.net_control.specs.declared.controller.StartFault.{StartFault}
use Rattle.net_control.specs.declared.controller.StartFault.TheVariants as fault
use Rattle.net_names.specs.declared.code.Code.{Code}
use Rattle.commands.specs.declared.command.Command.{Command}

-- how many more were refused, and broke
refusals_are : (old new : KernelView) (es known : List Entry) → new ≡ grown old es → filter is_refused es ≡ known → refusals_of new ≡ refusals_of old + length known
refusals_are old new es known grew is = ap refusals_of grew ∙ refusals-grown old es ∙ ap (λ l. refusals_of old + length l) is

breaks_are : (old new : KernelView) (es known : List Entry) → new ≡ grown old es → filter is_broken es ≡ known → breaks_of new ≡ breaks_of old + length known
breaks_are old new es known grew is = ap breaks_of grew ∙ breaks-grown old es ∙ ap (λ l. breaks_of old + length l) is

-- what a done, an undone and a halted plan do to the counts
module _ (adds deletes : List Request) (old new : KernelView) where
  done_refused : new ≡ grown old (done adds deletes) → RefusedNone old new
  done_refused grew = omega (arith, refusals_are old new (done adds deletes) [] grew (refused-done adds deletes))

  done_broke : new ≡ grown old (done adds deletes) → BrokeNone old new
  done_broke grew = omega (arith, breaks_are old new (done adds deletes) [] grew (broken-done adds deletes))

  pub undone_refused : (k : ℕ) (es : List Entry) → IsUndoneAt adds k es → new ≡ grown old es → RefusedSome old new
  undone_refused k es is grew = omega (arith, refusals_are old new es (entry Refused is.refused ∷ []) grew (ap (filter is_refused) is.all ∙ refused-undone adds k is.refused))

  undone_broke : (k : ℕ) (es : List Entry) → IsUndoneAt adds k es → new ≡ grown old es → BrokeNone old new
  undone_broke k es is grew = omega (arith, breaks_are old new es [] grew (ap (filter is_broken) is.all ∙ broken-undone adds k is.refused))

  halted_broke : (es : List Entry) → IsHalted adds deletes es → new ≡ grown old es → BrokeSome old new
  halted_broke es is grew = omega (arith, breaks_are old new es (entry Broken is.request ∷ []) grew (broken-halted adds deletes es is))

-- a controller that runs has not halted
not_halted : {A : Type 0} (old : ControllerView) → old.halted ≡ None → IsSome old.halted → A
not_halted old runs some = absurd (false≢true (subst (λ (h : Option ℕ). IsSome h) runs some))

not_again : {A : Type 0} (old : ControllerView) → old.halted ≡ None → (request : ℕ) → old.halted ≡ Some request → A
not_again old runs request is = absurd (none-some request (sym runs ∙ is))

broke_both : {A : Type 0} (before after : KernelView) → BrokeSome before after → BrokeNone before after → A
broke_both before after some none = absurd (omega (arith, some, none))

pub refused_both : {A : Type 0} (before after : KernelView) → RefusedSome before after → RefusedNone before after → A
refused_both before after some none = absurd (omega (arith, some, none))

-- an answer for which there was memory
abbrev made : Answer → Result Answer AllocError
made a = Ok a

-- an answer by which the controller ran and nothing broke
still_runs : (a : Result Answer AllocError) (old : ControllerView) (before after : KernelView) → old.halted ≡ None → BrokeNone before after → ((request : ℕ) → a ≢ Ok (answer.Halted request))
    → ((request : ℕ) × (a ≡ Ok (answer.Halted request))) ↔ (BrokeSome before after ⊎ IsSome old.halted)
still_runs a old before after runs whole other = (λ h. absurd (other h.0 h.1), back)
  where
    back : BrokeSome before after ⊎ IsSome old.halted → (request : ℕ) × (a ≡ Ok (answer.Halted request))
    back (inl broke) = broke_both before after broke whole
    back (inr some) = not_halted old runs some

-- after it the controller runs
keeps_running : (old new : ControllerView) (before after : KernelView) → old.halted ≡ None → new.halted ≡ None → BrokeNone before after
    → IsSome new.halted ↔ (BrokeSome before after ⊎ IsSome old.halted)
keeps_running old new before after runs goes_on whole = ((λ some. not_halted new goes_on some), back)
  where
    back : BrokeSome before after ⊎ IsSome old.halted → IsSome new.halted
    back (inl broke) = broke_both before after broke whole
    back (inr some) = not_halted old runs some

same_halt : (old new : ControllerView) → new ≡ old → new.halted ≡ old.halted
same_halt old new same = ap (λ (c : ControllerView). c.halted) same

same_counts : (before after : KernelView) → after ≡ before → RefusedNone before after × BrokeNone before after
same_counts before after same = (ap refusals_of same, ap breaks_of same)

done_cause : (command : Command) (old new : ControllerView) (before after : KernelView) → IsAnswered (Ok answer.Done) command old new before after
    → HasCause (Ok answer.Done) command old new before after
done_cause command old new before after is =
    let unrefused : RefusedNone before after = done_refused (adds_of old.state command) (deletes_of old.state command) before after is.1 in
    let unbroken : BrokeNone before after = done_broke (adds_of old.state command) (deletes_of old.state command) before after is.1 in record {
      done = λ _. ((λ _. (is.0, unrefused, unbroken)), (λ _. refl));
      refused = λ _ c. ((λ e. absurd cc), (λ (h : (old.halted ≡ None) × (code_of old.state before.journal command ≡ Some c)). absurd (none-some c (sym is.0.accepted ∙ h.1))));
      kernel_refused = ((λ h. absurd (let e = h.1 in cc)), (λ (h : RefusedSome before after × BrokeNone before after). refused_both before after h.0 unrefused));
      halted = still_runs (Ok answer.Done) old before after is.0.runs unbroken (λ request e. absurd cc);
      halted_before = λ q e. not_again old is.0.runs q e;
      halts = keeps_running old new before after is.0.runs (ap (λ (c : ControllerView). c.halted) is.2) unbroken;
    }

refused_cause : (c : Code) (command : Command) (old new : ControllerView) (before after : KernelView) → IsAnswered (Ok (answer.Refused c)) command old new before after
    → HasCause (Ok (answer.Refused c)) command old new before after
refused_cause c command old new before after is =
    let none = same_counts before after is.2 in record {
      done = λ _. ((λ e. absurd cc), (λ (h : IsTaken old before command × RefusedNone before after × BrokeNone before after). absurd (none-some c (sym h.0.accepted ∙ is.1))));
      refused = λ _ d. ((λ e. (is.0, is.1 ∙ same_code d e)), (λ (h : (old.halted ≡ None) × (code_of old.state before.journal command ≡ Some d)). same_answer d (sym is.1 ∙ h.1)));
      kernel_refused = ((λ h. absurd (let e = h.1 in cc)), (λ (h : RefusedSome before after × BrokeNone before after). refused_both before after h.0 none.0));
      halted = still_runs (Ok (answer.Refused c)) old before after is.0 none.1 (λ request e. absurd cc);
      halted_before = λ q e. not_again old is.0 q e;
      halts = keeps_running old new before after is.0 (same_halt old new is.3 ∙ is.0) none.1;
    }
  where
    same_code : (d : Code) → made (answer.Refused c) ≡ made (answer.Refused d) → Some c ≡ Some d
    same_code d e = cc

    same_answer : (d : Code) → Some c ≡ Some d → made (answer.Refused c) ≡ Ok (answer.Refused d)
    same_answer d e = cc

kernel_refused_cause : (request : ℕ) (command : Command) (old new : ControllerView) (before after : KernelView) → IsAnswered (Ok (answer.KernelRefused request)) command old new before after
    → HasCause (Ok (answer.KernelRefused request)) command old new before after
kernel_refused_cause request command old new before after is =
    let adds = adds_of old.state command in
    let deletes = deletes_of old.state command in
    let refused : RefusedSome before after = undone_refused adds deletes before after is.1.0 is.1.1 is.1.2 is.1.3 in
    let unbroken : BrokeNone before after = undone_broke adds deletes before after is.1.0 is.1.1 is.1.2 is.1.3 in record {
      done = λ _. ((λ e. absurd cc), (λ (h : IsTaken old before command × RefusedNone before after × BrokeNone before after). refused_both before after refused h.1));
      refused = λ _ c. ((λ e. absurd cc), (λ (h : (old.halted ≡ None) × (code_of old.state before.journal command ≡ Some c)). absurd (none-some c (sym is.0.accepted ∙ h.1))));
      kernel_refused = ((λ _. (refused, unbroken)), (λ _. (request, refl)));
      halted = still_runs (Ok (answer.KernelRefused request)) old before after is.0.runs unbroken (λ q e. absurd cc);
      halted_before = λ q e. not_again old is.0.runs q e;
      halts = keeps_running old new before after is.0.runs (same_halt old new is.2 ∙ is.0.runs) unbroken;
    }

-- a deletion broke
broke_cause : (request : ℕ) (command : Command) (old new : ControllerView) (before after : KernelView) → IsTaken old before command → BrokeSome before after → IsSome new.halted
    → HasCause (Ok (answer.Halted request)) command old new before after
broke_cause request command old new before after taken broke is_halted = record {
  done = λ _. ((λ e. absurd cc), (λ (h : IsTaken old before command × RefusedNone before after × BrokeNone before after). broke_both before after broke h.2));
  refused = λ _ c. ((λ e. absurd cc), (λ (h : (old.halted ≡ None) × (code_of old.state before.journal command ≡ Some c)). absurd (none-some c (sym taken.accepted ∙ h.1))));
  kernel_refused = ((λ h. absurd (let e = h.1 in cc)), (λ (h : RefusedSome before after × BrokeNone before after). broke_both before after broke h.1));
  halted = ((λ _. inl broke), (λ _. (request, refl)));
  halted_before = λ q e. not_again old taken.runs q e;
  halts = ((λ _. inl broke), (λ _. is_halted));
}

-- one broke before
broken_before : (request : ℕ) (command : Command) (old new : ControllerView) (before after : KernelView) → old.halted ≡ Some request → after ≡ before → new ≡ old
    → HasCause (Ok (answer.Halted request)) command old new before after
broken_before request command old new before after is same stays =
    let none = same_counts before after same in record {
      done = λ _. ((λ e. absurd cc), (λ (h : IsTaken old before command × RefusedNone before after × BrokeNone before after). not_again old h.0.runs request is));
      refused = λ _ c. ((λ e. absurd cc), (λ (h : (old.halted ≡ None) × (code_of old.state before.journal command ≡ Some c)). not_again old h.0 request is));
      kernel_refused = ((λ h. absurd (let e = h.1 in cc)), (λ (h : RefusedSome before after × BrokeNone before after). refused_both before after h.0 none.0));
      halted = ((λ _. inr (subst (λ (h : Option ℕ). IsSome h) (sym is) refl)), (λ _. (request, refl)));
      halted_before = λ q again. same_answer q (sym is ∙ again);
      halts = ((λ _. inr (subst (λ (h : Option ℕ). IsSome h) (sym is) refl)), (λ _. subst (λ (h : Option ℕ). IsSome h) (sym (same_halt old new stays ∙ is)) refl));
    }
  where
    same_answer : (q : ℕ) → Some request ≡ Some q → made (answer.Halted request) ≡ Ok (answer.Halted q)
    same_answer q e = cc

out_of_memory_cause : (e : AllocError) (command : Command) (old new : ControllerView) (before after : KernelView) → IsAnswered (Err e) command old new before after
    → HasCause (Err e) command old new before after
out_of_memory_cause e command old new before after is =
    let none = same_counts before after is.1 in record {
      done = λ there. absurd (false≢true there);
      refused = λ there c. absurd (false≢true there);
      kernel_refused = ((λ h. absurd (let e = h.1 in cc)), (λ (h : RefusedSome before after × BrokeNone before after). refused_both before after h.0 none.0));
      halted = still_runs (Err e) old before after is.0 none.1 (λ request same. absurd cc);
      halted_before = λ q e. not_again old is.0 q e;
      halts = keeps_running old new before after is.0 (same_halt old new is.2 ∙ is.0) none.1;
    }

pub has_cause : (a : Result Answer AllocError) (command : Command) (old new : ControllerView) (before after : KernelView) → IsAnswered a command old new before after
    → HasCause a command old new before after
has_cause (Ok answer.Done) command old new before after is = done_cause command old new before after is
has_cause (Ok (answer.Refused c)) command old new before after is = refused_cause c command old new before after is
has_cause (Ok (answer.KernelRefused q)) command old new before after is = kernel_refused_cause q command old new before after is
has_cause (Ok (answer.Halted q)) command old new before after (inl is) = broken_before q command old new before after is.0 is.1 is.2
has_cause (Ok (answer.Halted q)) command old new before after (inr is) =
    broke_cause q command old new before after is.0 (halted_broke (adds_of old.state command) (deletes_of old.state command) before after is.1.0 is.1.1 is.1.2)
    (subst (λ (h : Option ℕ). IsSome h) (sym (ap (λ (c : ControllerView). c.halted) is.2)) refl)
has_cause (Err e) command old new before after is = out_of_memory_cause e command old new before after is

-- the start, by its answer
pub has_start_cause : (r : Result ControllerView StartFault) (before after : KernelView) → IsStarted r before after → HasStartCause r before after
has_start_cause (Ok c) before after is =
    let unrefused : RefusedNone before after = done_refused start_adds [] before after is.0 in
    let unbroken : BrokeNone before after = done_broke start_adds [] before after is.0 in record {
      started = λ _. (unrefused, unbroken);
      refused = ((λ h. absurd (let e = h.1 in cc)), (λ (h : RefusedSome before after × BrokeNone before after). refused_both before after h.0 unrefused));
      halted = ((λ h. absurd (let e = h.1 in cc)), (λ (h : BrokeSome before after). broke_both before after h unbroken));
    }
has_start_cause (Err (fault.Refused q)) before after is =
    let refused : RefusedSome before after = undone_refused start_adds [] before after is.0 is.1 is.2 is.3 in
    let unbroken : BrokeNone before after = undone_broke start_adds [] before after is.0 is.1 is.2 is.3 in record {
      started = λ h. absurd (false≢true h);
      refused = ((λ _. (refused, unbroken)), (λ _. (q, refl)));
      halted = ((λ h. absurd (let e = h.1 in cc)), (λ (h : BrokeSome before after). broke_both before after h unbroken));
    }
has_start_cause (Err (fault.Halted q)) before after is =
    let broke : BrokeSome before after = halted_broke start_adds [] before after is.0 is.1 is.2 in record {
      started = λ h. absurd (false≢true h);
      refused = ((λ h. absurd (let e = h.1 in cc)), (λ (h : RefusedSome before after × BrokeNone before after). broke_both before after broke h.1));
      halted = ((λ _. broke), (λ _. (q, refl)));
    }
has_start_cause (Err (fault.Memory e)) before after is =
    let none = same_counts before after is in record {
      started = λ h. absurd (false≢true h);
      refused = ((λ h. absurd (let e = h.1 in cc)), (λ (h : RefusedSome before after × BrokeNone before after). refused_both before after h.0 none.0));
      halted = ((λ h. absurd (let e = h.1 in cc)), (λ (h : BrokeSome before after). broke_both before after h none.1));
    }
