-- What an answer tells of the refusals and the breaks, and of the kernel.
use Rattle.std.proofs.Common.{◌≡◌, ℕ, zero, suc, ◌+◌, false, List, [], ◌∷◌, ◌++◌, length, take, filter, Option, Some, slice_get, inl, inr, sym, ◌∙◌, ap, subst, add-zero}
use Rattle.std.specs.List.{AllByRecursion}
use Rattle.std.proofs.lemmas.Bool.{and_parts}
use Rattle.std.proofs.lemmas.Option.{none-some}
use Rattle.kernel_model.specs.State.{start, is_route}
use Rattle.kernel_model.specs.View.{KernelView, Room, grown, IsSound, refusals_of, breaks_of}
use Rattle.kernel_model.specs.Journal.{entry, replay, well_asked, is_refused, is_broken}
use Rattle.kernel_model.specs.Segment.{undone}
use Rattle.kernel_model.specs.PlanView.{PlanView}
use Rattle.kernel_model.specs.declared.request.Entry.{Entry}
use Rattle.kernel_model.specs.declared.request.EntryKind.TheVariants.{Refused, Broken}
use Rattle.kernel_model.specs.declared.request.Request.{Request}
use Rattle.kernel_model.specs.declared.request.Request.TheVariants as req
use Rattle.list_lemmas.proofs.Alls.{all-take}
use Rattle.kernel_model.proofs.Counts.{refusals-grown, breaks-grown, refused-done, broken-done, refused-undone, broken-undone, broken-halted}
use Rattle.kernel_model.proofs.Replays.{replay-append, well_asked-append}
use Rattle.kernel_model.proofs.Undoing.{replay-undone}
use Rattle.plan_exec.specs.MayCarry.{MayCarry, ReadyFor}
use Rattle.plan_exec.specs.Carries.{Carries, IsCaused, IsAsBefore}
use Rattle.plan_exec.specs.declared.Carried.{Carried}
use Rattle.plan_exec.specs.declared.Carried.TheVariants.{Done, Undone, Halted}

refusals_are : (old new : KernelView) (es known : List Entry) → new ≡ grown old es → filter is_refused es ≡ known → refusals_of new ≡ refusals_of old + length known
refusals_are old new es known grew is = ap refusals_of grew ∙ refusals-grown old es ∙ ap (λ l. refusals_of old + length l) is

breaks_are : (old new : KernelView) (es known : List Entry) → new ≡ grown old es → filter is_broken es ≡ known → breaks_of new ≡ breaks_of old + length known
breaks_are old new es known grew is = ap breaks_of grew ∙ breaks-grown old es ∙ ap (λ l. breaks_of old + length l) is

pub causes : (plan : PlanView) (old new : KernelView) (result : Carried) → Carries plan old new result → IsCaused old new result
causes plan old new Done h = (
  refusals_are old new h.entries [] h.grew (ap (filter is_refused) h.form ∙ refused-done plan.adds plan.deletes) ∙ add-zero (refusals_of old),
  breaks_are old new h.entries [] h.grew (ap (filter is_broken) h.form ∙ broken-done plan.adds plan.deletes) ∙ add-zero (breaks_of old),
)
causes plan old new (Undone request) h =
    let k = h.form.0 in
    let is = h.form.1 in (
      refusals_are old new h.entries (entry Refused is.refused ∷ []) h.grew (ap (filter is_refused) is.all ∙ refused-undone plan.adds k is.refused),
      breaks_are old new h.entries [] h.grew (ap (filter is_broken) is.all ∙ broken-undone plan.adds k is.refused) ∙ add-zero (breaks_of old),
    )
causes plan old new (Halted request) h =
    breaks_are old new h.entries (entry Broken h.form.0.request ∷ []) h.grew (broken-halted plan.adds plan.deletes h.entries h.form.0)

-- what is added before the place of an addition is rules
rules_before : (adds : List Request) (ready : Option ℕ) (k : ℕ) (q : Request) → ReadyFor adds ready → slice_get adds k ≡ Some q → AllByRecursion (λ p. is_route p ≡ false) (take k adds)
rules_before adds ready k q (inl rules) next = all-take (λ p. is_route p ≡ false) k adds rules
rules_before adds ready k q (inr (n, route, is, room)) next = subst (λ qs. AllByRecursion (λ p. is_route p ≡ false) (take k qs)) (sym is) (none k (ap (λ qs. slice_get qs k) (sym is) ∙ next))
  where
    none : (j : ℕ) → slice_get (req.Route n route ∷ []) j ≡ Some q → AllByRecursion (λ p. is_route p ≡ false) (take j (req.Route n route ∷ []))
    none zero there = tt
    none (suc j) there = absurd (none-some q there)

pub as_before : (plan : PlanView) (old new : KernelView) (room left : Room) (result : Carried) → MayCarry plan old room → IsSound new left → Carries plan old new result → IsAsBefore old new result
as_before plan old new room left Done may sound h = tt
as_before plan old new room left (Halted request) may sound h = tt
as_before plan old new room left (Undone request) may sound h =
    let k = h.form.0 in
    let is = h.form.1 in
    let entries = undone plan.adds k is.refused in
    let journal : new.journal ≡ old.journal ++ entries = ap (λ (v : KernelView). v.journal) h.grew ∙ ap (λ es. old.journal ++ es) is.all in
    let asked = and_parts (well_asked start old.journal) (well_asked (replay old.journal) entries) (sym (well_asked-append start old.journal entries) ∙ ap (well_asked start) (sym journal) ∙ sound.well_asked) in
    ap replay journal ∙ replay-append old.journal entries
    ∙ replay-undone (replay old.journal) (take k plan.adds) is.refused (rules_before plan.adds room.ready k is.refused may.ready is.next) asked.1
