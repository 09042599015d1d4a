-- One more request of a list.
use Rattle.std.proofs.Common.{◌≡◌, ℕ, ◌+◌, List, [], ◌∷◌, ◌++◌, map, take, drop, Some, slice_get, refl, sym, ◌∙◌, ap, subst}
use Rattle.std.proofs.lemmas.List.{map-append}
use Rattle.list_lemmas.proofs.Places.{take-next, drop-next}
use Rattle.kernel_model.specs.View.{KernelView, Room}
use Rattle.kernel_model.specs.Journal.{entry}
use Rattle.kernel_model.specs.declared.request.Entry.{Entry}
use Rattle.kernel_model.specs.declared.request.Request.{Request}
use Rattle.kernel_model.specs.declared.request.EntryKind.{EntryKind}
use Rattle.kernel_model.specs.declared.request.EntryKind.TheVariants.{Added, Deleted}
use Rattle.plan_exec.specs.InTurn.{Standing, standing, noted, after, MayAdd, MayAddInTurn, MayDelete, MayDeleteInTurn}

pub stands_by : {v w : KernelView} {r s : Room} → v ≡ w → r ≡ s → standing v r ≡ standing w s
stands_by {w = w} {r = r} e f = ap (λ x. standing x r) e ∙ ap (λ x. standing w x) f

pub after-append : (k : Standing) (es fs : List Entry) → after k (es ++ fs) ≡ after (after k es) fs
after-append k [] fs = refl
after-append k (e ∷ es) fs = after-append (noted k e) es fs

-- one request more was carried out
pub made_more : (kind : EntryKind) (old mid new : Standing) (qs : List Request) (i : ℕ) (q : Request) → slice_get qs i ≡ Some q → mid ≡ after old (map (entry kind) (take i qs)) → new ≡ noted mid (entry kind q)
    → new ≡ after old (map (entry kind) (take (i + 1) qs))
made_more kind old mid new qs i q at made grew =
    grew ∙ ap (λ k. noted k (entry kind q)) made
    ∙ sym (ap (λ l. after old (map (entry kind) l)) (take-next qs i q at) ∙ ap (after old) (map-append (entry kind) (take i qs) (q ∷ [])) ∙ after-append old (map (entry kind) (take i qs)) (entry kind q ∷ []))

-- the next request may be asked for
pub add_next : (k : Standing) (qs : List Request) (i : ℕ) (q : Request) → slice_get qs i ≡ Some q → MayAddInTurn k (drop i qs) → MayAdd k q × MayAddInTurn (noted k (entry Added q)) (drop (i + 1) qs)
add_next k qs i q at may = subst (MayAddInTurn k) (drop-next qs i q at) may

pub delete_next : (k : Standing) (qs : List Request) (i : ℕ) (q : Request) → slice_get qs i ≡ Some q → MayDeleteInTurn k (drop i qs) → MayDelete k q × MayDeleteInTurn (noted k (entry Deleted q)) (drop (i + 1) qs)
delete_next k qs i q at may = subst (MayDeleteInTurn k) (drop-next qs i q at) may
