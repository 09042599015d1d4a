-- How many refusals and breaks a segment has.
use Rattle.std.proofs.Common.{◌≡◌, ℕ, zero, suc, ◌+◌, Bool, true, false, cond, List, [], ◌∷◌, ◌++◌, length, map, reverse, take, filter, refl, ◌∙◌, ap, length-append, inl, inr}
use Rattle.std.specs.Prelude.{◌⊎◌}
use Rattle.std.proofs.lemmas.Bool.{cases_Bool}
use Rattle.std.proofs.lemmas.List.Elements.{filter-append}
use Rattle.kernel_model.specs.View.{KernelView, grown, refusals_of, breaks_of}
use Rattle.kernel_model.specs.Journal.{entry, is_refused, is_broken}
use Rattle.kernel_model.specs.Segment.{done, undone, IsWhole, IsHalted}
use Rattle.kernel_model.specs.declared.request.Entry.{Entry}
use Rattle.kernel_model.specs.declared.request.EntryKind.{EntryKind}
use Rattle.kernel_model.specs.declared.request.EntryKind.TheVariants.{Added, Deleted, Refused, Broken}
use Rattle.kernel_model.specs.declared.request.Request.{Request}

pub refusals-grown : (k : KernelView) (es : List Entry) → refusals_of (grown k es) ≡ refusals_of k + length (filter is_refused es)
refusals-grown k es = ap length (filter-append is_refused k.journal es) ∙ length-append (filter is_refused k.journal) (filter is_refused es)

pub breaks-grown : (k : KernelView) (es : List Entry) → breaks_of (grown k es) ≡ breaks_of k + length (filter is_broken es)
breaks-grown k es = ap length (filter-append is_broken k.journal es) ∙ length-append (filter is_broken k.journal) (filter is_broken es)

-- entries of one kind, of which none passes
none-of : (p : Entry → Bool) (kind : EntryKind) → ((q : Request) → p (entry kind q) ≡ false) → (qs : List Request) → filter p (map (entry kind) qs) ≡ []
none-of p kind h [] = refl
none-of p kind h (q ∷ qs) = rw (h q) (none-of p kind h qs)

none-done : (p : Entry → Bool) → ((q : Request) → p (entry Added q) ≡ false) → ((q : Request) → p (entry Deleted q) ≡ false) → (adds deletes : List Request) → filter p (done adds deletes) ≡ []
none-done p added deleted adds deletes =
    filter-append p (map (entry Added) adds) (map (entry Deleted) deletes)
    ∙ ap (λ l. l ++ filter p (map (entry Deleted) deletes)) (none-of p Added added adds) ∙ none-of p Deleted deleted deletes

pub refused-done : (adds deletes : List Request) → filter is_refused (done adds deletes) ≡ []
refused-done adds deletes = none-done is_refused (λ q. refl) (λ q. refl) adds deletes

pub broken-done : (adds deletes : List Request) → filter is_broken (done adds deletes) ≡ []
broken-done adds deletes = none-done is_broken (λ q. refl) (λ q. refl) adds deletes

pub refused-undone : (adds : List Request) (k : ℕ) (r : Request) → filter is_refused (undone adds k r) ≡ entry Refused r ∷ []
refused-undone adds k r =
    let back = map (entry Deleted) (reverse (take k adds)) in
    filter-append is_refused (map (entry Added) (take k adds)) (entry Refused r ∷ back)
    ∙ ap (λ l. l ++ entry Refused r ∷ filter is_refused back) (none-of is_refused Added (λ q. refl) (take k adds))
    ∙ ap (λ l. entry Refused r ∷ l) (none-of is_refused Deleted (λ q. refl) (reverse (take k adds)))

pub broken-undone : (adds : List Request) (k : ℕ) (r : Request) → filter is_broken (undone adds k r) ≡ []
broken-undone adds k r =
    let back = map (entry Deleted) (reverse (take k adds)) in
    filter-append is_broken (map (entry Added) (take k adds)) (entry Refused r ∷ back)
    ∙ ap (λ l. l ++ filter is_broken back) (none-of is_broken Added (λ q. refl) (take k adds))
    ∙ none-of is_broken Deleted (λ q. refl) (reverse (take k adds))

none-take : (p : Entry → Bool) (n : ℕ) (es : List Entry) → filter p es ≡ [] → filter p (take n es) ≡ []
none-take p zero es h = refl
none-take p (suc n) [] h = refl
none-take p (suc n) (e ∷ es) h = step (none-take p n es) (cases_Bool (p e))
  where
    step : (filter p es ≡ [] → filter p (take n es) ≡ []) → (p e ≡ true) ⊎ (p e ≡ false) → cond (p e) (e ∷ filter p (take n es)) (filter p (take n es)) ≡ []
    step rest (inl hit) = let both : e ∷ filter p es ≡ [] = rw hit at h in cc
    step rest (inr miss) = rw miss (rest (rw miss at h))

broken-whole : (adds deletes : List Request) (es : List Entry) → IsWhole adds deletes es → filter is_broken es ≡ []
broken-whole adds deletes es (inl is) = ap (filter is_broken) is ∙ broken-done adds deletes
broken-whole adds deletes es (inr is) = ap (filter is_broken) is.1.all ∙ broken-undone adds is.0 is.1.refused

pub broken-halted : (adds deletes : List Request) (es : List Entry) → (h : IsHalted adds deletes es) → filter is_broken es ≡ entry Broken h.request ∷ []
broken-halted adds deletes es h =
    ap (filter is_broken) h.all ∙ filter-append is_broken (take h.at h.whole) (entry Broken h.request ∷ [])
    ∙ ap (λ l. l ++ entry Broken h.request ∷ []) (none-take is_broken h.at h.whole (broken-whole adds deletes h.whole h.is_whole))
