-- What holds of each request of a plan holds of each entry that carrying it out leaves.
use Rattle.std.proofs.Common.{◌≡◌, ℕ, List, [], ◌∷◌, map, reverse, take, Some, slice_get, inl, inr, sym, subst}
use Rattle.std.specs.List.{AllByRecursion}
use Rattle.kernel_model.specs.Journal.{entry}
use Rattle.kernel_model.specs.Segment.{done, undone, IsWhole, IsHalted}
use Rattle.kernel_model.specs.declared.request.Entry.{Entry}
use Rattle.kernel_model.specs.declared.request.EntryKind.{EntryKind}
use Rattle.kernel_model.specs.declared.request.EntryKind.TheVariants.{Added, Deleted, Refused, Broken}
use Rattle.kernel_model.specs.declared.request.Request.{Request}
use Rattle.list_lemmas.proofs.Alls.{all-append, all-reverse, all-take, all-map, all-at}

module _ (P : Request → Type 0) where
  abbrev OfEntry : Entry → Type 0
  OfEntry e = P e.request

  of_kind : (kind : EntryKind) (qs : List Request) → AllByRecursion P qs → AllByRecursion OfEntry (map (entry kind) qs)
  of_kind kind qs h = all-map P OfEntry (entry kind) (λ q holds. holds) qs h

  module _ (adds deletes : List Request) (each_add : AllByRecursion P adds) (each_delete : AllByRecursion P deletes) where
    pub of_done : AllByRecursion OfEntry (done adds deletes)
    of_done = all-append OfEntry (map (entry Added) adds) (map (entry Deleted) deletes) (of_kind Added adds each_add) (of_kind Deleted deletes each_delete)

    of_undone : (k : ℕ) (refused : Request) → slice_get adds k ≡ Some refused → AllByRecursion OfEntry (undone adds k refused)
    of_undone k refused next =
        let front : AllByRecursion P (take k adds) = all-take P k adds each_add in
        all-append OfEntry (map (entry Added) (take k adds)) (entry Refused refused ∷ map (entry Deleted) (reverse (take k adds)))
        (of_kind Added (take k adds) front)
        (all-at P adds k refused each_add next, of_kind Deleted (reverse (take k adds)) (all-reverse P (take k adds) front))

    pub of_whole : (es : List Entry) → IsWhole adds deletes es → AllByRecursion OfEntry es
    of_whole es (inl is) = subst (AllByRecursion OfEntry) (sym is) of_done
    of_whole es (inr (k, is)) = subst (AllByRecursion OfEntry) (sym is.all) (of_undone k is.refused is.next)

    pub of_halted : (es : List Entry) → IsHalted adds deletes es → AllByRecursion OfEntry es
    of_halted es is =
        let all : AllByRecursion OfEntry is.whole = of_whole is.whole is.is_whole in
        subst (AllByRecursion OfEntry) (sym is.all)
        (all-append OfEntry (take is.at is.whole) (entry Broken is.request ∷ []) (all-take OfEntry is.at is.whole all)
        (all-at OfEntry is.whole is.at (entry Deleted is.request) all is.stops, tt))
