-- Over, and over and back, along the segments of a plan that goes over when all of it is done.
use Rattle.std.proofs.Common.{◌≡◌, ℕ, List, ◌∷◌, [], ◌++◌, length, take, Some, slice_get, inl, inr, sym, subst}
use Rattle.rule_law.specs.Plans.{GoesOver, GoesOverAndBack}
use Rattle.rule_match.specs.declared.packet.Packet.{Packet}
use Rattle.kernel_model.specs.State.{KernelState}
use Rattle.kernel_model.specs.Journal.{entry, replay_from}
use Rattle.kernel_model.specs.Segment.{done, undone, IsWhole, IsSegment}
use Rattle.kernel_model.specs.Switch.{walk_along}
use Rattle.kernel_model.specs.Walk.{walk}
use Rattle.kernel_model.specs.declared.request.Entry.{Entry}
use Rattle.kernel_model.specs.declared.request.EntryKind.TheVariants.{Deleted, Broken}
use Rattle.kernel_model.specs.declared.request.Request.{Request}
use Rattle.kernel_model.proofs.Held.{over_and_back}
use Rattle.kernel_model.proofs.Stopped.{prefix_stops, broken_stops, over_stops, back_stops}

module _ (k : KernelState) (adds deletes : List Request) (packet : Packet) where
  -- from the walk before to the walk when all is done
  abbrev pub Goes : List Entry → Type 0
  Goes es = GoesOver (length es) (walk_along k packet es) (walk k packet) (walk (replay_from k (done adds deletes)) packet)

  abbrev pub GoesBack : List Entry → Type 0
  GoesBack es = GoesOverAndBack (length es) (walk_along k packet es) (walk k packet) (walk (replay_from k (done adds deletes)) packet)

  module _ (over : Goes (done adds deletes)) where
    pub prefix_goes : (entries rest : List Entry) → entries ++ rest ≡ done adds deletes → Goes entries
    prefix_goes entries rest is =
        over_stops k (done adds deletes) entries (λ s. walk s packet) (walk k packet) (walk (replay_from k (done adds deletes)) packet)
        (prefix_stops k (done adds deletes) entries rest is) over

    pub halted_goes : (entries : List Entry) (i : ℕ) (broken : Request) → slice_get (done adds deletes) i ≡ Some (entry Deleted broken)
        → entries ≡ take i (done adds deletes) ++ entry Broken broken ∷ [] → Goes entries
    halted_goes entries i broken next is =
        over_stops k (done adds deletes) entries (λ s. walk s packet) (walk k packet) (walk (replay_from k (done adds deletes)) packet)
        (broken_stops k (done adds deletes) entries i (entry Deleted broken) broken next is) over

    module _ (back : (i : ℕ) (refused : Request) → slice_get adds i ≡ Some refused → GoesBack (undone adds i refused)) where
      whole_goes_back : (es : List Entry) → IsWhole adds deletes es → GoesBack es
      whole_goes_back es (inl is) =
          let all = done adds deletes in
          subst GoesBack (sym is) (over_and_back (length all) (walk_along k packet all) (walk k packet) (walk (replay_from k all) packet) over)
      whole_goes_back es (inr is) = subst GoesBack (sym is.1.all) (back is.0 is.1.refused is.1.next)

      pub segment_goes_back : (es : List Entry) → IsSegment adds deletes es → GoesBack es
      segment_goes_back es (inl is) = whole_goes_back es (inl is)
      segment_goes_back es (inr (inl is)) = whole_goes_back es (inr is)
      segment_goes_back es (inr (inr is)) =
          back_stops k is.whole es (λ s. walk s packet) (walk k packet) (walk (replay_from k (done adds deletes)) packet)
          (broken_stops k is.whole es is.at (entry Deleted is.request) is.request is.stops is.all) (whole_goes_back is.whole is.is_whole)
