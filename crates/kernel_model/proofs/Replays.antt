-- A journal that grows.
use Rattle.std.proofs.Common.{◌≡◌, Bool, true, false, ◌&&◌, List, [], ◌∷◌, ◌++◌, refl, sym, ◌∙◌, ap}
use Rattle.kernel_model.specs.State.{KernelState, start}
use Rattle.kernel_model.specs.Journal.{replay, replay_from, act, may_stand, well_asked}
use Rattle.kernel_model.specs.declared.request.Entry.{Entry}

pub replay_from-append : (k : KernelState) (es fs : List Entry) → replay_from k (es ++ fs) ≡ replay_from (replay_from k es) fs
replay_from-append k [] fs = refl
replay_from-append k (e ∷ es) fs = replay_from-append (act k e.kind e.request) es fs

pub well_asked-append : (k : KernelState) (es fs : List Entry) → well_asked k (es ++ fs) ≡ (well_asked k es && well_asked (replay_from k es) fs)
well_asked-append k [] fs = refl
well_asked-append k (e ∷ es) fs =
    ap (λ b. may_stand k e.kind e.request && b) (well_asked-append (act k e.kind e.request) es fs)
    ∙ sym (and_assoc (may_stand k e.kind e.request) (well_asked (act k e.kind e.request) es) (well_asked (replay_from (act k e.kind e.request) es) fs))
  where
    and_assoc : (a b c : Bool) → ((a && b) && c) ≡ (a && (b && c))
    and_assoc true b c = refl
    and_assoc false b c = refl

-- one more entry that could be asked
pub well_asked_push : (journal : List Entry) (e : Entry) → well_asked start journal ≡ true → may_stand (replay journal) e.kind e.request ≡ true → well_asked start (journal ++ e ∷ []) ≡ true
well_asked_push journal e before may = well_asked-append start journal (e ∷ []) ∙ rw (before, may) refl

-- what comes later acts on what the journal had left
pub replay-append : (es fs : List Entry) → replay (es ++ fs) ≡ replay_from (replay es) fs
replay-append es fs = replay_from-append start es fs
