-- The journal of a kernel, and the kernel that it leaves.
use Rattle.std.specs.Prelude.{◌≡◌, ℕ, ◌+◌, Bool, true, false, not, ◌&&◌, ◌==◌, List, [], ◌∷◌, Some, slice_get, filter}
use Rattle.std.specs.List.{list_any}
use Rattle.kernel_model.specs.State.{KernelState, add, delete, is_absent, is_present, start}
use Rattle.kernel_model.specs.declared.request.Request.{Request}
use Rattle.kernel_model.specs.declared.request.EntryKind.{EntryKind}
use Rattle.kernel_model.specs.declared.request.EntryKind.TheVariants.{Added, Deleted, Refused, Broken}
use Rattle.kernel_model.specs.declared.request.Entry.{Entry}

abbrev pub entry : EntryKind → Request → Entry
entry kind request = record { kind = kind; request = request }

-- what was refused and what broke changes nothing
abbrev pub act : KernelState → EntryKind → Request → KernelState
act k Added request = add k request
act k Deleted request = delete k request
act k Refused request = k
act k Broken request = k

-- each entry acts in order
abbrev pub replay_from : KernelState → List Entry → KernelState
replay_from k [] = k
replay_from k (e ∷ es) = replay_from (act k e.kind e.request) es

abbrev pub replay : List Entry → KernelState
replay journal = replay_from start journal

-- what was added was absent just before, and what was deleted was present
abbrev pub may_stand : KernelState → EntryKind → Request → Bool
may_stand k Added request = is_absent k request
may_stand k Deleted request = is_present k request
may_stand k Refused request = true
may_stand k Broken request = true

-- the same of each entry in turn
abbrev pub well_asked : KernelState → List Entry → Bool
well_asked k [] = true
well_asked k (e ∷ es) = may_stand k e.kind e.request && well_asked (act k e.kind e.request) es

-- an addition was asked for, and not a deletion
abbrev pub asks_addition : EntryKind → Bool
asks_addition Added = true
asks_addition Refused = true
asks_addition Deleted = false
asks_addition Broken = false

abbrev pub fails : EntryKind → Bool
fails Added = false
fails Refused = true
fails Deleted = false
fails Broken = true

abbrev pub is_addition : Entry → Bool
is_addition e = asks_addition e.kind

abbrev pub is_deletion : Entry → Bool
is_deletion e = not (asks_addition e.kind)

abbrev pub has_failed : Entry → Bool
has_failed e = fails e.kind

abbrev pub is_refused : Entry → Bool
is_refused e = is_addition e && has_failed e

abbrev pub is_broken : Entry → Bool
is_broken e = is_deletion e && has_failed e

abbrev pub is_listed : List ℕ → ℕ → Bool
is_listed numbers n = list_any (λ m. m == n) numbers

-- the k-th of the entries, counted from 1, has failed exactly where k is in the list
abbrev pub FailWhere : List ℕ → List Entry → Type 0
FailWhere numbers es = (k : ℕ) (e : Entry) → slice_get es k ≡ Some e → has_failed e ≡ is_listed numbers (k + 1)

-- The k-th addition that was asked for is refused exactly where k is in the first list, and the k-th deletion breaks exactly where k is in the second.
pub record Listed (refuse breaks : List ℕ) (journal : List Entry) : Type 0 where
  pub refusals : FailWhere refuse (filter is_addition journal)
  pub broken : FailWhere breaks (filter is_deletion journal)
