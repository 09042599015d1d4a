-- What a ledger keeps true.
use Rattle.std.specs.Prelude.{◌≡◌, ℕ, ◌+◌, Bool, true, false, List, length, filter, Option, Some, None}
use Rattle.kernel_model.specs.State.{start}
use Rattle.kernel_model.specs.Journal.{well_asked, is_addition, is_deletion, is_listed, Listed}
use Rattle.kernel_model.specs.View.{Lists}
use Rattle.kernel_model.specs.declared.request.Entry.{Entry}
use Rattle.kernel_ledger.specs.declared.ledger.FailLists.{FailLists}

abbrev pub lists_of : FailLists → Lists
lists_of l = record { refuse = l.refuse.items; breaks = l.breaks.items }

-- the counts are those of the entries, each request could be asked, and where there are lists it failed by them
pub record IsKept (lists : Option Lists) (journal : List Entry) (additions deletions : ℕ) : Type 0 where
  pub additions_are : additions ≡ length (filter is_addition journal)
  pub deletions_are : deletions ≡ length (filter is_deletion journal)
  pub well_asked_all : well_asked start journal ≡ true
  pub as_listed : (given : Lists) → lists ≡ Some given → Listed given.refuse given.breaks journal

-- the lists say that the next addition, or the next deletion, fails
abbrev pub fails_next : Option Lists → List Entry → Bool → Bool
fails_next None journal addition = false
fails_next (Some lists) journal true = is_listed lists.refuse (length (filter is_addition journal) + 1)
fails_next (Some lists) journal false = is_listed lists.breaks (length (filter is_deletion journal) + 1)
