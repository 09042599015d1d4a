-- What contracts see of a ledger.
use Rattle.std.specs.Prelude.{◌≡◌, ℕ, false, List, [], Option, Some, None, IsSome, is_some, refl}
use Rattle.std.specs.Option.{option_map}
use Rattle.std.proofs.Common.{arith, sym, ◌∙◌}
use Rattle.std.proofs.lemmas.Bool.{false≢true}
use Rattle.kernel_model.specs.View.{KernelView, Lists, Room, IsSound, IfListed}
use Rattle.kernel_model.specs.declared.request.Entry.{Entry}
use Rattle.kernel_ledger.specs.Kept.{lists_of, IsKept}
use Rattle.kernel_ledger.specs.Tables.{TablesView}
use Rattle.kernel_ledger.specs.declared.ledger.FailLists.{FailLists}
use Rattle.kernel_ledger.specs.declared.ledger.Ledger.{Ledger}

-- a kernel whose ledger this is
abbrev pub seen_by : Ledger → KernelView
seen_by l = record { journal = l.journal.items; lists = option_map lists_of l.lists; watching = [] }

-- for how many entries it has room
abbrev pub spare_of : Ledger → ℕ
spare_of l = l.spare

-- its room, and that of these tables
abbrev pub room_by : Ledger → TablesView → Room
room_by l tables = record { spare = l.spare; ready = tables.ready }

-- an empty journal, and these lists
abbrev pub starting : Option Lists → KernelView
starting lists = record { journal = []; lists = lists; watching = [] }

if_listed : (lists : Option Lists) (journal : List Entry) (a d : ℕ) → IsKept lists journal a d
    → IfListed lists journal
if_listed None journal a d kept = tt
if_listed (Some given) journal a d kept = kept.as_listed given refl

pub sound_by : (l : Ledger) (ready : Option ℕ) → IsSound (seen_by l) (record { spare = l.spare; ready = ready })
sound_by l ready = record {
  fits = omega (arith, l.journal.ok, l.journal.small, l.has_room);
  well_asked = l.kept.well_asked_all;
  listed = if_listed (option_map lists_of l.lists) l.journal.items l.additions l.deletions l.kept;
}

pub some_lists : (lists : Option FailLists) → IsSome lists → IsSome (option_map lists_of lists)
some_lists None h = h
some_lists (Some lists) h = h

-- what is known to keep no lists keeps none
pub no_lists : {A : Type 0} (lists : Option Lists) → is_some lists ≡ false → IsSome lists → A
no_lists lists none some = absurd (false≢true (sym none ∙ some))
