-- What a check does: it prints the canonical lines of a source, up to a bad one.
use Rattle.std.specs.Prelude.{◌≡◌, ◌⊎◌, ℕ, ◌<◌, List, length, Err}
use Rattle.kernel_model.specs.View.{KernelView}
use Rattle.script_reader.specs.BadLines.{IsBadAt}
use Rattle.script_reader.specs.Canonical.{printed}
use Rattle.script_reader.specs.Lines.{Spells}
use Rattle.script_reader.specs.declared.line.Line.{Line}
use Rattle.turn_text.specs.Texts.{bad_text, numbered}
use Rattle.netd_session.specs.Causes.{HasCauses}
use Rattle.netd_session.specs.Passes.{IsPass, Pass, PassAtLine, PassBeforeLine, Passed}
use Rattle.netd_session.specs.Stops.{End, goes_on, status_of}
use Rattle.netd_session.specs.World.{Streams, world}
use Rattle.netd_session.specs.declared.end.Status.{Status}
use Rattle.netd_session.specs.declared.end.Status.TheVariants as status
use Rattle.netd_session.specs.declared.end.Stop.TheVariants as stop

-- what is printed of a line: its canonical text; or, with its number, in which column it goes wrong, and that is the end
pub data Prints (text : List ℕ) (n : ℕ) (out : List ℕ) (whole : End) : Type 0 where
  prints_line : (line : Line) → Spells text line → out ≡ printed line → whole ≡ goes_on
      → Prints text n out whole
  prints_bad : (column : ℕ) → IsBadAt text column → ((line : Line) → Spells text line → ⊥)
      → out ≡ numbered n (bad_text column) → whole ≡ Err stop.BadLine → Prints text n out whole

-- nothing is kept from line to line
abbrev pub printing : Pass
printing = record { Stand = Unit {0}; Says = λ text n s e out whole. Prints text n out whole }

-- what a check did: it went over the lines and printed each
abbrev pub IsCheck : (old new : Streams) → End → Type 0
IsCheck old new result = IsPass printing tt tt result old new

-- the last text was written whole, or less than all of it
abbrev pub PrintedWhole : (old new : Streams) → End → List (List ℕ) → List ℕ → Type 0
PrintedWhole old new result lines out =
    (at : PassAtLine printing tt tt result lines out old.sink.faults new.sink.faults)
    × (at.taken ≡ length at.final)

abbrev pub PrintedInPart : (old new : Streams) → End → List (List ℕ) → List ℕ → Type 0
PrintedInPart old new result lines out =
    (at : PassAtLine printing tt tt result lines out old.sink.faults new.sink.faults)
    × (at.taken < length at.final)

-- What is written then, by the status: after 0, 4 and 9 the canonical text of every line that was met, in order; after 3
-- that of the lines before a bad one, and its text; after 5 and 6 a prefix of these.
abbrev pub IsWrittenThen : Status → (old new : Streams) → End → List (List ℕ) → List ℕ → Type 0
IsWrittenThen status.Finished old new result lines out = Passed printing tt lines tt out
IsWrittenThen (status.Stopped stop.ReadFault) old new result lines out = Passed printing tt lines tt out
IsWrittenThen (status.Stopped stop.TooLong) old new result lines out = Passed printing tt lines tt out
IsWrittenThen (status.Stopped stop.BadLine) old new result lines out = PrintedWhole old new result lines out
IsWrittenThen (status.Stopped stop.WriteFault) old new result lines out = PrintedInPart old new result lines out
IsWrittenThen (status.Stopped stop.Memory) old new result lines out =
    PrintedInPart old new result lines out ⊎ PassBeforeLine printing tt tt result lines out
IsWrittenThen _ old new result lines out = ⊥

-- Whatever bytes and lines an account of the check names, the status has its cause in them, and what is written is by
-- the status; whatever kernel there is, nothing is asked of it.
abbrev pub IsCausedCheck : (old new : Streams) → End → Type 0
IsCausedCheck old new result =
    (kernel : KernelView) (c : IsCheck old new result)
    → HasCauses (world old.source old.sink kernel) (world new.source new.sink kernel) (status_of result) c.given c.lines
    × IsWrittenThen (status_of result) old new result c.lines c.out
