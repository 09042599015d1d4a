-- Why a session ends as it does, status by status, and what stands then.
use Rattle.std.specs.Prelude.{◌≡◌, ◌≢◌, ◌⊎◌, ◌↔◌, ℕ, ◌<◌, ◌≤◌, true, List, length, Err}
use Rattle.std.specs.List.{Contains}
use Rattle.std.specs.Io.KnownBytes.{IsAtEnd}
use Rattle.kernel_model.specs.View.{KernelView}
use Rattle.line_input.specs.Lines.{input_limit}
use Rattle.net_control.specs.Causes.{BrokeNone, BrokeSome}
use Rattle.net_control.specs.Started.{IsStarted}
use Rattle.net_control.specs.declared.controller.StartFault.TheVariants as fault
use Rattle.script_reader.specs.Lines.{Spells}
use Rattle.script_reader.specs.declared.line.Line.{Line}
use Rattle.netd_session.specs.EndedView.{EndedView}
use Rattle.netd_session.specs.Ends.{AtInput, AtLine, AtStart, BeforeLine, IsSession, NotBegun}
use Rattle.netd_session.specs.Stops.{status_of}
use Rattle.netd_session.specs.World.{World}
use Rattle.netd_session.specs.declared.end.Status.{Status}
use Rattle.netd_session.specs.declared.end.Status.TheVariants as status
use Rattle.netd_session.specs.declared.end.Stop.TheVariants as stop

-- the line is in the grammar
abbrev pub InGrammar : List ℕ → Type 0
InGrammar text = (line : Line) × Spells text line

-- one of the lines is not
abbrev pub HasBadLine : List (List ℕ) → Type 0
HasBadLine lines = (text : List ℕ) × Contains lines text × (InGrammar text → ⊥)

-- The kernel refused a rule of the start, and taking back those before it did not break.
abbrev pub RefusedStart : (before after : KernelView) → Type 0
RefusedStart before after = (request : ℕ) × IsStarted (Err (fault.Refused request)) before after

-- The status comes only where this holds, and wherever it holds, unless the sink failed or memory ran out.
pub record ComesWhere (s told : Status) (cause : Type 0) : Type 0 where
  pub only : s ≡ told → cause
  pub there : cause → (s ≡ told)
      ⊎ ((s ≡ status.Stopped stop.WriteFault) ⊎ (s ≡ status.Stopped stop.Memory))

-- what never stood in the way of a session
pub record NothingFailed (old new : World) (given : List ℕ) (lines : List (List ℕ)) : Type 0 where
  pub in_grammar : (text : List ℕ) → Contains lines text → InGrammar text
  pub short : length given ≤ input_limit
  pub no_read_fault : new.source.faults ≡ old.source.faults
  pub no_write_fault : new.sink.faults ≡ old.sink.faults
  pub unbroken : BrokeNone old.kernel new.kernel
  pub started : RefusedStart old.kernel new.kernel → ⊥

-- The causes of each status, where these bytes were given and these lines were met in them. What 6 says is in
-- `StandsThen`: memory itself has no cause.
pub record HasCauses (old new : World) (s : Status) (given : List ℕ)
    (lines : List (List ℕ)) : Type 0 where
  -- 0: only where the input was read to its end; that each line is answered says `StandsThen`
  pub finished : s ≡ status.Finished → (new.source.ended ≡ true) × IsAtEnd new.source.left
  -- 2: never
  pub bad_words : s ≢ status.BadWords
  -- 3: exactly where a line that was met is bad and nothing broke before it
  pub bad_line : ComesWhere s (status.Stopped stop.BadLine)
      (HasBadLine lines × BrokeNone old.kernel new.kernel)
  -- 4: exactly where a read failed
  pub read_fault : (s ≡ status.Stopped stop.ReadFault) ↔ (old.source.faults < new.source.faults)
  -- 5: exactly where a write failed
  pub write_fault : (s ≡ status.Stopped stop.WriteFault) ↔ (old.sink.faults < new.sink.faults)
  -- 7: exactly where a deletion broke
  pub halted : ComesWhere s (status.Stopped stop.Halted) (BrokeSome old.kernel new.kernel)
  -- 8: exactly where the start was refused
  pub start_refused : ComesWhere s (status.Stopped stop.StartRefused)
      (RefusedStart old.kernel new.kernel)
  -- 9: exactly where the input is too long
  pub too_long : (s ≡ status.Stopped stop.TooLong) ↔ (input_limit < length given)
  -- where nothing failed it is 0, or 6
  pub complete : NothingFailed old new given lines
      → (s ≡ status.Finished) ⊎ (s ≡ status.Stopped stop.Memory)

-- what is said of the line or the start with which the session ended was told whole
abbrev pub ToldWhole : (old new : World) → EndedView → (given : List ℕ)
    → (lines : List (List ℕ)) → (out : List ℕ) → Type 0
ToldWhole old new ended given lines out =
    ((at : AtLine old new ended lines out) × (at.taken ≡ length at.last))
    ⊎ ((at : AtStart old new ended given lines out) × (at.taken ≡ length at.text))

-- of that text less than all was taken; all before it was, and a command whose text it is stands
abbrev pub ToldInPart : (old new : World) → EndedView → (given : List ℕ)
    → (lines : List (List ℕ)) → (out : List ℕ) → Type 0
ToldInPart old new ended given lines out =
    ((at : AtLine old new ended lines out) × (at.taken < length at.last))
    ⊎ ((at : AtStart old new ended given lines out) × (at.taken < length at.text))

-- for what comes next there was no memory, so nothing was asked or told for it
abbrev pub LeftUndone : (old new : World) → EndedView → (given : List ℕ)
    → (lines : List (List ℕ)) → (out : List ℕ) → Type 0
LeftUndone old new ended given lines out =
    BeforeLine old new ended lines out ⊎ NotBegun old new ended given lines out

-- What stands then, by the status.
abbrev pub StandsThen : Status → (old new : World) → EndedView → (given : List ℕ)
    → (lines : List (List ℕ)) → (out : List ℕ) → Type 0
-- every line that was met is answered, and nothing else was written
StandsThen status.Finished old new ended given lines out = AtInput old new ended given lines out
StandsThen (status.Stopped stop.ReadFault) old new ended given lines out =
    AtInput old new ended given lines out
StandsThen (status.Stopped stop.TooLong) old new ended given lines out =
    AtInput old new ended given lines out
-- the text of the end was written
StandsThen (status.Stopped stop.BadLine) old new ended given lines out =
    ToldWhole old new ended given lines out
StandsThen (status.Stopped stop.Halted) old new ended given lines out =
    ToldWhole old new ended given lines out
StandsThen (status.Stopped stop.StartRefused) old new ended given lines out =
    ToldWhole old new ended given lines out
-- the sink failed, or ran out of memory, within a text
StandsThen (status.Stopped stop.WriteFault) old new ended given lines out =
    ToldInPart old new ended given lines out
StandsThen (status.Stopped stop.Memory) old new ended given lines out =
    ToldInPart old new ended given lines out ⊎ LeftUndone old new ended given lines out
StandsThen status.BadWords old new ended given lines out = ⊥

-- Whatever bytes and lines an account of the session names, the status has its cause in them, and what stands is by the
-- status.
abbrev pub IsCausedSession : (old new : World) → EndedView → Type 0
IsCausedSession old new ended =
    (s : IsSession old new ended)
    → HasCauses old new (status_of ended.result) s.given s.lines
    × StandsThen (status_of ended.result) old new ended s.given s.lines s.out
