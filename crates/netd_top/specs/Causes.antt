-- Why the program ends as it does, exit status by exit status.
use Rattle.std.specs.Prelude.{◌≡◌, ◌⊎◌, ◌↔◌, ℕ, ◌<◌, List}
use Rattle.command_words.specs.Forms.{FormView, IsForm, run, soak, wordless}
use Rattle.command_words.specs.declared.form.Wordless.TheVariants.{Check}
use Rattle.net_control.specs.Causes.{BrokeSome}
use Rattle.netd_session.specs.Causes.{ComesWhere, HasCauses, StandsThen}
use Rattle.netd_session.specs.Checks.{IsCheck, IsWrittenThen}
use Rattle.netd_session.specs.EndedView.{EndedView}
use Rattle.netd_session.specs.Ends.{IsSession}
use Rattle.netd_session.specs.Stops.{End}
use Rattle.netd_session.specs.World.{World, streams_of}
use Rattle.netd_session.specs.declared.end.Status.{Status}
use Rattle.netd_session.specs.declared.end.Status.TheVariants as status
use Rattle.netd_session.specs.declared.end.Stop.TheVariants as stop
use Rattle.netd_top.specs.Run.{with_lists}

-- the words are none of the forms
abbrev pub HaveNoForm : List (List ℕ) → Type 0
HaveNoForm words = (form : FormView) → IsForm words form → ⊥

-- A session was run on the armed kernel; its status has its cause, and what stands is by the status.
abbrev pub RanSession : (old new : World) → Status → Type 0
RanSession old new s =
    (ended : EndedView) × (did : IsSession old new ended)
    × HasCauses old new s did.given did.lines
    × StandsThen s old new ended did.given did.lines did.out

-- A check was made; its status has its cause, and what is written is by the status.
abbrev pub RanCheck : (old new : World) → Status → Type 0
RanCheck old new s =
    (result : End) × (did : IsCheck (streams_of old) (streams_of new) result)
    × HasCauses old new s did.given did.lines
    × IsWrittenThen s (streams_of old) (streams_of new) result did.lines did.out

-- `soak` ends well, or the sink failed, or it answers 6: memory ran out, or its session didn't reach the end of the made script.
-- That a made script has no bad line, so that the latter never happens, is not proved.
abbrev pub EndsSoak : Status → Type 0
EndsSoak s = (s ≡ status.Finished) ⊎ ((s ≡ status.Stopped stop.WriteFault) ⊎ (s ≡ status.Stopped stop.Memory))

-- The causes of each exit status. Running out of memory has none.
pub record HasRunCauses (words : List (List ℕ)) (old new : World) (s : Status) : Type 0 where
  -- 2: exactly where the words have no form
  pub bad_words : ComesWhere s status.BadWords (HaveNoForm words)
  -- 4: exactly where a read failed
  pub read_fault : (s ≡ status.Stopped stop.ReadFault) ↔ (old.source.faults < new.source.faults)
  -- 5: exactly where a write failed
  pub write_fault : (s ≡ status.Stopped stop.WriteFault) ↔ (old.sink.faults < new.sink.faults)
  -- 7: exactly where a deletion broke
  pub halted : ComesWhere s (status.Stopped stop.Halted) (BrokeSome old.kernel new.kernel)
  -- 0, 3, 6, 8, 9 and completeness: as in the session that was run, unless memory ran out before it
  pub session : (refuse breaks : List ℕ) → IsForm words (run refuse breaks)
      → RanSession (with_lists old refuse breaks) new s
      ⊎ ((s ≡ status.Stopped stop.Memory) × (new ≡ old))
  -- the same of a check, whose kernel was asked nothing
  pub check : IsForm words (wordless Check)
      → RanCheck old new s ⊎ ((s ≡ status.Stopped stop.Memory) × (new ≡ old))
  -- `soak` reads nothing of its source, and never ends with 3, 4, 7, 8 or 9
  pub soak : (seed count : ℕ) → IsForm words (soak seed count) → EndsSoak s × (new.source ≡ old.source)
