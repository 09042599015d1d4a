-- What a session did, by how it ended.
use Rattle.std.specs.Prelude.{◌≡◌, ◌≢◌, ℕ, ◌+◌, ◌<◌, ◌≤◌, true, List, [], ◌∷◌, ◌++◌, length, take, None, Ok, Err}
use Rattle.std.specs.Io.KnownBytes.{Appends, Consumes, IsAtEnd}
use Rattle.kernel_model.specs.View.{KernelView}
use Rattle.line_input.specs.Lines.{AreMet, input_limit}
use Rattle.net_control.specs.Moments.{KeepsPolicy, SendsByPolicy}
use Rattle.net_control.specs.Started.{IsStarted}
use Rattle.net_control.specs.declared.controller.StartFault.{StartFault}
use Rattle.net_control.specs.declared.controller.StartFault.TheVariants as fault
use Rattle.net_io.specs.Streams.{SinkView}
use Rattle.policy_state.specs.View.{start}
use Rattle.turn_text.specs.Texts.{start_halted_text, start_refused_text}
use Rattle.netd_session.specs.EndedView.{EndedView}
use Rattle.netd_session.specs.Lines.{IsSaid, Ran}
use Rattle.netd_session.specs.Passes.{EndsInput, StopsWhere}
use Rattle.netd_session.specs.Stops.{End, goes_on}
use Rattle.netd_session.specs.Telling.{IsTaken, Tells}
use Rattle.netd_session.specs.Turns.{Standing}
use Rattle.netd_session.specs.World.{World}
use Rattle.netd_session.specs.declared.end.Stop.TheVariants as stop
use Rattle.netd_session.specs.declared.turn.Turn.{Turn}

-- what is told of a start that failed; where memory ran out nothing was asked, and nothing is told
abbrev pub TellsStart : StartFault → End → (old new : SinkView) → Type 0
TellsStart (fault.Refused request) result old new =
    Tells (start_refused_text request) (Err stop.StartRefused) result old new
TellsStart (fault.Halted request) result old new =
    Tells (start_halted_text request) (Err stop.Halted) result old new
TellsStart (fault.Memory e) result old new = (result ≡ Err stop.Memory) × (new ≡ old)

-- The kernel refused a rule of the start, or a deletion broke while the start was undone; what is said of that, and how
-- the session ends once all of it is said.
pub data FailsToStart (old new : KernelView) (text : List ℕ) (whole : End) : Type 0 where
  start_refused : (request : ℕ) → IsStarted (Err (fault.Refused request)) old new
      → text ≡ start_refused_text request → whole ≡ Err stop.StartRefused
      → FailsToStart old new text whole
  start_halted : (request : ℕ) → IsStarted (Err (fault.Halted request)) old new
      → text ≡ start_halted_text request → whole ≡ Err stop.Halted
      → FailsToStart old new text whole

-- there was no memory to start: nothing was asked, read or told
pub record NotBegun (old new : World) (ended : EndedView) (given : List ℕ)
    (lines : List (List ℕ)) (out : List ℕ) : Type 0 where
  pub no_memory : ended.result ≡ Err stop.Memory
  pub kernel_is : new.kernel ≡ old.kernel
  pub no_turn : ended.turns ≡ []
  pub nothing_read : given ≡ []
  pub nothing_met : lines ≡ []
  pub nothing_told : out ≡ []

-- the start failed; at every moment of it packets went where the first state's policy says
pub record AtStart (old new : World) (ended : EndedView) (given : List ℕ)
    (lines : List (List ℕ)) (out : List ℕ) : Type 0 where
  pub text : List ℕ
  pub whole : End
  pub failed : FailsToStart old.kernel new.kernel text whole
  pub moments : KeepsPolicy old.kernel new.kernel start start
  pub taken : ℕ
  pub told : IsTaken whole ended.result taken (length text) old.sink.faults new.sink.faults
  pub says : out ≡ take taken text
  pub no_turn : ended.turns ≡ []
  pub nothing_read : given ≡ []
  pub nothing_met : lines ≡ []

-- it began with the rules of the first state; at every moment, and after it, packets go where that state's policy says
pub record HasBegun (before : KernelView) (begun : Standing) : Type 0 where
  pub started : IsStarted (Ok begun.controller) before begun.kernel
  pub moments : KeepsPolicy before begun.kernel start start
  pub sends : SendsByPolicy begun.controller begun.kernel
  pub no_socket : begun.sockets ≡ []
  pub no_watch : begun.watch ≡ None

-- it began, these lines were answered in turn, and their answers were told whole; the controller runs
pub record HasRun (old : World) (lines : List (List ℕ)) (stands : Standing) (turns : List Turn)
    (out : List ℕ) : Type 0 where
  pub begun : Standing
  pub began : HasBegun old.kernel begun
  pub ran : Ran begun lines stands turns out
  pub running : stands.controller.halted ≡ None

-- it ended at a line, the first after which it didn't go on; a prefix of what is said of it was told
pub record AtLine (old new : World) (ended : EndedView) (lines : List (List ℕ))
    (out : List ℕ) : Type 0 where
  pub before : List (List ℕ)
  pub text : List ℕ
  pub behind : List (List ℕ)
  pub cut : lines ≡ before ++ text ∷ behind
  pub stood : Standing
  pub turns : List Turn
  pub told_before : List ℕ
  pub run : HasRun old before stood turns told_before
  pub stands : Standing
  pub more : List Turn
  pub last : List ℕ
  pub whole : End
  pub said : IsSaid text (length before + 1) stood stands more last whole
  pub taken : ℕ
  pub told : IsTaken whole ended.result taken (length last) old.sink.faults new.sink.faults
  pub stops : ended.result ≢ goes_on
  pub kernel_is : new.kernel ≡ stands.kernel
  pub turns_are : ended.turns ≡ turns ++ more
  pub says : out ≡ told_before ++ take taken last

-- it ended before a line, for which there was no memory: nothing was asked or told for it
pub record BeforeLine (old new : World) (ended : EndedView) (lines : List (List ℕ))
    (out : List ℕ) : Type 0 where
  pub no_memory : ended.result ≡ Err stop.Memory
  pub before : List (List ℕ)
  pub behind : List (List ℕ)
  pub cut : lines ≡ before ++ behind
  pub stands : Standing
  pub run : HasRun old before stands ended.turns out
  pub kernel_is : new.kernel ≡ stands.kernel

-- it ended with the input, with every line that was met answered
pub record AtInput (old new : World) (ended : EndedView) (given : List ℕ)
    (lines : List (List ℕ)) (out : List ℕ) : Type 0 where
  pub stands : Standing
  pub run : HasRun old lines stands ended.turns out
  pub ends : EndsInput ended.result new.source.ended (length given)
      old.source.faults new.source.faults
  pub kernel_is : new.kernel ≡ stands.kernel

-- where a session ended
pub data HasEnded (old new : World) (ended : EndedView) (given : List ℕ) (lines : List (List ℕ))
    (out : List ℕ) : Type 0 where
  not_begun : NotBegun old new ended given lines out → HasEnded old new ended given lines out
  at_start : AtStart old new ended given lines out → HasEnded old new ended given lines out
  at_line : AtLine old new ended lines out → HasEnded old new ended given lines out
  before_line : BeforeLine old new ended lines out → HasEnded old new ended given lines out
  at_input : AtInput old new ended given lines out → HasEnded old new ended given lines out

-- What a session did: the source gave some bytes, in which some lines were met, and the sink took some text.
pub record IsSession (old new : World) (ended : EndedView) : Type 0 where
  pub given : List ℕ
  pub read : Consumes old.source.left new.source.left given
  pub lines : List (List ℕ)
  pub met : AreMet given new.source.ended lines
  pub none_left : new.source.ended ≡ true → IsAtEnd new.source.left
  pub out : List ℕ
  pub written : Appends old.sink.bytes new.sink.bytes out
  pub ending : HasEnded old new ended given lines out
  pub few : StopsWhere ended.result stop.TooLong
      (length given ≡ input_limit + 1) (length given ≤ input_limit)
  pub read_fault : StopsWhere ended.result stop.ReadFault
      (old.source.faults < new.source.faults) (new.source.faults ≡ old.source.faults)
  pub write_fault : StopsWhere ended.result stop.WriteFault
      (old.sink.faults < new.sink.faults) (new.sink.faults ≡ old.sink.faults)
