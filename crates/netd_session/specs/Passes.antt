-- Going over the lines of a source one by one and telling what is said of each: what a session and a check have in common.
use Rattle.std.specs.Prelude.{◌≡◌, ◌≢◌, ◌⊎◌, ℕ, ◌+◌, ◌<◌, ◌≤◌, Bool, true, List, [], ◌∷◌, ◌++◌, length, take, Err}
use Rattle.std.specs.Io.KnownBytes.{Appends, Consumes, IsAtEnd}
use Rattle.line_input.specs.Lines.{AreMet, input_limit}
use Rattle.net_io.specs.Streams.{SinkView}
use Rattle.netd_session.specs.Stops.{End, goes_on}
use Rattle.netd_session.specs.Telling.{IsTaken, Tells}
use Rattle.netd_session.specs.World.{Streams}
use Rattle.netd_session.specs.declared.end.Stop.{Stop}
use Rattle.netd_session.specs.declared.end.Stop.TheVariants as stop

-- Where one stands between two lines; and what is said of a line with its number, and how it goes on or ends once all of
-- that is told.
pub record Pass : Type 1 where
  pub Stand : Type 0
  pub Says : (text : List ℕ) (n : ℕ) (s e : Stand) (out : List ℕ) (whole : End) → Type 0

-- the lines so far, and what was said of them in turn; after each it went on
pub data Passed (p : Pass) (begun : p.Stand) : List (List ℕ) → p.Stand → List ℕ → Type 0 where
  passed_none : Passed p begun [] begun []
  passed_more : (texts : List (List ℕ)) (m : p.Stand) (out : List ℕ) → Passed p begun texts m out
      → (text : List ℕ) (e : p.Stand) (more : List ℕ)
      → p.Says text (length texts + 1) m e more goes_on
      → Passed p begun (texts ++ text ∷ []) e (out ++ more)

-- what is said of a line was told
pub record TellsOf (p : Pass) (result : End) (text : List ℕ) (n : ℕ) (s e : p.Stand)
    (old new : SinkView) : Type 0 where
  pub out : List ℕ
  pub whole : End
  pub said : p.Says text n s e out whole
  pub told : Tells out whole result old new

-- memory ran out before anything was done or told
pub record Leaves (p : Pass) (result : End) (s e : p.Stand) (old new : SinkView) : Type 0 where
  pub no_memory : result ≡ Err stop.Memory
  pub stays : e ≡ s
  pub untold : new ≡ old

-- what taking a line does
abbrev pub TakesOne : (p : Pass) → End → List ℕ → ℕ → (s e : p.Stand) → (old new : SinkView) → Type 0
TakesOne p result text n s e old new = TellsOf p result text n s e old new ⊎ Leaves p result s e old new

-- it ended at a line, the first after which it didn't go on; a prefix of what is said of it was told
pub record PassAtLine (p : Pass) (begun last : p.Stand) (result : End) (lines : List (List ℕ))
    (out : List ℕ) (old new : ℕ) : Type 0 where
  pub before : List (List ℕ)
  pub text : List ℕ
  pub behind : List (List ℕ)
  pub cut : lines ≡ before ++ text ∷ behind
  pub stood : p.Stand
  pub told_before : List ℕ
  pub passed : Passed p begun before stood told_before
  pub final : List ℕ
  pub whole : End
  pub said : p.Says text (length before + 1) stood last final whole
  pub taken : ℕ
  pub told : IsTaken whole result taken (length final) old new
  pub stops : result ≢ goes_on
  pub says : out ≡ told_before ++ take taken final

-- it ended before a line, for which there was no memory
pub record PassBeforeLine (p : Pass) (begun last : p.Stand) (result : End) (lines : List (List ℕ))
    (out : List ℕ) : Type 0 where
  pub no_memory : result ≡ Err stop.Memory
  pub before : List (List ℕ)
  pub behind : List (List ℕ)
  pub cut : lines ≡ before ++ behind
  pub passed : Passed p begun before last out

-- what ended the input: it was read to its end, a read failed, or there was a byte more than an input may have
pub data EndsInput (result : End) (ended : Bool) (count : ℕ) (old new : ℕ) : Type 0 where
  read_whole : result ≡ goes_on → ended ≡ true → count ≤ input_limit → new ≡ old
      → EndsInput result ended count old new
  read_failed : result ≡ Err stop.ReadFault → count ≤ input_limit → old < new
      → EndsInput result ended count old new
  too_long : result ≡ Err stop.TooLong → count ≡ input_limit + 1 → new ≡ old
      → EndsInput result ended count old new

-- where it ended: at a line, before a line, or with the input, of which every line that was met is told
pub data PassEnds (p : Pass) (begun last : p.Stand) (result : End) (old new : Streams) (given : List ℕ)
    (lines : List (List ℕ)) (out : List ℕ) : Type 0 where
  at_one : PassAtLine p begun last result lines out old.sink.faults new.sink.faults
      → PassEnds p begun last result old new given lines out
  before_one : PassBeforeLine p begun last result lines out
      → PassEnds p begun last result old new given lines out
  with_input : Passed p begun lines last out
      → EndsInput result new.source.ended (length given) old.source.faults new.source.faults
      → PassEnds p begun last result old new given lines out

-- it stopped so, and the one holds; or it didn't, and the other holds
abbrev pub StopsWhere : End → Stop → (there other : Type 0) → Type 0
StopsWhere result s there other = ((result ≡ Err s) × there) ⊎ ((result ≢ Err s) × other)

-- The source gave some bytes, in which some lines were met, and the sink took some text.
pub record IsPass (p : Pass) (begun last : p.Stand) (result : End) (old new : Streams) : Type 0 where
  pub given : List ℕ
  pub read : Consumes old.source.left new.source.left given
  pub lines : List (List ℕ)
  pub met : AreMet given new.source.ended lines
  pub none_left : new.source.ended ≡ true → IsAtEnd new.source.left
  pub out : List ℕ
  pub written : Appends old.sink.bytes new.sink.bytes out
  pub ending : PassEnds p begun last result old new given lines out
  pub few : StopsWhere result stop.TooLong
      (length given ≡ input_limit + 1) (length given ≤ input_limit)
  pub read_fault : StopsWhere result stop.ReadFault
      (old.source.faults < new.source.faults) (new.source.faults ≡ old.source.faults)
  pub write_fault : StopsWhere result stop.WriteFault
      (old.sink.faults < new.sink.faults) (new.sink.faults ≡ old.sink.faults)
