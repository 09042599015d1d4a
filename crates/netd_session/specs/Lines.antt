-- What taking one line does, and what the lines so far did.
use Rattle.std.specs.Prelude.{◌≡◌, ◌⊎◌, ℕ, ◌+◌, List, [], ◌∷◌, ◌++◌, length, Option, None, Some, Result, Ok, Err}
use Rattle.std.specs.declared.alloc.AllocError.{AllocError}
use Rattle.net_control.specs.Moments.{SendsByPolicy}
use Rattle.net_control.specs.View.{ControllerView, IsKept}
use Rattle.net_io.specs.Streams.{SinkView}
use Rattle.script_reader.specs.BadLines.{IsBadAt}
use Rattle.script_reader.specs.Lines.{Spells}
use Rattle.script_reader.specs.declared.line.Line.{Line}
use Rattle.turn_text.specs.Texts.{bad_text, numbered}
use Rattle.netd_session.specs.Answers.{IsAnsweredLine}
use Rattle.netd_session.specs.Stops.{End, goes_on}
use Rattle.netd_session.specs.Telling.{Tells}
use Rattle.netd_session.specs.Turns.{Standing}
use Rattle.netd_session.specs.declared.end.Stop.TheVariants as stop
use Rattle.netd_session.specs.declared.turn.Turn.{Turn}

-- A line of the grammar, with its number, in these turns and this text. After it, unless the controller has halted, the
-- kernel stands for the state and sends every packet where the policy does.
pub record Goes (text : List ℕ) (n : ℕ) (s e : Standing) (turns : List Turn)
    (out : List ℕ) : Type 0 where
  pub line : Line
  pub spelled : Spells text line
  pub answered : IsAnsweredLine line n s e turns out
  pub kept : IsKept e.controller e.kernel
  pub sends : SendsByPolicy e.controller e.kernel

-- The lines so far, each answered in turn by a controller that runs.
pub data Ran (begun : Standing) : List (List ℕ) → Standing → List Turn → List ℕ → Type 0 where
  no_line : Ran begun [] begun [] []
  one_more : (texts : List (List ℕ)) (m : Standing) (turns : List Turn) (out : List ℕ)
      → Ran begun texts m turns out → m.controller.halted ≡ None
      → (text : List ℕ) (e : Standing) (more : List Turn) (more_out : List ℕ)
      → Goes text (length texts + 1) m e more more_out
      → Ran begun (texts ++ text ∷ []) e (turns ++ more) (out ++ more_out)

-- the text is none of the grammar, from this column on; nothing changes
pub record IsBad (text : List ℕ) (n : ℕ) (s e : Standing) (turns : List Turn)
    (out : List ℕ) : Type 0 where
  pub column : ℕ
  pub place : IsBadAt text column
  pub no_line : (line : Line) → Spells text line → ⊥
  pub stays : e ≡ s
  pub no_turn : turns ≡ []
  pub says : out ≡ numbered n (bad_text column)

-- a controller that has halted ends the session, once that is said
abbrev pub halt : Option ℕ → End
halt None = goes_on
halt (Some request) = Err stop.Halted

abbrev pub halt_of : ControllerView → End
halt_of controller = halt controller.halted

-- what is said of a line, and how the session goes on or ends once all of it is said
pub data IsSaid (text : List ℕ) (n : ℕ) (s e : Standing) (turns : List Turn) (out : List ℕ)
    (whole : End) : Type 0 where
  says_bad : IsBad text n s e turns out → whole ≡ Err stop.BadLine
      → IsSaid text n s e turns out whole
  says_answer : Goes text n s e turns out → whole ≡ halt_of e.controller
      → IsSaid text n s e turns out whole

-- what is said of a line was told
pub record TellsLine (result : End) (text : List ℕ) (n : ℕ) (s e : Standing)
    (turns after : List Turn) (old new : SinkView) : Type 0 where
  pub more : List Turn
  pub turns_grew : after ≡ turns ++ more
  pub out : List ℕ
  pub whole : End
  pub said : IsSaid text n s e more out whole
  pub told : Tells out whole result old new

-- memory ran out before anything was asked or told
pub record LeavesLine (result : End) (s e : Standing) (turns after : List Turn)
    (old new : SinkView) : Type 0 where
  pub no_memory : result ≡ Err stop.Memory
  pub stays : e ≡ s
  pub no_turn : after ≡ turns
  pub untold : new ≡ old

-- what taking a line does
abbrev pub Takes : End → List ℕ → ℕ → (s e : Standing) → (turns after : List Turn)
    → (old new : SinkView) → Type 0
Takes result text n s e turns after old new =
    TellsLine result text n s e turns after old new ⊎ LeavesLine result s e turns after old new

-- a line is answered, or memory ran out and nothing has changed
abbrev pub Answers : Result (Unit {0}) AllocError → Line → ℕ → (s e : Standing)
    → (turns after : List Turn) → List ℕ → Type 0
Answers (Ok u) line n s e turns after out =
    (more : List Turn) × (after ≡ turns ++ more) × IsAnsweredLine line n s e more out
Answers (Err f) line n s e turns after out = (e ≡ s) × (after ≡ turns)
