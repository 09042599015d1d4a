-- What reading one piece, and taking one byte, does to an input.
use Rattle.std.specs.Prelude.{false, ◌≡◌, ℕ, ◌+◌, ◌<◌, ◌≤◌, ◌==◌, true, List, [], ◌∷◌, ◌++◌, length, Option, Some, None, Result, Ok, Err}
use Rattle.std.specs.Io.KnownBytes.{Consumes}
use Rattle.line_input.specs.Lines.{IsOneLine, input_limit}
use Rattle.net_io.specs.Streams.{SourceView}
use Rattle.line_input.specs.Looks.{NoneLeft, held, line_of}
use Rattle.line_input.specs.declared.input.Input.{Input}
use Rattle.line_input.specs.declared.input.InputFault.{InputFault}
use Rattle.line_input.specs.declared.input.InputFault.TheVariants.{Read, TooLong}

-- what became of the bytes of a piece, by the answer
abbrev pub Filled : Result ℕ InputFault → (more behind : List ℕ) (count : ℕ) (old new : SourceView)
    → Type 0
Filled (Ok n) more behind count old new =
    (behind ≡ more) × (length more ≡ n) × (count ≤ input_limit) × (new.faults ≡ old.faults)
    × (new.ended ≡ (n == 0))
Filled (Err Read) more behind count old new = (behind ≡ []) × (more ≡ []) × (count ≤ input_limit)
    × (old.faults < new.faults) × (new.ended ≡ false)
Filled (Err TooLong) more behind count old new =
    (behind ≡ more) × (length more ≡ 1) × (count ≡ input_limit + 1) × (new.faults ≡ old.faults)
    × (new.ended ≡ false)

-- a piece was asked for, with no byte held
pub record Fills (old new : Input) (before after : SourceView)
    (result : Result ℕ InputFault) : Type 0 where
  pub more : List ℕ
  pub taken : Consumes before.left after.left more
  pub counted : new.given ≡ old.given + length more
  pub line_kept : line_of new ≡ line_of old
  pub length_kept : new.length ≡ old.length
  pub finished : new.finished ≡ after.ended
  pub none_left : NoneLeft after
  pub filled : Filled result more (held new) new.given before after

-- what became of the bytes when one was asked for, by the answer
abbrev pub Taken : Result (Option ℕ) InputFault
    → (bytes behind : List ℕ) (count : ℕ) (old new : SourceView) → Type 0
Taken (Ok (Some byte)) bytes behind count old new = (bytes ≡ byte ∷ behind) × (count ≤ input_limit)
    × (new.faults ≡ old.faults)
Taken (Ok None) bytes behind count old new =
    (bytes ≡ []) × (behind ≡ []) × (count ≤ input_limit) × (new.faults ≡ old.faults)
    × (new.ended ≡ true)
Taken (Err Read) bytes behind count old new = (bytes ≡ []) × (behind ≡ []) × (count ≤ input_limit)
    × (old.faults < new.faults) × (new.ended ≡ false)
Taken (Err TooLong) bytes behind count old new =
    (bytes ≡ behind) × (length behind ≡ 1) × (count ≡ input_limit + 1) × (new.faults ≡ old.faults)
    × (new.ended ≡ false)

-- one byte was asked for
pub record Takes (old new : Input) (before after : SourceView)
    (result : Result (Option ℕ) InputFault) : Type 0 where
  pub more : List ℕ
  pub taken : Consumes before.left after.left more
  pub counted : new.given ≡ old.given + length more
  pub line_kept : line_of new ≡ line_of old
  pub length_kept : new.length ≡ old.length
  pub finished : new.finished ≡ after.ended
  pub none_left : NoneLeft after
  pub byte : Taken result (held old ++ more) (held new) new.given before after

-- how far looking for a line has come, from the bytes that were held at its start
pub record Looking (start : List ℕ) (count : ℕ) (new : Input)
    (before after : SourceView) : Type 0 where
  pub more : List ℕ
  pub taken : Consumes before.left after.left more
  pub counted : new.given ≡ count + length more
  pub bytes : start ++ more ≡ line_of new ++ held new
  pub one_line : IsOneLine (line_of new)
  pub length_is : length (line_of new) ≡ new.length
  pub within : new.given ≤ input_limit
  pub no_fault : after.faults ≡ before.faults
  pub finished : new.finished ≡ after.ended
  pub none_left : NoneLeft after
