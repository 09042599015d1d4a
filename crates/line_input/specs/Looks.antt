-- What looking for the next line does.
use Rattle.std.specs.Prelude.{◌≡◌, ◌⊎◌, ℕ, ◌+◌, ◌<◌, ◌≤◌, Bool, true, false, List, [], ◌++◌, take, drop, length, Result, Ok, Err}
use Rattle.std.specs.Io.KnownBytes.{Consumes, IsAtEnd}
use Rattle.net_io.specs.Streams.{SourceView}
use Rattle.line_input.specs.Lines.{IsOneLine, fed, line_limit, input_limit}
use Rattle.line_input.specs.declared.input.Input.{Input}
use Rattle.line_input.specs.declared.input.Met.{Met}
use Rattle.line_input.specs.declared.input.Met.TheVariants.{Line, End}
use Rattle.line_input.specs.declared.input.InputFault.{InputFault}
use Rattle.line_input.specs.declared.input.InputFault.TheVariants.{Read, TooLong}

-- the bytes that the source gave and no line has yet
abbrev pub held : Input → List ℕ
held input = drop input.at (take input.filled input.piece)

-- the line that was looked for, as far as it came
abbrev pub line_of : Input → List ℕ
line_of input = take input.length input.line

-- where the source has ended, it has no byte left
abbrev pub NoneLeft : SourceView → Type 0
NoneLeft outside = outside.ended ≡ true → IsAtEnd outside.left

-- the bytes by which a line was met: it with its line feed, one byte more than a line may have, or the last bytes of the input
abbrev pub IsMetBy : Bool → List ℕ → List ℕ → List ℕ → Type 0
IsMetBy ended line bytes behind =
    ((bytes ≡ fed line) × (length line ≤ line_limit))
    ⊎ (((bytes ≡ line) × (line_limit < length line))
    ⊎ ((bytes ≡ line) × (0 < length line) × (length line ≤ line_limit) × (behind ≡ [])
    × (ended ≡ true)))

-- what became of the bytes, by the answer
abbrev pub Found : Result Met InputFault
    → (line bytes behind : List ℕ) (count : ℕ) (old new : SourceView) → Type 0
Found (Ok Line) line bytes behind count old new =
    ((front : List ℕ) × (bytes ≡ front ++ behind) × IsMetBy new.ended line front behind)
    × (count ≤ input_limit) × (new.faults ≡ old.faults)
Found (Ok End) line bytes behind count old new =
    (bytes ≡ []) × (line ≡ []) × (behind ≡ []) × (count ≤ input_limit) × (new.faults ≡ old.faults)
    × (new.ended ≡ true)
Found (Err Read) line bytes behind count old new =
    (bytes ≡ line) × (length line ≤ line_limit) × (behind ≡ []) × (count ≤ input_limit)
    × (old.faults < new.faults) × (new.ended ≡ false)
Found (Err TooLong) line bytes behind count old new =
    (bytes ≡ line ++ behind) × (length line ≤ line_limit) × (length behind ≡ 1)
    × (count ≡ input_limit + 1) × (new.faults ≡ old.faults) × (new.ended ≡ false)

-- After the bytes that were held, of so many that were given, the source gave some more. Together they are the line,
-- and what is held now.
pub record Looks (bytes : List ℕ) (count : ℕ) (new : Input) (before after : SourceView)
    (result : Result Met InputFault) : Type 0 where
  pub more : List ℕ
  pub taken : Consumes before.left after.left more
  pub counted : new.given ≡ count + length more
  pub one_line : IsOneLine (line_of new)
  pub finished : new.finished ≡ after.ended
  pub none_left : NoneLeft after
  pub found : Found result (line_of new) (bytes ++ more) (held new) new.given before after
