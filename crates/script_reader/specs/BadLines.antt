-- Where a line that no text spells goes wrong.
use Rattle.std.specs.Prelude.{◌≡◌, ℕ, ◌+◌, ◌<◌, ◌≤◌, ◌⊎◌, true, false, List, [], ◌∷◌, ◌++◌, length}
use Rattle.std.specs.List.{list_all}
use Rattle.script_reader.specs.declared.fault.LineFault.{LineFault}
use Rattle.script_reader.specs.declared.fault.LineFault.TheVariants.{Bad, Memory}
use Rattle.script_reader.specs.declared.line.Line.{Line}
use Rattle.script_reader.specs.Lines.{IsText, Says, is_printable, line_limit}
use Rattle.script_reader.specs.Words.{Word, texts, words_of}

-- the line is too long: the first byte past the most that it may have
abbrev pub IsTooLong : List ℕ → ℕ → Type 0
IsTooLong text column = (line_limit < length text) × (column ≡ line_limit + 1)

-- the first byte that isn't printable
pub record HasBadByte (text : List ℕ) (column : ℕ) : Type 0 where
  pub short : length text ≤ line_limit
  pub before : List ℕ
  pub byte : ℕ
  pub behind : List ℕ
  pub cut : text ≡ before ++ byte ∷ behind
  pub printable : list_all is_printable before ≡ true
  pub bad : is_printable byte ≡ false
  pub place : column ≡ length before + 1

-- some line's words begin so; `IsLine` says which words are a line
abbrev pub Begins : (List (List ℕ) → Type 0) → List (List ℕ) → Type 0
Begins IsLine words = (others : List (List ℕ)) × IsLine (words ++ others)

-- a word that can't continue: the words before it begin some line's words, and together with it they don't
pub record HasBadWord (IsLine : List (List ℕ) → Type 0) (text : List ℕ) (column : ℕ) : Type 0 where
  pub is_text : IsText text
  pub before : List Word
  pub word : Word
  pub behind : List Word
  pub cut : words_of text ≡ before ++ word ∷ behind
  pub begins : Begins IsLine (texts before)
  pub ends : Begins IsLine (texts (before ++ word ∷ [])) → ⊥
  pub place : column ≡ word.column

-- the words begin some line's words, and are no line's: something is missing after the end
pub record IsUnfinished (IsLine : List (List ℕ) → Type 0) (text : List ℕ) (column : ℕ) : Type 0 where
  pub is_text : IsText text
  pub begins : Begins IsLine (texts (words_of text))
  pub no_line : IsLine (texts (words_of text)) → ⊥
  pub place : column ≡ length text + 1

-- where a text goes wrong, for any language
abbrev pub GoesWrong : (List (List ℕ) → Type 0) → List ℕ → ℕ → Type 0
GoesWrong IsLine text column =
    IsTooLong text column ⊎ (HasBadByte text column ⊎ (HasBadWord IsLine text column ⊎ IsUnfinished IsLine text column))

-- the words of a line of a script
abbrev pub IsLine : List (List ℕ) → Type 0
IsLine words = (line : Line) × Says line words

-- the column of a bad line
abbrev pub IsBadAt : List ℕ → ℕ → Type 0
IsBadAt text column = GoesWrong IsLine text column

-- a fact of the column of a bad line
abbrev pub IfBad : (ℕ → Type 0) → LineFault → Type 0
IfBad Fact (Bad column) = Fact column
IfBad Fact (Memory fault) = Unit {0}

-- a fact where memory ran out
abbrev pub IfMemory : Type 0 → LineFault → Type 0
IfMemory Fact (Bad column) = Unit {0}
IfMemory Fact (Memory fault) = Fact
