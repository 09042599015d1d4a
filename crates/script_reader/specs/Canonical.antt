-- The one text that is written for a line.
use Rattle.std.specs.Prelude.{◌≡◌, ℕ, ◌≤◌, ◌⊎◌, List, [], ◌∷◌, ◌++◌, length}
use Rattle.std.proofs.Common.{inl, inr}
use Rattle.std.specs.List.{join_with_byte}
use Rattle.uid_ranges.specs.declared.range.UidRange.{UidRange}
use Rattle.word_text.specs.Grammar.{Kind, Values}
use Rattle.word_text.specs.Kinds.{kind_of}
use Rattle.word_text.specs.Slots.{slot}
use Rattle.word_text.specs.Texts.{IsWithin, line_feed, value_text}
use Rattle.word_text.specs.declared.kind.Kind.{Kind as Coded}
use Rattle.word_text.specs.declared.values.Values.{Values as Slots}
use Rattle.script_reader.specs.declared.line.Line.{Line}
use Rattle.script_reader.specs.declared.line.Line.TheVariants as line
use Rattle.script_reader.specs.Lines.{line_limit}
use Rattle.script_reader.specs.Parts.{Parts, parts_of}
use Rattle.script_reader.specs.Rows.{kinds_of}
use Rattle.script_reader.specs.Words.{space}

abbrev pub values_text : (kinds : List Kind) → Values kinds → List (List ℕ)
values_text [] values = []
values_text (kind ∷ kinds) values = value_text kind values.0 ∷ values_text kinds values.1

-- the words with one space between each two
abbrev pub line_text : (kinds : List Kind) → Values kinds → List ℕ
line_text kinds values = join_with_byte space (values_text kinds values)

-- the same of the values by name, as the code writes them
abbrev pub words_text : List Coded → Slots → List UidRange → List ℕ
words_text [] v list = []
words_text (kind ∷ []) v list = value_text (kind_of kind) (slot (kind_of kind) v list)
words_text (kind ∷ next ∷ more) v list = value_text (kind_of kind) (slot (kind_of kind) v list) ++ space ∷ words_text (next ∷ more) v list

abbrev pub AreWithin : (kinds : List Kind) → Values kinds → Type 0
AreWithin [] values = Unit {0}
AreWithin (kind ∷ kinds) values = IsWithin kind values.0 × AreWithin kinds values.1

abbrev pub text_of : {l : Line} → (l ≡ line.Blank) ⊎ Parts l → List ℕ
text_of (inl blank) = []
text_of (inr parts) = line_text (kinds_of parts.form) parts.values

-- nothing for a line that says nothing
abbrev pub canonical : Line → List ℕ
canonical l = text_of (parts_of l)

abbrev pub IsWithinLine : {l : Line} → (l ≡ line.Blank) ⊎ Parts l → Type 0
IsWithinLine (inl blank) = Unit {0}
IsWithinLine (inr parts) = AreWithin (kinds_of parts.form) parts.values

-- a line that has a canonical text: each value lies within the form of its word
pub record IsSayable (l : Line) : Type 0 where
  pub filled : l ≡ line.Blank → ⊥
  pub within : IsWithinLine (parts_of l)
  pub short : length (canonical l) ≤ line_limit

abbrev pub printed_of : {l : Line} → (l ≡ line.Blank) ⊎ Parts l → List ℕ
printed_of (inl blank) = []
printed_of (inr parts) = line_text (kinds_of parts.form) parts.values ++ line_feed ∷ []

-- the canonical text and a line feed; nothing for a line that says nothing
abbrev pub printed : Line → List ℕ
printed l = printed_of (parts_of l)
