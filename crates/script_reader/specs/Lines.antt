-- The lines of a script, and which texts spell them.
use Rattle.std.specs.Prelude.{◌≡◌, ℕ, ◌≤◌, ◌&&◌, ◌⊎◌, Bool, true, List, [], ◌∷◌, length, nat_le, slice_index}
use Rattle.std.specs.List.{list_all}
use Rattle.script_reader.specs.declared.form.Form.{Form}
use Rattle.script_reader.specs.declared.line.Line.{Line}
use Rattle.script_reader.specs.declared.line.Line.TheVariants as line
use Rattle.word_text.specs.Grammar.{AreSpelled, Values, has_list}
use Rattle.script_reader.specs.Languages.{Language}
use Rattle.script_reader.specs.Rows.{forms, kinds_of, line_with}
use Rattle.script_reader.specs.Words.{texts, words_of}

abbrev pub hash : ℕ
hash = 35

-- no words, or a comment: the first word begins with '#'
abbrev pub IsBlank : List (List ℕ) → Type 0
IsBlank [] = Unit {0}
IsBlank (first ∷ others) = slice_index first 0 ≡ hash

-- the language of a script
abbrev pub script : Language
script = record { Form = Form; forms = forms; kinds_of = kinds_of }

-- the words are of a form, and say the line
pub record SaysSo (l : Line) (words : List (List ℕ)) : Type 0 where
  pub form : Form
  pub values : Values (kinds_of form)
  pub spelled : AreSpelled (kinds_of form) values words
  pub same : l ≡ line_with form values

-- the words are those of the line
abbrev pub Says : Line → List (List ℕ) → Type 0
Says l words = ((l ≡ line.Blank) × IsBlank words) ⊎ SaysSo l words

abbrev pub is_printable : ℕ → Bool
is_printable byte = nat_le 32 byte && nat_le byte 126

abbrev pub line_limit : ℕ
line_limit = 512

-- a line has at most 512 bytes, all of them printable
pub record IsText (text : List ℕ) : Type 0 where
  pub short : length text ≤ line_limit
  pub printable : list_all is_printable text ≡ true

-- the text spells the line
pub record Spells (text : List ℕ) (line : Line) : Type 0 where
  pub is_text : IsText text
  pub says : Says line (texts (words_of text))

-- the text spells a line that has a list
pub record SpellsList (text : List ℕ) : Type 0 where
  pub is_text : IsText text
  pub form : Form
  pub values : Values (kinds_of form)
  pub spelled : AreSpelled (kinds_of form) values (texts (words_of text))
  pub has : has_list (kinds_of form) ≡ true
