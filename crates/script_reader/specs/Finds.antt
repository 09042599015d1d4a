-- Finding the form of words, and taking their values.
use Rattle.std.specs.Prelude.{◌≡◌, ℕ, ◌≤◌, true, List, drop, Result, Ok, Err}
use Rattle.std.specs.List.{AllByRecursion}
use Rattle.std.specs.declared.alloc.AllocError.{AllocError}
use Rattle.uid_ranges.specs.declared.range.UidRange.{UidRange}
use Rattle.script_reader.specs.declared.find.Reached.{Reached}
use Rattle.script_reader.specs.declared.form.Form.{Form}
use Rattle.script_reader.specs.declared.line.Line.{Line}
use Rattle.word_text.specs.declared.values.Values.{Values as Slots}
use Rattle.script_reader.specs.declared.words.Words.{Words}
use Rattle.script_reader.specs.Cursor.{Fit, IsAfter, Stops, StopsHere, end_of, words_left}
use Rattle.word_text.specs.Grammar.{Kind, ValueOf, AreOf, IsSpelled, has_list, is_list}
use Rattle.script_reader.specs.Languages.{Language}
use Rattle.script_reader.specs.Lines.{SaysSo, script}
use Rattle.script_reader.specs.Rows.{kinds_of}
use Rattle.word_text.specs.Slots.{listed, put}
use Rattle.script_reader.specs.Words.{texts}

-- so many words are of these kinds, and the next one isn't
pub record StopsAt (kinds : List Kind) (cursor : Words) (reached : Reached) : Type 0 where
  pub fit : Fit reached.count kinds (words_left cursor)
  pub after : IsAfter reached.count cursor reached.after
  pub stops : StopsHere (drop reached.count kinds) (words_left reached.after) (end_of cursor) reached.after.column

-- the words stop being of the form, in this column or before it
abbrev pub StopsBy : (l : Language) → Words → ℕ → l.Form → Type 0
StopsBy l cursor column form = (stop : ℕ) × Stops (l.kinds_of form) (words_left cursor) (end_of cursor) stop × (stop ≤ column)

-- none of the forms fits past this column, and one fits up to it
pub record FitsFarthest (l : Language) (cursor : Words) (column : ℕ) : Type 0 where
  pub each : AllByRecursion (StopsBy l cursor column) l.forms
  pub form : l.Form
  pub stops : Stops (l.kinds_of form) (words_left cursor) (end_of cursor) column

-- the form of the words, or where the form that fits farthest stops
abbrev pub Finds : Words → Result Form ℕ → Type 0
Finds cursor (Ok form) = AreOf (kinds_of form) (texts (words_left cursor))
Finds cursor (Err column) = FitsFarthest script cursor column

-- the value that a word of this kind spells was put, and its ranges were appended
abbrev pub TakesWord : {T : Type 0} → Kind → List ℕ → Slots → Slots → List UidRange → List UidRange → Result T AllocError → Type 0
TakesWord kind text v w old new (Ok done) = (value : ValueOf kind) → IsSpelled kind value text → (w ≡ put kind value v) × (new ≡ listed kind value old)
TakesWord kind text v w old new (Err fault) = is_list kind ≡ true

-- the line of the words, which are of this form
abbrev pub ReadsForm : Form → Words → Result Line AllocError → Type 0
ReadsForm form cursor (Ok line) = SaysSo line (texts (words_left cursor))
ReadsForm form cursor (Err fault) = has_list (kinds_of form) ≡ true
