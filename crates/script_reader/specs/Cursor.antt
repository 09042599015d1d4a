-- Going over the words of a line, one by one.
use Rattle.std.specs.Prelude.{◌≡◌, ℕ, zero, suc, ◌+◌, ◌⊎◌, false, List, [], ◌∷◌, drop, length}
use Rattle.script_reader.specs.declared.words.Words.{Words}
use Rattle.word_text.specs.Grammar.{Kind, ValueOf, Fits, IsSpelled}
use Rattle.script_reader.specs.Words.{Word, words_from}

-- the words from here on
abbrev pub words_left : Words → List Word
words_left cursor = words_from cursor.column false cursor.rest.now

-- the column after the line
abbrev pub end_of : Words → ℕ
end_of cursor = cursor.column + length cursor.rest.now

-- no word is left
abbrev pub IsAtEnd : Words → Type 0
IsAtEnd cursor = (words_left cursor ≡ []) × (cursor.column ≡ end_of cursor)

-- this is the next word
abbrev pub Leads : List ℕ → Words → Type 0
Leads text cursor = words_left cursor ≡ record { column = cursor.column; text = text } ∷ drop 1 (words_left cursor)

-- one word was gone over
pub record IsNext (old new : Words) : Type 0 where
  pub words : words_left new ≡ drop 1 (words_left old)
  pub end : end_of new ≡ end_of old

-- the words stop being these kinds here: one is missing, is none of its kind, or is one too many
abbrev pub Stops : List Kind → List Word → ℕ → ℕ → Type 0
Stops [] [] end column = ⊥
Stops [] (word ∷ words) end column = column ≡ word.column
Stops (kind ∷ kinds) [] end column = column ≡ end
Stops (kind ∷ kinds) (word ∷ words) end column =
    (((value : ValueOf kind) → IsSpelled kind value word.text → ⊥) × (column ≡ word.column))
    ⊎ ((value : ValueOf kind) × IsSpelled kind value word.text × Stops kinds words end column)

-- so many words were gone over
pub record IsAfter (count : ℕ) (from after : Words) : Type 0 where
  pub words : words_left after ≡ drop count (words_left from)
  pub end : end_of after ≡ end_of from

-- so many of the first words are of the first kinds
abbrev pub Fit : ℕ → List Kind → List Word → Type 0
Fit zero kinds words = Unit {0}
Fit (suc count) [] words = ⊥
Fit (suc count) (kind ∷ kinds) [] = ⊥
Fit (suc count) (kind ∷ kinds) (word ∷ words) = Fits kind word.text × Fit count kinds words

-- the first of these words is missing, is none of its kind, or is one too many
abbrev pub StopsHere : List Kind → List Word → ℕ → ℕ → Type 0
StopsHere [] [] end column = ⊥
StopsHere [] (word ∷ words) end column = column ≡ word.column
StopsHere (kind ∷ kinds) [] end column = column ≡ end
StopsHere (kind ∷ kinds) (word ∷ words) end column = (Fits kind word.text → ⊥) × (column ≡ word.column)
