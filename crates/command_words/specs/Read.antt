-- What the code makes of the matches.
use Rattle.std.specs.Prelude.{◌≡◌, ◌&&◌, ℕ, Bool, List, [], ◌∷◌, Option, Some, None, codes, find, if◌then◌else◌, is_none, not, unwrap_or}
use Rattle.std.specs.Str.{bytes_eq}
use Rattle.clap.specs.Lexer.{long_of}
use Rattle.clap.specs.Walk.{Row, all_of, first_of}
use Rattle.command_words.specs.declared.form.TheConstants.{ALL_WORDLESS}
use Rattle.command_words.specs.declared.form.Wordless.{Wordless}
use Rattle.command_words.specs.Forms.{Text, IsList, IsSoak, FormView, name_of, run, soak, wordless}
use Rattle.command_words.specs.Refused.{is_refused}

-- the texts that were given for the options of `run`
pub record Given : Type 0 where
  pub refuses : Option Text
  pub breaks : Option Text

-- the text is a list, and where there is none the list is empty
abbrev pub IsListOrNone : Option Text → List ℕ → Type 0
IsListOrNone None numbers = numbers ≡ []
IsListOrNone (Some text) numbers = IsList text numbers

-- the form that these texts say
abbrev pub Says : Given → FormView → Type 0
Says given (run refuse breaks) = IsListOrNone given.refuses refuse × IsListOrNone given.breaks breaks
Says given (wordless form) = ⊥
Says given (soak seed count) = ⊥

-- the form that these two words after `soak` say
abbrev pub SaysSoak : Text → Text → FormView → Type 0
SaysSoak first second (run refuse breaks) = ⊥
SaysSoak first second (wordless form) = ⊥
SaysSoak first second (soak seed count) = IsSoak (codes "soak" ∷ first ∷ second ∷ []) seed count

-- what the words give: the options of `run`, a form's word alone, or the two words after `soak`
pub data Reading : Type 0 where
  options : Given → Reading
  alone : Wordless → Reading
  soaking : Text → Text → Reading

abbrev pub SaysReading : Reading → FormView → Type 0
SaysReading (options given) form = Says given form
SaysReading (alone only) form = form ≡ wordless only
SaysReading (soaking first second) form = SaysSoak first second form

abbrev pub SaysSome : Option Reading → FormView → Type 0
SaysSome None form = ⊥
SaysSome (Some reading) form = SaysReading reading form

-- the form with this word alone
abbrev pub wordless_named : Text → Option Wordless
wordless_named name = find (λ form. bytes_eq (name_of form) name) ALL_WORDLESS

abbrev pub given_in : List Row → Given
given_in rows = record { refuses = first_of (codes "refuse") rows; breaks = first_of (codes "break") rows }

-- what is given by the words after a form's name, where it has no others
abbrev pub alone_given : Option Wordless → List Text → Option Reading
alone_given (Some form) [] = Some (alone form)
alone_given _ _ = None

-- a word that may be a value: it is not refused, and no `--NAME`
abbrev pub is_value : Text → Bool
is_value word = is_none (long_of word) && not (is_refused word)

-- what is given by the words after `soak`
abbrev pub soak_given : List Text → Option Reading
soak_given (first ∷ second ∷ []) = if is_value first && is_value second then Some (soaking first second) else None
soak_given _ = None

-- the words after a subcommand's name
abbrev pub words_in : List Row → List Text
words_in rows = unwrap_or (all_of (codes "words") rows) []

-- what was given to the subcommand that was found
abbrev pub read_found : Option (Text × List Row) → Option Reading
read_found None = None
read_found (Some found) =
    if bytes_eq found.0 (codes "run") then Some (options (given_in found.1))
    else (if bytes_eq found.0 (codes "soak") then soak_given (words_in found.1)
    else alone_given (wordless_named found.0) (words_in found.1))
