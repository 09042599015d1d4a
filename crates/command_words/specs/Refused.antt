-- Words that no form has, which are refused before `clap` reads the others.
use Rattle.std.specs.Prelude.{◌==◌, ◌||◌, ℕ, Bool, true, false, List, [], ◌∷◌, codes, if◌then◌else◌, length}
use Rattle.std.specs.List.{list_any}
use Rattle.std.specs.Str.{bytes_eq}
use Rattle.command_words.specs.Forms.{Text}

-- '-'
abbrev pub hyphen : ℕ
hyphen = 45

-- what follows a hyphen begins with no hyphen, or is one hyphen
abbrev pub is_dashed_rest : Text → Bool
is_dashed_rest [] = false
is_dashed_rest (x ∷ xs) = if x == hyphen then length xs == 0 else true

-- `--`, or a hyphen and then something other than a hyphen
abbrev pub is_dashed : Text → Bool
is_dashed [] = false
is_dashed (x ∷ xs) = if x == hyphen then is_dashed_rest xs else false

-- a word that asks for help or for the version
abbrev pub is_help : Text → Bool
is_help word = bytes_eq word (codes "help") || (bytes_eq word (codes "--help") || bytes_eq word (codes "--version"))

abbrev pub is_refused : Text → Bool
is_refused word = is_dashed word || is_help word

abbrev pub has_refused : List Text → Bool
has_refused words = list_any is_refused words
