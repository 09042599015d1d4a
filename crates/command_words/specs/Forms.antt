-- The forms of the command line: which lists of words the program accepts, and what they say.
use Rattle.std.specs.Prelude.{◌≡◌, ℕ, ◌<◌, ◌≤◌, ◌^◌, ◌⊎◌, List, [], ◌∷◌, ◌++◌, All, codes, length, map}
use Rattle.std.specs.Fmt.{decimal}
use Rattle.std.specs.List.{join_with_byte}
use Rattle.std.specs.List.Sorted.{IsStrictlyIncreasing}
use Rattle.command_words.specs.declared.form.Wordless.{Wordless}
use Rattle.command_words.specs.declared.form.Wordless.TheVariants.{Check}

-- a word, by its bytes
abbrev pub Text : Type 0
Text = List ℕ

-- ','
abbrev pub comma : ℕ
comma = 44

-- The text is a list of request numbers: 1 to 1,000 numbers from 1 to 4294967295 in decimal without
-- leading zeros, strictly rising, separated by ','.
pub record IsList (text : Text) (numbers : List ℕ) : Type 0 where
  pub spelled : text ≡ join_with_byte comma (map decimal numbers)
  pub some : 0 < length numbers
  pub few : length numbers ≤ 1000
  pub positive : All (λ n. 1 ≤ n) numbers
  pub bounded : All (λ n. n ≤ 4294967295) numbers
  pub rising : IsStrictlyIncreasing numbers

-- the words give the option this list, as `--NAME LIST` or `--NAME=LIST`
abbrev pub GivesOption : Text → List Text → List ℕ → Type 0
GivesOption name words numbers = (list : Text) × IsList list numbers
    × ((words ≡ (codes "--" ++ name) ∷ list ∷ []) ⊎ (words ≡ (codes "--" ++ name ++ codes "=" ++ list) ∷ []))

-- the same, or no words, and then the list is empty
abbrev pub MayGiveOption : Text → List Text → List ℕ → Type 0
MayGiveOption name words numbers = GivesOption name words numbers ⊎ ((words ≡ []) × (numbers ≡ []))

-- `run`, and then at most once each `--refuse LIST` and `--break LIST`, in either order
pub record IsRun (words : List Text) (refuse breaks : List ℕ) : Type 0 where
  pub first : List Text
  pub second : List Text
  pub whole : words ≡ codes "run" ∷ (first ++ second)
  pub options : (MayGiveOption (codes "refuse") first refuse × MayGiveOption (codes "break") second breaks)
      ⊎ (MayGiveOption (codes "break") first breaks × MayGiveOption (codes "refuse") second refuse)

-- `soak`, and then two numbers in decimal without leading zeros: the seed, and how many lines are drawn
pub record IsSoak (words : List Text) (seed count : ℕ) : Type 0 where
  pub whole : words ≡ codes "soak" ∷ decimal seed ∷ decimal count ∷ []
  pub fits : seed < 2 ^ 64
  pub few : count ≤ 100000

-- the only word of a form that has no others
abbrev pub name_of : Wordless → Text
name_of Check = codes "check"

-- what a form says
pub data FormView : Type 0 where
  run : List ℕ → List ℕ → FormView
  wordless : Wordless → FormView
  soak : ℕ → ℕ → FormView

-- the words have this form
abbrev pub IsForm : List Text → FormView → Type 0
IsForm words (run refuse breaks) = IsRun words refuse breaks
IsForm words (wordless form) = words ≡ name_of form ∷ []
IsForm words (soak seed count) = IsSoak words seed count
