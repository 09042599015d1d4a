-- The lines of an input, as POSIX has them: each ends in a line feed, which the last one may lack.
use Rattle.std.specs.Prelude.{◌≡◌, ℕ, ◌==◌, ◌&&◌, ◌||◌, Bool, false, if◌then◌else◌, nat_lt, List, [], ◌∷◌, ◌++◌, flat_map, length, take}
use Rattle.std.specs.List.{list_any, AllByRecursion}

abbrev pub line_feed : ℕ
line_feed = 10

-- the most bytes of a line, without its line feed
abbrev pub line_limit : ℕ
line_limit = 512

-- the most bytes of an input
abbrev pub input_limit : ℕ
input_limit = 16777216

-- no line feed stands in it
abbrev pub IsOneLine : List ℕ → Type 0
IsOneLine text = list_any (λ byte. byte == line_feed) text ≡ false

-- a line with its line feed
abbrev pub fed : List ℕ → List ℕ
fed line = line ++ line_feed ∷ []

-- what stands after the last line feed is a line where the input ended after at least one byte of it, or where it is
-- too long for one however it goes on
abbrev pub last_line : Bool → List ℕ → List (List ℕ)
last_line ended rest = if (ended && nat_lt 0 (length rest)) || nat_lt line_limit (length rest) then
    rest ∷ [] else []

-- The lines that are met in bytes that were given: those that end in a line feed, and the last one.
pub record AreMet (given : List ℕ) (ended : Bool) (lines : List (List ℕ)) : Type 0 where
  pub whole : List (List ℕ)
  pub rest : List ℕ
  pub bytes : take input_limit given ≡ flat_map fed whole ++ rest
  pub each : AllByRecursion IsOneLine whole
  pub last : IsOneLine rest
  pub lines_are : lines ≡ whole ++ last_line ended rest
