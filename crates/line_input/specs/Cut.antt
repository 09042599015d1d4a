-- How far a session has come in the bytes that it was given.
use Rattle.std.specs.Prelude.{◌≡◌, ◌⊎◌, ℕ, ◌<◌, ◌≤◌, Bool, true, List, [], ◌∷◌, ◌++◌, flat_map, length}
use Rattle.std.specs.List.{AllByRecursion}
use Rattle.line_input.specs.Lines.{IsOneLine, fed, line_limit}

-- the bytes are these lines, each with its line feed, and then what is held
pub record AreFed (given : List ℕ) (lines : List (List ℕ)) (held : List ℕ) : Type 0 where
  pub bytes : given ≡ flat_map fed lines ++ held
  pub each : AllByRecursion IsOneLine lines

-- the bytes ended after the last of these lines, which lacks its line feed
pub record AreLast (ended : Bool) (given : List ℕ) (lines : List (List ℕ))
    (held : List ℕ) : Type 0 where
  pub front : List (List ℕ)
  pub last : List ℕ
  pub lines_are : lines ≡ front ++ last ∷ []
  pub fed_front : AreFed given front last
  pub one_line : IsOneLine last
  pub some : 0 < length last
  pub short : length last ≤ line_limit
  pub none_held : held ≡ []
  pub at_end : ended ≡ true

abbrev pub IsCut : Bool → List ℕ → List (List ℕ) → List ℕ → Type 0
IsCut ended given lines held = AreFed given lines held ⊎ AreLast ended given lines held
