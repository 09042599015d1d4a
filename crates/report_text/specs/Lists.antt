-- Lists within a line, as they are printed.
use Rattle.std.specs.Prelude.{ℕ, List, [], ◌∷◌, codes}
use Rattle.std.specs.List.{join_with_byte}

-- ','
abbrev pub comma : ℕ
comma = 44

-- the texts with ',' between each two, or '-' where there are none
abbrev pub listed : List (List ℕ) → List ℕ
listed [] = codes "-"
listed (text ∷ texts) = join_with_byte comma (text ∷ texts)
