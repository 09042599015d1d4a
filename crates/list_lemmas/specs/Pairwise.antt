-- A test of each two members of a list.
use Rattle.std.specs.Prelude.{◌&&◌, Bool, true, List, [], ◌∷◌}
use Rattle.std.specs.List.{list_all}

-- each two of the list pass the test, the earlier one first
abbrev pub pairwise : {A : Type 0} → (A → A → Bool) → List A → Bool
pairwise t [] = true
pairwise t (x ∷ xs) = list_all (t x) xs && pairwise t xs
