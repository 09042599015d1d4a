-- Sorted lists of spots.
use Rattle.std.specs.Prelude.{◌≡◌, ℕ, true, List, [], ◌∷◌, cond, map}
use Rattle.std.specs.List.{prefix_len, AllByRecursion}
use Rattle.rule_index.specs.declared.spot.Spot.{Spot}
use Rattle.rule_match.specs.declared.rule.Rule.{Rule}
use Rattle.rule_index.specs.declared.spot.Sorting.{Sorting}
use Rattle.rule_index.specs.Spots.{below, spot_by}

-- where the rules of these numbers stand
abbrev pub spots_by : Sorting → List Rule → List ℕ → List Spot
spots_by sorting rules numbers = map (spot_by sorting rules) numbers

-- each spot is below those after it
abbrev pub Rises : List Spot → Type 0
Rises [] = Unit {0}
Rises (x ∷ xs) = AllByRecursion (λ y. below x y ≡ true) xs × Rises xs

-- how many are below this one, at the head of the list
abbrev pub place_of : Spot → List Spot → ℕ
place_of t xs = prefix_len (λ x. below x t) xs

-- the list with a spot put in after those below it
abbrev pub put : Spot → List Spot → List Spot
put s [] = s ∷ []
put s (x ∷ xs) = cond (below x s) (x ∷ put s xs) (s ∷ x ∷ xs)

-- the list without its first spot that isn't below this one
abbrev pub cut : Spot → List Spot → List Spot
cut s [] = []
cut s (x ∷ xs) = cond (below x s) (x ∷ cut s xs) xs
