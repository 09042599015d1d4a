-- Places that are full or empty.
use Rattle.std.specs.Prelude.{ℕ, zero, suc, List, [], ◌∷◌, Option, None}

-- what stands at a place: nothing at an empty one, nor past the end
abbrev pub held : {X : Type 0} → List (Option X) → ℕ → Option X
held [] place = None
held (here ∷ places) zero = here
held (here ∷ places) (suc place) = held places place
