-- Lists of which the numbers that pass a test stand first.
use Rattle.std.specs.Prelude.{◌≡◌, Bool, true, List, [], ◌∷◌}
use Rattle.std.specs.List.{AllByRecursion}

-- where a number passes, those before it pass
abbrev pub IsParted : {X : Type 0} → (X → Bool) → List X → Type 0
IsParted p [] = Unit {0}
IsParted p (x ∷ xs) = AllByRecursion (λ y. p y ≡ true → p x ≡ true) xs × IsParted p xs
