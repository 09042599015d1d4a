-- Runs of numbers, and the list that they are.
use Rattle.std.specs.Prelude.{◌≡◌, ℕ, ◌+◌, ◌-◌, ◌<◌, ◌≤◌, ◌^◌, Bool, true, List, length, drop, slice_get, vec_len, vec_capacity, Option, Some, None}
use Rattle.std.specs.List.{flat_map, prefix_len, AllByRecursion}
use Rattle.std.specs.declared.vec.Vec.{Vec}

-- the numbers, and how many can be put in without memory
pub record RunsView : Type 0 where
  pub numbers : List ℕ
  pub room : ℕ

module _ {A : Type 0} where
  -- the numbers of the runs, one after another
  abbrev pub numbers_of : List (Vec ℕ A) → List ℕ
  numbers_of runs = flat_map (λ run. run.items) runs

  abbrev pub IsFilled : Vec ℕ A → Type 0
  IsFilled run = 0 < length run.items

  abbrev pub AllFilled : List (Vec ℕ A) → Type 0
  AllFilled runs = AllByRecursion IsFilled runs

  -- no run is empty but the first
  abbrev pub AreFilled : List (Vec ℕ A) → Type 0
  AreFilled runs = AllFilled (drop 1 runs)

  -- the run has room for this number more
  abbrev pub HasRoom : ℕ → Vec ℕ A → Type 0
  HasRoom spare run = vec_len run + spare ≤ vec_capacity run

  abbrev pub HaveRoom : ℕ → List (Vec ℕ A) → Type 0
  HaveRoom spare runs = AllByRecursion (HasRoom spare) runs

  -- the run at a place has two numbers at least
  abbrev pub IsLongAt : List (Vec ℕ A) → ℕ → Type 0
  IsLongAt runs at = (run : Vec ℕ A) → slice_get runs at ≡ Some run → 1 < length run.items

  -- What is kept of a list: its runs, how many numbers they have, and for how many more each has room.
  pub record AreRuns (runs : List (Vec ℕ A)) (len spare : ℕ) : Type 0 where
    pub filled : AreFilled runs
    pub room : HaveRoom spare runs
    pub there : 0 < spare → 0 < length runs
    pub counted : len ≡ length (numbers_of runs)
    pub bounded : len + spare < 2 ^ 64

abbrev pub passes : (ℕ → Bool) → Option ℕ → Bool
passes p None = true
passes p (Some n) = p n

-- whether the last number passes, or there is none
abbrev pub ends : (ℕ → Bool) → List ℕ → Bool
ends p numbers = passes p (slice_get numbers (length numbers - 1))

-- how many runs pass as a whole, at the head of their list
abbrev pub whole_runs : {A : Type 0} → (ℕ → Bool) → List (Vec ℕ A) → ℕ
whole_runs p runs = prefix_len (λ run. ends p run.items) runs

-- how many numbers of a run pass, at its head
abbrev pub place_at : {A : Type 0} → (ℕ → Bool) → Option (Vec ℕ A) → ℕ
place_at p None = 0
place_at p (Some run) = prefix_len p run.items
