-- What stays of runs that get room.
use Rattle.std.specs.Prelude.{◌≡◌, ℕ, ◌≤◌, List, length}
use Rattle.std.specs.declared.vec.Vec.{Vec}
use Rattle.number_runs.specs.Runs.{numbers_of, AreFilled, HaveRoom}

-- The numbers stay, no run but the first is empty where none was, and no room that isn't more than this is lost.
pub record Keeps {A : Type 0} (spare : ℕ) (old new : List (Vec ℕ A)) : Type 0 where
  pub numbers : numbers_of new ≡ numbers_of old
  pub filled : AreFilled old → AreFilled new
  pub room : (less : ℕ) → less ≤ spare → HaveRoom less old → HaveRoom less new
  pub there : length old ≤ length new
