-- A table of rules that is made of levels: it rises by priority.
use Rattle.std.proofs.Common.{◌≡◌, ◌∷◌, [], ℕ, List, true}
use Rattle.std.specs.Prelude.{flat_map}
use Rattle.rule_law.specs.Rules.{Kind, has, NoneBelow, Rises}
use Rattle.rule_law.specs.Parts.{KeysRise, ShowKeys}
use Rattle.rule_law.proofs.Keys.{Rises-joined, each_rises}

-- each rule of a level has the level's priority
module _ {R L : Type 0} (k : Kind R) (priority_of : L → ℕ) (rules_at : L → List R)
    (at-priority : (level : L) (x : R) → has k (rules_at level) x ≡ true → k.priority x ≡ priority_of level) where
  pub levels-show : (levels : List L) → ShowKeys k priority_of k.priority rules_at levels
  levels-show [] = tt
  levels-show (level ∷ rest) = (at-priority level, levels-show rest)

  -- the table rises, after all rules of priority 0
  pub levels-rise : (levels : List L) → KeysRise priority_of 1 levels → Rises k (flat_map rules_at levels) × NoneBelow k 1 (flat_map rules_at levels)
  levels-rise levels rising = Rises-joined k priority_of rules_at 1 levels (levels-show levels) rising (each_rises k priority_of rules_at levels (levels-show levels))
