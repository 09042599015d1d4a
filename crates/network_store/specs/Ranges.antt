-- Ranked ranges with room for more.
use Rattle.std.specs.Prelude.{ℕ, List}
use Rattle.uid_ranges.specs.declared.ranked.Ranked.{Ranked}

pub record RangesView : Type 0 where
  pub ranges : List Ranked
  -- how many ranges may be added without memory
  pub room : ℕ
