-- RFC 5952, 4: the text that is recommended for eight groups.
use Rattle.std.specs.Prelude.{◌≡◌, ℕ, ◌+◌, ◌<◌, ◌≤◌, ◌⊎◌, List, length, slice_index}
use Rattle.number_text.specs.Numbers.{hexadecimal}
use Rattle.addr_text.specs.Canonical.{row_text, shortened_by}
use Rattle.addr_text.specs.Grammar.{colon}
use Rattle.addr_text.specs.declared.run.Run.{Run}

-- the groups from here on are zeros, so many of them
pub record IsZeroRun (groups : List ℕ) (start len : ℕ) : Type 0 where
  pub within : start + len ≤ length groups
  pub zeros : (k : ℕ) → k < len → slice_index groups (start + k) ≡ 0

-- 4.2: '::' stands for two groups or more, for as many as it can, and for the first of equally long runs
pub record IsShortenedRun (groups : List ℕ) (run : Run) : Type 0 where
  pub zeros : IsZeroRun groups run.start run.len
  pub long : 2 ≤ run.len
  pub longest : (start len : ℕ) → IsZeroRun groups start len → len ≤ run.len
  pub first : (start : ℕ) → IsZeroRun groups start run.len → run.start ≤ start

-- 4.1, 4.2 and 4.3: groups in lower case without leading zeros, shortened where there are two zeros in a row
abbrev pub IsRecommended : List ℕ → List ℕ → Type 0
IsRecommended groups text = ((run : Run) × IsShortenedRun groups run × (text ≡ shortened_by run groups))
    ⊎ (((start len : ℕ) → IsZeroRun groups start len → len < 2) × (text ≡ row_text hexadecimal colon groups))
