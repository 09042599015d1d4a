-- What a read and a write say of a source and a sink. The end of the input is that of POSIX's read: a read into some
-- room that gives no byte.
use Rattle.std.specs.Prelude.{ℕ, ◌==◌, ◌<◌, ◌^◌, ◌-◌, Bool, false, List, [], ◌∷◌, Option, Result, Ok, Err}

-- what contracts see of a source
pub record SourceView : Type 0 where
  -- the bytes that are left, where the source tells them
  pub left : Option (List ℕ)
  -- how many reads have failed
  pub faults : ℕ
  -- the last read into some room gave no byte
  pub ended : Bool

-- what contracts see of a sink
pub record SinkView : Type 0 where
  -- the bytes that were written, where the sink tells them
  pub bytes : Option (List ℕ)
  -- how many writes have failed
  pub faults : ℕ

-- a call may be made: one more fault can be counted
abbrev pub CanCount : ℕ → Type 0
CanCount faults = faults < 2 ^ 64 - 1

-- whether the input has ended, after a read into this room: an empty room tells nothing, no byte tells the end
abbrev pub ended_after : {E : Type 0} → Bool → List ℕ → Result ℕ E → Bool
ended_after was [] r = was
ended_after was (x ∷ xs) (Ok n) = n == 0
ended_after was (x ∷ xs) (Err e) = false
