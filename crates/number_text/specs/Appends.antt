-- Text that is written at the end of a list of bytes.
use Rattle.std.specs.Prelude.{◌≡◌, ℕ, ◌+◌, ◌<◌, ◌≤◌, List, ◌++◌, length, Result, OnOk, OnErr}
use Rattle.std.specs.Vec.{vec_len, vec_capacity}
use Rattle.std.specs.declared.vec.Vec.{Vec}
use Rattle.std.specs.declared.alloc.Global.{Global}

-- new begins with what old holds
abbrev pub BeginsWith : List ℕ → List ℕ → Type 0
BeginsWith new old = (rest : List ℕ) × (new ≡ old ++ rest)

-- The call wrote the text after what was there. Only where its bytes don't fit in the free capacity can
-- it fail, and what was there stays at the front then too. The capacity never falls.
pub record Appends {T E : Type 0} (old new : Vec ℕ Global) (result : Result T E) (text : List ℕ) : Type 0 where
  pub written : OnOk result (new.items ≡ old.items ++ text)
  pub front : BeginsWith new.items old.items
  pub full : OnErr result (vec_capacity old < vec_len old + length text)
  pub capacity : vec_capacity old ≤ vec_capacity new
