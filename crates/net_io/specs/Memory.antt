-- Sources and sinks over memory: what they hold, and what a call gives by its number.
use Rattle.std.specs.Prelude.{ℕ, ◌==◌, ◌+◌, ◌-◌, ◌^◌, ◌&&◌, Bool, List, nat_lt, min}
use Rattle.std.specs.List.{list_any}

-- the call after so many calls is listed; calls are counted from 1, and none past the most that are counted fails
abbrev pub is_listed : ℕ → List ℕ → Bool
is_listed calls fail = nat_lt calls (2 ^ 64 - 1) && list_any (λ k. k == calls + 1) fail

-- the calls after one more, up to the most that are counted
abbrev pub calls_after : ℕ → ℕ
calls_after calls = min (calls + 1) (2 ^ 64 - 1)

-- what a source holds
pub record SourceParts : Type 0 where
  -- the bytes that are left
  pub rest : List ℕ
  -- the numbers of the reads that fail
  pub fail : List ℕ
  -- the most bytes of one read
  pub piece : ℕ
  pub calls : ℕ
  pub faults : ℕ
  pub ended : Bool

-- what a sink holds
pub record SinkParts : Type 0 where
  -- the bytes that were written
  pub bytes : List ℕ
  -- the numbers of the writes that fail
  pub fail : List ℕ
  -- the most bytes of one write
  pub piece : ℕ
  pub calls : ℕ
  pub faults : ℕ
