-- How far one has come over the lines, each time that a line is looked for.
use Rattle.std.specs.Prelude.{◌≡◌, ℕ, ◌+◌, ◌≤◌, List, length}
use Rattle.std.specs.Io.KnownBytes.{Appends, Consumes}
use Rattle.line_input.specs.Cut.{AreFed}
use Rattle.line_input.specs.Lines.{input_limit}
use Rattle.netd_session.specs.Passes.{Pass, Passed}
use Rattle.netd_session.specs.World.{Streams}

-- from how it began the lines so far are told, and these bytes are held after them
pub record HasCome (p : Pass) (begun stands : p.Stand) (old new : Streams) (count : ℕ) (held : List ℕ)
    (number : ℕ) : Type 0 where
  pub given : List ℕ
  pub read : Consumes old.source.left new.source.left given
  pub counted : count ≡ length given
  pub within : count ≤ input_limit
  pub lines : List (List ℕ)
  pub numbered : number ≡ length lines
  pub cut : AreFed given lines held
  pub few : number + length held ≤ count
  pub out : List ℕ
  pub written : Appends old.sink.bytes new.sink.bytes out
  pub passed : Passed p begun lines stands out
  pub no_read_fault : new.source.faults ≡ old.source.faults
  pub no_write_fault : new.sink.faults ≡ old.sink.faults
