-- What telling a text to a sink does.
use Rattle.std.specs.Prelude.{◌≡◌, ◌⊎◌, ℕ, ◌<◌, List, length, take, Err}
use Rattle.std.specs.Io.KnownBytes.{Appends}
use Rattle.net_io.specs.Streams.{SinkView}
use Rattle.netd_session.specs.Stops.{End}
use Rattle.netd_session.specs.declared.end.Stop.TheVariants as stop

-- So many bytes of a text were taken: all of them, and then the end is `whole`; or a prefix, since the sink failed, or
-- since it ran out of memory for more. The sink's count of faults tells.
pub data IsTaken (whole result : End) (taken all : ℕ) (old new : ℕ) : Type 0 where
  taken_whole : result ≡ whole → taken ≡ all → new ≡ old → IsTaken whole result taken all old new
  sink_failed : result ≡ Err stop.WriteFault → taken < all → old < new
      → IsTaken whole result taken all old new
  no_memory : result ≡ Err stop.Memory → taken < all → new ≡ old
      → IsTaken whole result taken all old new

-- a text was offered to a sink, which took so much of it
pub record Tells (text : List ℕ) (whole result : End) (old new : SinkView) : Type 0 where
  pub taken : ℕ
  pub written : Appends old.bytes new.bytes (take taken text)
  pub outcome : IsTaken whole result taken (length text) old.faults new.faults

-- or memory ran out before the text was made
abbrev pub MakesAndTells : List ℕ → (whole result : End) → (old new : SinkView) → Type 0
MakesAndTells text whole result old new =
    Tells text whole result old new ⊎ ((result ≡ Err stop.Memory) × (new ≡ old))
