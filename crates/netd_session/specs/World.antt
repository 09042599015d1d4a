-- What contracts see of a source, a sink and a kernel together, and when a session may begin.
use Rattle.std.specs.Prelude.{◌≡◌, false, []}
use Rattle.kernel_model.specs.View.{KernelView}
use Rattle.net_io.specs.Streams.{CanCount, SinkView, SourceView}

pub record World : Type 0 where
  pub source : SourceView
  pub sink : SinkView
  pub kernel : KernelView

abbrev pub world : SourceView → SinkView → KernelView → World
world source sink kernel = record { source = source; sink = sink; kernel = kernel }

-- the source and the sink alone
pub record Streams : Type 0 where
  pub source : SourceView
  pub sink : SinkView

abbrev pub streams : SourceView → SinkView → Streams
streams source sink = record { source = source; sink = sink }

abbrev pub streams_of : World → Streams
streams_of w = streams w.source w.sink

-- A session may begin: the kernel was asked nothing, a fault more of the source and of the sink can be counted, and the
-- source hasn't ended.
pub record MayBegin (w : World) : Type 0 where
  pub starting : w.kernel.journal ≡ []
  pub reads : CanCount w.source.faults
  pub writes : CanCount w.sink.faults
  pub not_ended : w.source.ended ≡ false
