-- What contracts see of how a session ended.
use Rattle.std.specs.Prelude.{List}
use Rattle.netd_session.specs.Stops.{End}
use Rattle.netd_session.specs.declared.turn.Turn.{Turn}

pub record EndedView : Type 0 where
  pub result : End
  pub turns : List Turn
