-- Where a session stands, of what it keeps from line to line.
use Rattle.kernel_model.specs.View.{KernelView}
use Rattle.netd_session.specs.Turns.{Standing, standing}
use Rattle.netd_session.specs.declared.line.Talk.{Talk}

abbrev pub stands : Talk → KernelView → Standing
stands talk kernel = standing talk.controller kernel talk.sockets talk.watch
