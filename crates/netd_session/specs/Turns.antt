-- Where a session stands between two lines, and the turn that leads there.
use Rattle.std.specs.Prelude.{ℕ, length, Option}
use Rattle.kernel_model.specs.View.{KernelView}
use Rattle.mark_server.specs.Sockets.{Sockets}
use Rattle.net_control.specs.View.{ControllerView}
use Rattle.netd_session.specs.declared.turn.Said.{Said}
use Rattle.netd_session.specs.declared.turn.Turn.{Turn}
use Rattle.netd_session.specs.declared.watch.Watch.{Watch}

-- the controller, the kernel, the sockets and what is watched, at a moment between two lines
pub record Standing : Type 0 where
  pub controller : ControllerView
  pub kernel : KernelView
  pub sockets : Sockets
  pub watch : Option Watch

abbrev pub standing : ControllerView → KernelView → Sockets → Option Watch → Standing
standing controller kernel sockets watch =
    record { controller = controller; kernel = kernel; sockets = sockets; watch = watch }

-- the turn of the line with this number, which says this, and after which the kernel is as it stands then
abbrev pub turn_of : ℕ → Said → Standing → Turn
turn_of n s e = record { line = n; said = s; journal_end = length e.kernel.journal }
