-- A line is a command, or it asks the kernel nothing and leaves the controller as it is.
use Rattle.std.proofs.Common.{◌≡◌, ◌≢◌, ℕ, List, Option, None, Some, Result, Ok, Err, inl, inr, refl}
use Rattle.commands.specs.declared.command.Command.{Command}
use Rattle.mark_server.specs.Access.{access}
use Rattle.mark_server.specs.Sockets.{closing, socket_of}
use Rattle.mark_server.specs.declared.socket.Socket.{Socket}
use Rattle.net_names.specs.declared.code.Code.{Code}
use Rattle.policy_state.specs.View.{link_named}
use Rattle.prefixes.specs.declared.addr.Addr.{Addr}
use Rattle.script_reader.specs.declared.line.Line.{Line}
use Rattle.script_reader.specs.declared.line.Line.TheVariants as line
use Rattle.script_reader.specs.declared.line.ShowLine.{ShowLine}
use Rattle.script_reader.specs.declared.line.SocketLine.{SocketLine}
use Rattle.script_reader.specs.declared.line.SocketLine.TheVariants as socket
use Rattle.script_reader.specs.declared.line.TraceLine.{TraceLine}
use Rattle.script_reader.specs.declared.line.TraceLine.TheVariants as trace
use Rattle.uid_ranges.specs.declared.range.Uid.{Uid}
use Rattle.netd_session.specs.Answers.{IsAnsweredLine, IsBoundAndTraced, IsCommanded, IsNowWatched, IsPacketLine, IsPassedAndTraced, IsSentAndTraced}
use Rattle.netd_session.specs.SocketLines.{IsAllowed, IsClosed, IsSocketLine}
use Rattle.netd_session.specs.Turns.{Standing}
use Rattle.netd_session.specs.declared.turn.Turn.{Turn}
use Rattle.netd_session.specs.declared.watch.Watch.{Watch}

-- nothing was asked of the kernel, and the controller is as it was
pub record Keeps (s e : Standing) : Type 0 where
  pub kernel : e.kernel ≡ s.kernel
  pub controller : e.controller ≡ s.controller

-- so where it stands as another one does that has the same kernel and controller
pub keeps_as : (s next e : Standing) → e ≡ next → next.kernel ≡ s.kernel → next.controller ≡ s.controller → Keeps s e
keeps_as s next e same kernel controller = record { kernel = cc; controller = cc }

pub keeps_all : (s e : Standing) → e ≡ s → Keeps s e
keeps_all s e same = keeps_as s s e same refl refl

module _ (n : ℕ) (s e : Standing) (turns : List Turn) (out : List ℕ) where
  bound_keeps : (uid : Uid) (mark : ℕ) (dest : Addr) (o : Option ℕ) → IsBoundAndTraced uid mark dest o n s e turns out → Keeps s e
  bound_keeps uid mark dest (Some link) (packet, made, traced) = keeps_all s e traced.0
  bound_keeps uid mark dest None told = keeps_all s e told.0

  packet_keeps : (uid : Uid) (mark : ℕ) (dest : Addr) (link : Option (List ℕ)) → IsPacketLine uid mark dest link n s e turns out → Keeps s e
  packet_keeps uid mark dest None (packet, made, traced) = keeps_all s e traced.0
  packet_keeps uid mark dest (Some name) is = bound_keeps uid mark dest (link_named s.controller.state name) is

  sent_keeps : (o : Option Socket) (dest : Addr) → IsSentAndTraced o dest n s e turns out → Keeps s e
  sent_keeps None dest told = keeps_all s e told.0
  sent_keeps (Some from) dest (packet, made, traced) = keeps_all s e traced.0

  passed_keeps : (o : Option ℕ) (dest : Addr) → IsPassedAndTraced o dest n s e turns out → Keeps s e
  passed_keeps None dest told = keeps_all s e told.0
  passed_keeps (Some link) dest (inl (loopback, told)) = keeps_all s e told.0
  passed_keeps (Some link) dest (inr (packet, passed, traced)) = keeps_all s e traced.0

  watch_keeps : (o : Option Socket) (watch : Watch) → IsNowWatched o watch n s e turns out → Keeps s e
  watch_keeps None watch told = keeps_all s e told.0
  watch_keeps (Some from) watch (packet, made, traced) = keeps_as s (record s { watch = Some watch }) e traced.0 refl refl

  trace_keeps : (t : TraceLine) → IsAnsweredLine (line.Trace t) n s e turns out → Keeps s e
  trace_keeps (trace.Made uid mark dest link) is = packet_keeps uid mark dest link is
  trace_keeps (trace.Trace name dest) is = sent_keeps (socket_of name s.sockets) dest is
  trace_keeps (trace.Passed link dest) is = passed_keeps (link_named s.controller.state link) dest is
  trace_keeps (trace.Watch name dest) is = watch_keeps (socket_of name s.sockets) (record { socket = name; dest = dest }) is
  trace_keeps trace.WatchOff is = keeps_as s (record s { watch = None }) e is.0 refl refl

  show_keeps : (question : ShowLine) → IsAnsweredLine (line.Show question) n s e turns out → Keeps s e
  show_keeps question is = keeps_all s e is.0

  -- the sockets and the watch may differ
  but_sockets : (next : Standing) → e ≡ next → next.kernel ≡ s.kernel → next.controller ≡ s.controller → Keeps s e
  but_sockets next same kernel controller = keeps_as s next e same kernel controller

  closed_keeps : (made : Result (Unit {0}) Code) (name : List ℕ) → IsClosed made name n s e turns out → Keeps s e
  closed_keeps (Err c) name told = keeps_all s e told.0
  closed_keeps (Ok u) name told = but_sockets _ told.0 refl refl

  allowed_keeps : (made : Result (Unit {0}) Code) → IsAllowed made n s e turns out → Keeps s e
  allowed_keeps (Ok u) told = keeps_all s e told.0
  allowed_keeps (Err c) told = keeps_all s e told.0

  call_keeps : (call : SocketLine) → IsSocketLine call n s e turns out → Keeps s e
  call_keeps (socket.Open name uid) is = but_sockets _ is.0 refl refl
  call_keeps (socket.Accept name uid link) is = but_sockets _ is.0 refl refl
  call_keeps (socket.Close name) is = closed_keeps (closing name s.sockets) name is
  call_keeps (socket.Bind name link) is = but_sockets _ is.0 refl refl
  call_keeps (socket.Unbind name) is = but_sockets _ is.0 refl refl
  call_keeps (socket.Connect name) is = but_sockets _ is.0 refl refl
  call_keeps (socket.Select name net) is = but_sockets _ is.0 refl refl
  call_keeps (socket.Protect name) is = but_sockets _ is.0 refl refl
  call_keeps (socket.SelectFor name user) is = but_sockets _ is.0 refl refl
  call_keeps (socket.Access uid net) is = allowed_keeps (access s.controller.state uid net) is

-- what a line is
pub data IsKind (l : Line) (n : ℕ) (s e : Standing) (turns : List Turn) (out : List ℕ) : Type 0 where
  is_command : (command : Command) → l ≡ line.Control command → IsCommanded command n s e turns out → IsKind l n s e turns out
  is_other : ((command : Command) → l ≢ line.Control command) → Keeps s e → IsKind l n s e turns out

pub kind_of_line : (l : Line) (n : ℕ) (s e : Standing) (turns : List Turn) (out : List ℕ) → IsAnsweredLine l n s e turns out → IsKind l n s e turns out
kind_of_line line.Blank n s e turns out is = is_other (λ c same. absurd cc) (keeps_all s e is.0)
kind_of_line (line.Control command) n s e turns out is = is_command command refl is
kind_of_line (line.Socket call) n s e turns out is = is_other (λ c same. absurd cc) (call_keeps n s e turns out call is)
kind_of_line (line.Trace t) n s e turns out is = is_other (λ c same. absurd cc) (trace_keeps n s e turns out t is)
kind_of_line (line.Show question) n s e turns out is = is_other (λ c same. absurd cc) (show_keeps n s e turns out question is)
