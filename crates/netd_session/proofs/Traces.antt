-- What is said of a packet is what its line says, by the link and the socket of the line.
use Rattle.std.proofs.Common.{◌≡◌, ℕ, List, Option, None, Some, inl, inr, refl, sym, subst}
use Rattle.kernel_model.specs.View.{state_of}
use Rattle.kernel_model.specs.Walk.{trail_of}
use Rattle.mark_server.specs.Sockets.{Sockets, socket_of}
use Rattle.mark_server.specs.declared.socket.Socket.{Socket}
use Rattle.net_names.specs.declared.code.Code.TheVariants as code
use Rattle.policy_meaning.specs.Policy.{policy}
use Rattle.policy_state.specs.View.{link_named}
use Rattle.prefixes.specs.declared.addr.Addr.{Addr}
use Rattle.rule_match.specs.Packet.{IsMade, IsPassed, lo}
use Rattle.rule_match.specs.declared.packet.Packet.{Packet}
use Rattle.script_reader.specs.declared.line.Line.TheVariants as line
use Rattle.script_reader.specs.declared.line.TraceLine.TheVariants as trace
use Rattle.uid_ranges.specs.declared.range.Uid.{Uid}
use Rattle.netd_session.specs.Answers.{IsAnsweredLine, IsBoundAndTraced, IsNowWatched, IsPacketLine, IsPassedAndTraced, IsSentAndTraced, IsTraced, passed_text, watch_text}
use Rattle.netd_session.specs.Told.{IsRefused, IsTold}
use Rattle.netd_session.specs.Turns.{Standing}
use Rattle.netd_session.specs.Watches.{IsSent, IsWatched}
use Rattle.netd_session.specs.declared.turn.Said.TheVariants as said
use Rattle.netd_session.specs.declared.turn.Turn.{Turn}
use Rattle.netd_session.specs.declared.watch.Watch.{Watch}

module _ (n : ℕ) (s e : Standing) (out : List ℕ) where
  -- the packet is bound to no link
  pub unbound_line : (uid : Uid) (mark : ℕ) (dest : Addr) (link : Option (List ℕ)) (packet : Packet) → link ≡ None → IsMade uid mark dest None packet
      → (more : List Turn) → IsTraced packet n s e more out → IsPacketLine uid mark dest link n s e more out
  unbound_line uid mark dest link packet none made more is =
      subst (λ (l : Option (List ℕ)). IsPacketLine uid mark dest l n s e more out) (sym none) (packet, made, is)

  module _ (uid : Uid) (mark : ℕ) (dest : Addr) (link : Option (List ℕ)) (name : List ℕ) (some : link ≡ Some name) where
    named_line : (o : Option ℕ) → link_named s.controller.state name ≡ o → (more : List Turn) → IsBoundAndTraced uid mark dest o n s e more out
        → IsPacketLine uid mark dest link n s e more out
    named_line o known more is =
        subst (λ (l : Option (List ℕ)). IsPacketLine uid mark dest l n s e more out) (sym some)
        (subst (λ (o : Option ℕ). IsBoundAndTraced uid mark dest o n s e more out) (sym known) is)

    -- the packet is bound to the link of a name
    pub bound_line : (index : ℕ) (packet : Packet) → link_named s.controller.state name ≡ Some index → IsMade uid mark dest (Some index) packet
        → (more : List Turn) → IsTraced packet n s e more out → IsPacketLine uid mark dest link n s e more out
    bound_line index packet known made more is = named_line (Some index) known more (packet, made, is)

    -- no link has the name
    pub unbindable_line : link_named s.controller.state name ≡ None
        → (more : List Turn) → IsRefused code.NoDevice n s e more out → IsPacketLine uid mark dest link n s e more out
    unbindable_line unknown more is = named_line None unknown more is

  -- what a socket sends
  module _ (name : List ℕ) (dest : Addr) where
    socket_line : (o : Option Socket) → socket_of name s.sockets ≡ o → (more : List Turn) → IsSentAndTraced o dest n s e more out
        → IsAnsweredLine (line.Trace (trace.Trace name dest)) n s e more out
    socket_line o known more is = subst (λ (o : Option Socket). IsSentAndTraced o dest n s e more out) (sym known) is

    pub sent_line : (from : Socket) (packet : Packet) → socket_of name s.sockets ≡ Some from → IsMade from.uid from.mark dest from.bound packet
        → (more : List Turn) → IsTraced packet n s e more out → IsAnsweredLine (line.Trace (trace.Trace name dest)) n s e more out
    sent_line from packet known made more is = socket_line (Some from) known more (packet, made, is)

    pub unsent_line : socket_of name s.sockets ≡ None
        → (more : List Turn) → IsRefused code.NoEntry n s e more out → IsAnsweredLine (line.Trace (trace.Trace name dest)) n s e more out
    unsent_line unknown more is = socket_line None unknown more is

    -- and it is watched from now on
    watched_line : (o : Option Socket) → socket_of name s.sockets ≡ o → (more : List Turn) → IsNowWatched o (record { socket = name; dest = dest }) n s e more out
        → IsAnsweredLine (line.Trace (trace.Watch name dest)) n s e more out
    watched_line o known more is = subst (λ (o : Option Socket). IsNowWatched o (record { socket = name; dest = dest }) n s e more out) (sym known) is

    pub watch_line : (from : Socket) (packet : Packet) → socket_of name s.sockets ≡ Some from → IsMade from.uid from.mark dest from.bound packet
        → (more : List Turn)
        → IsTold (said.Went packet.mark (policy s.controller.state packet)) (watch_text s.controller.state packet.mark (policy s.controller.state packet)) n
        (record s { watch = Some (record { socket = name; dest = dest }) }) e more out
        → IsAnsweredLine (line.Trace (trace.Watch name dest)) n s e more out
    watch_line from packet known made more is = watched_line (Some from) known more (packet, made, is)

    pub unwatched_line : socket_of name s.sockets ≡ None
        → (more : List Turn) → IsRefused code.NoEntry n s e more out → IsAnsweredLine (line.Trace (trace.Watch name dest)) n s e more out
    unwatched_line unknown more is = watched_line None unknown more is

  -- what comes by a link and is passed on
  module _ (link : List ℕ) (dest : Addr) where
    link_line : (o : Option ℕ) → link_named s.controller.state link ≡ o → (more : List Turn) → IsPassedAndTraced o dest n s e more out
        → IsAnsweredLine (line.Trace (trace.Passed link dest)) n s e more out
    link_line o known more is = subst (λ (o : Option ℕ). IsPassedAndTraced o dest n s e more out) (sym known) is

    pub passed_line : (index : ℕ) (packet : Packet) → link_named s.controller.state link ≡ Some index → IsPassed index dest packet
        → (more : List Turn)
        → IsTold (said.Went packet.mark (policy s.controller.state packet))
        (passed_text s.controller.state (policy s.controller.state packet) (trail_of (state_of s.kernel) packet)) n s e more out
        → IsAnsweredLine (line.Trace (trace.Passed link dest)) n s e more out
    passed_line index packet known passed more is = link_line (Some index) known more (inr (packet, passed, is))

    pub loopback_line : (index : ℕ) → link_named s.controller.state link ≡ Some index → index ≡ lo
        → (more : List Turn) → IsRefused code.Invalid n s e more out → IsAnsweredLine (line.Trace (trace.Passed link dest)) n s e more out
    loopback_line index known loopback more is = link_line (Some index) known more (inl (loopback, is))

    pub unpassed_line : link_named s.controller.state link ≡ None
        → (more : List Turn) → IsRefused code.NoDevice n s e more out → IsAnsweredLine (line.Trace (trace.Passed link dest)) n s e more out
    unpassed_line unknown more is = link_line None unknown more is

-- the packet that is watched
pub is_watched : (sockets : Sockets) (o : Option Watch) (watch : Watch) (from : Socket) (packet : Packet) → o ≡ Some watch → socket_of watch.socket sockets ≡ Some from
    → IsMade from.uid from.mark watch.dest from.bound packet → IsWatched sockets o (Some packet)
is_watched sockets o watch from packet some known made =
    subst (λ (w : Option Watch). IsWatched sockets w (Some packet)) (sym some)
    (subst (λ (s : Option Socket). IsSent s watch.dest (Some packet)) (sym known) (packet, made, refl))
