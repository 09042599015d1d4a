-- What a line's answer says, and what it changes.
use Rattle.std.specs.Prelude.{◌≡◌, ◌⊎◌, ℕ, List, [], ◌∷◌, ◌++◌, codes, Option, None, Some, Ok}
use Rattle.kernel_model.specs.Form.{AreWellFormed}
use Rattle.kernel_model.specs.State.{KernelState, rules_of, routes_of}
use Rattle.kernel_model.specs.View.{state_of}
use Rattle.kernel_model.specs.Walk.{trail_of}
use Rattle.kernel_model.specs.declared.step.Step.{Step}
use Rattle.mark_server.specs.Sockets.{Sockets, socket_of}
use Rattle.mark_server.specs.declared.socket.Socket.{Socket}
use Rattle.net_control.specs.Applied.{IsAnswered}
use Rattle.net_control.specs.Bounds.{KeepsLimit}
use Rattle.net_control.specs.Causes.{HasCause}
use Rattle.net_control.specs.Moments.{GoesOnce, IsAsBefore, KeepsLockdown, KeepsPolicy}
use Rattle.net_names.specs.declared.code.Code.TheVariants as code
use Rattle.policy_meaning.specs.Policy.{policy}
use Rattle.policy_state.specs.Step.{changed}
use Rattle.policy_state.specs.View.{StateView, link_named}
use Rattle.commands.specs.declared.command.Command.{Command}
use Rattle.prefixes.specs.declared.addr.Addr.{Addr}
use Rattle.report_text.specs.NetworkTexts.{networks_text}
use Rattle.report_text.specs.RouteTexts.{routes_text}
use Rattle.report_text.specs.RuleTexts.{rules_text}
use Rattle.report_text.specs.SocketTexts.{sockets_text}
use Rattle.report_text.specs.Trails.{trail_text}
use Rattle.report_text.specs.Verdicts.{verdict_text}
use Rattle.rule_match.specs.Packet.{IsMade, IsPassed, lo}
use Rattle.rule_match.specs.declared.packet.Packet.{Packet}
use Rattle.rule_match.specs.declared.verdict.Verdict.{Verdict}
use Rattle.word_text.specs.Texts.{mark_text}
use Rattle.script_reader.specs.declared.line.Line.{Line}
use Rattle.script_reader.specs.declared.line.Line.TheVariants as line
use Rattle.script_reader.specs.declared.line.ShowLine.{ShowLine}
use Rattle.script_reader.specs.declared.line.ShowLine.TheVariants as show
use Rattle.script_reader.specs.declared.line.TraceLine.TheVariants as trace
use Rattle.turn_text.specs.Texts.{answer_text, line_feed, numbered}
use Rattle.turn_text.specs.declared.answer.Answer.{Answer}
use Rattle.uid_ranges.specs.declared.range.Uid.{Uid}
use Rattle.netd_session.specs.SocketLines.{IsSocketLine}
use Rattle.netd_session.specs.Told.{IsDone, IsRefused, IsTold}
use Rattle.netd_session.specs.Turns.{Standing, turn_of}
use Rattle.netd_session.specs.Watches.{IsWatched, requests_text}
use Rattle.netd_session.specs.declared.answer.Telling.{Telling}
use Rattle.netd_session.specs.declared.answer.Telling.TheVariants as telling
use Rattle.netd_session.specs.declared.turn.Said.TheVariants as said
use Rattle.netd_session.specs.declared.turn.Turn.{Turn}
use Rattle.netd_session.specs.declared.watch.Watch.{Watch}

-- a blank line has no turn and changes nothing
abbrev pub IsPassedOver : (s e : Standing) → List Turn → List ℕ → Type 0
IsPassedOver s e turns out = (e ≡ s) × (turns ≡ []) × (out ≡ [])

-- A command is answered by the controller, each answer by its cause. At every moment of it packets go where the policy
-- before or after it says, and lockdown holds. Before the answer stands what is said of the watched packet. No command
-- touches a socket or the watch.
pub record IsCommanded (command : Command) (n : ℕ) (s e : Standing) (turns : List Turn)
    (out : List ℕ) : Type 0 where
  pub a : Answer
  pub answered : IsAnswered (Ok a) command s.controller e.controller s.kernel e.kernel
  pub turns_are : turns ≡ turn_of n (said.Answered a) e ∷ []
  pub packet : Option Packet
  pub watched : IsWatched s.sockets s.watch packet
  pub text : out ≡ requests_text n e.controller.state packet s.kernel e.kernel
      ++ numbered n (answer_text a)
  pub sockets_stay : e.sockets ≡ s.sockets
  pub watch_stays : e.watch ≡ s.watch
  pub caused : HasCause (Ok a) command s.controller e.controller s.kernel e.kernel
  pub bounded : KeepsLimit s.controller.state command s.kernel e.kernel
  pub formed : AreWellFormed s.kernel.journal → AreWellFormed e.kernel.journal
  pub moments : KeepsPolicy s.kernel e.kernel s.controller.state
      (changed s.controller.state command)
  pub locked : KeepsLockdown s.kernel e.kernel s.controller.state
      (changed s.controller.state command)
  -- one switch where nothing was undone, and the very kernel after a refusal by it
  pub once : GoesOnce s.kernel e.kernel s.controller.state (changed s.controller.state command)
  pub as_before : IsAsBefore (Ok a) s.kernel e.kernel

-- what there is, as a question asks for it
abbrev pub shown_text : ShowLine → StateView → Sockets → KernelState → List ℕ
shown_text (show.Rules family) state sockets kernel = rules_text state (rules_of kernel family)
shown_text (show.Table number) state sockets kernel = routes_text state (routes_of number kernel.tables)
shown_text show.Networks state sockets kernel = networks_text state
shown_text show.Sockets state sockets kernel = sockets_text state sockets

-- a question is answered by what there is, and changes nothing
abbrev pub IsShown : ShowLine → ℕ → (s e : Standing) → List Turn → List ℕ → Type 0
IsShown question n s e turns out =
    IsTold said.Shown (shown_text question s.controller.state s.sockets (state_of s.kernel)) n s e turns
    out

-- where a packet with this mark goes
abbrev pub watch_text : StateView → ℕ → Verdict → List ℕ
watch_text state mark verdict =
    codes "mark " ++ mark_text mark ++ codes " " ++ verdict_text state verdict ++ line_feed

-- and the rules that it meets on the way
abbrev pub went_text : StateView → ℕ → Verdict → List Step → List ℕ
went_text state mark verdict trail = watch_text state mark verdict ++ trail_text trail

-- where a packet goes that is passed on, and the rules that it meets on the way
abbrev pub passed_text : StateView → Verdict → List Step → List ℕ
passed_text state verdict trail = verdict_text state verdict ++ line_feed ++ trail_text trail

-- what is told of a packet
abbrev pub told_text : Telling → StateView → ℕ → Verdict → List Step → List ℕ
told_text telling.Way state mark verdict trail = went_text state mark verdict trail
told_text telling.PassedWay state mark verdict trail = passed_text state verdict trail
told_text telling.Verdict state mark verdict trail = watch_text state mark verdict

-- a packet's line says where the policy sends it, and prints the rules that it meets on the way
abbrev pub IsTraced : Packet → ℕ → (s e : Standing) → List Turn → List ℕ → Type 0
IsTraced packet n s e turns out =
    IsTold (said.Went packet.mark (policy s.controller.state packet))
    (went_text s.controller.state packet.mark (policy s.controller.state packet)
    (trail_of (state_of s.kernel) packet)) n s e turns out

-- the packet that is made with this binding is traced
abbrev pub IsMadeAndTraced : Uid → ℕ → Addr → Option ℕ → ℕ → (s e : Standing) → List Turn → List ℕ
    → Type 0
IsMadeAndTraced uid mark dest bound n s e turns out = (packet : Packet)
    × IsMade uid mark dest bound packet × IsTraced packet n s e turns out

-- a packet that is bound to the link of a name; a name that no link has is refused
abbrev pub IsBoundAndTraced : Uid → ℕ → Addr → Option ℕ → ℕ → (s e : Standing) → List Turn → List ℕ
    → Type 0
IsBoundAndTraced uid mark dest (Some link) n s e turns out = IsMadeAndTraced uid mark dest
    (Some link) n s e turns out
IsBoundAndTraced uid mark dest None n s e turns out = IsRefused code.NoDevice n s e turns out

-- what a packet's line says: the packet is bound to no link, or to the one of this name
abbrev pub IsPacketLine : Uid → ℕ → Addr → Option (List ℕ) → ℕ → (s e : Standing) → List Turn
    → List ℕ → Type 0
IsPacketLine uid mark dest None n s e turns out = IsMadeAndTraced uid mark dest None n s e turns out
IsPacketLine uid mark dest (Some name) n s e turns out = IsBoundAndTraced uid mark dest
    (link_named s.controller.state name) n s e turns out

-- what a socket sends to an address; a name that no socket has is refused
abbrev pub IsSentAndTraced : Option Socket → Addr → ℕ → (s e : Standing) → List Turn → List ℕ → Type 0
IsSentAndTraced None dest n s e turns out = IsRefused code.NoEntry n s e turns out
IsSentAndTraced (Some socket) dest n s e turns out =
    IsMadeAndTraced socket.uid socket.mark dest socket.bound n s e turns out

-- A packet that came by a link and is passed on. One that came by `lo` is refused, and then a name that no link has.
abbrev pub IsPassedAndTraced : Option ℕ → Addr → ℕ → (s e : Standing) → List Turn → List ℕ → Type 0
IsPassedAndTraced None dest n s e turns out = IsRefused code.NoDevice n s e turns out
IsPassedAndTraced (Some link) dest n s e turns out =
    ((link ≡ lo) × IsRefused code.Invalid n s e turns out)
    ⊎ ((packet : Packet) × IsPassed link dest packet
    × IsTold (said.Went packet.mark (policy s.controller.state packet))
    (passed_text s.controller.state (policy s.controller.state packet)
    (trail_of (state_of s.kernel) packet)) n s e turns out)

-- What a socket sends to an address is watched from now on, in place of what was; a name that no socket has is refused,
-- and then what was watched still is.
abbrev pub IsNowWatched : Option Socket → Watch → ℕ → (s e : Standing) → List Turn → List ℕ → Type 0
IsNowWatched None watch n s e turns out = IsRefused code.NoEntry n s e turns out
IsNowWatched (Some socket) watch n s e turns out =
    (packet : Packet) × IsMade socket.uid socket.mark watch.dest socket.bound packet
    × IsTold (said.Went packet.mark (policy s.controller.state packet))
    (watch_text s.controller.state packet.mark (policy s.controller.state packet)) n
    (record s { watch = Some watch }) e turns out

-- what the line says, and what it changes
abbrev pub IsAnsweredLine : Line → ℕ → (s e : Standing) → List Turn → List ℕ → Type 0
IsAnsweredLine line.Blank n s e turns out = IsPassedOver s e turns out
IsAnsweredLine (line.Control command) n s e turns out = IsCommanded command n s e turns out
IsAnsweredLine (line.Trace (trace.Made uid mark dest link)) n s e turns out = IsPacketLine uid mark
    dest link n s e turns out
IsAnsweredLine (line.Trace (trace.Trace name dest)) n s e turns out =
    IsSentAndTraced (socket_of name s.sockets) dest n s e turns out
IsAnsweredLine (line.Trace (trace.Passed link dest)) n s e turns out =
    IsPassedAndTraced (link_named s.controller.state link) dest n s e turns out
IsAnsweredLine (line.Trace (trace.Watch name dest)) n s e turns out =
    IsNowWatched (socket_of name s.sockets) (record { socket = name; dest = dest }) n s e turns out
IsAnsweredLine (line.Trace trace.WatchOff) n s e turns out =
    IsDone n (record s { watch = None }) e turns out
IsAnsweredLine (line.Socket call) n s e turns out = IsSocketLine call n s e turns out
IsAnsweredLine (line.Show question) n s e turns out = IsShown question n s e turns out
