-- What is watched, and what is said of it while a command is carried out.
use Rattle.std.specs.Prelude.{◌≡◌, ℕ, zero, suc, ◌+◌, ◌-◌, List, [], ◌++◌, codes, flat_map, length, Option, None, Some, if◌then◌else◌}
use Rattle.std.specs.Fmt.{decimal}
use Rattle.std.specs.Str.{bytes_eq}
use Rattle.kernel_model.specs.Moments.{moment}
use Rattle.kernel_model.specs.View.{KernelView}
use Rattle.kernel_model.specs.Walk.{walk}
use Rattle.kernel_model.specs.declared.request.Entry.{Entry}
use Rattle.mark_server.specs.Sockets.{Sockets, socket_of}
use Rattle.mark_server.specs.declared.socket.Socket.{Socket}
use Rattle.policy_state.specs.View.{StateView}
use Rattle.prefixes.specs.declared.addr.Addr.{Addr}
use Rattle.report_text.specs.Verdicts.{verdict_text}
use Rattle.rule_match.specs.Packet.{IsMade}
use Rattle.rule_match.specs.Verdict.{same_verdict}
use Rattle.rule_match.specs.declared.packet.Packet.{Packet}
use Rattle.rule_match.specs.declared.verdict.Verdict.{Verdict}
use Rattle.turn_text.specs.Texts.{line_feed, numbered}
use Rattle.netd_session.specs.declared.watch.Watch.{Watch}

-- the packet that a socket sends to an address, with its mark and its binding as they are now
abbrev pub IsSent : Option Socket → Addr → Option Packet → Type 0
IsSent None dest packet = packet ≡ None
IsSent (Some socket) dest packet =
    (p : Packet) × IsMade socket.uid socket.mark dest socket.bound p × (packet ≡ Some p)

-- the packet that is watched: none, or what the watched socket sends to the watch's destination
abbrev pub IsWatched : Sockets → Option Watch → Option Packet → Type 0
IsWatched sockets None packet = packet ≡ None
IsWatched sockets (Some watch) packet = IsSent (socket_of watch.socket sockets) watch.dest packet

-- the watch once the socket of this name is closed
abbrev pub watch_without : List ℕ → Option Watch → Option Watch
watch_without name None = None
watch_without name (Some watch) = if bytes_eq watch.socket name then None else Some watch

-- a request, by its number, and where the watched packet goes after it
abbrev pub change_text : StateView → ℕ → Verdict → List ℕ
change_text state request verdict =
    codes "request " ++ decimal request ++ codes " " ++ verdict_text state verdict ++ line_feed

abbrev pub request_text : ℕ → StateView → ℕ → Verdict → List ℕ
request_text n state request verdict = numbered n (change_text state request verdict)

-- What is said of the request after the first r entries of a journal: nothing, or where the packet goes after it, if that
-- is another way than just before.
abbrev pub said_of_request : ℕ → StateView → Packet → List Entry → ℕ → List ℕ
said_of_request n state packet journal r =
    if same_verdict (walk (moment journal r) packet) (walk (moment journal (r + 1)) packet) then []
    else request_text n state (r + 1) (walk (moment journal (r + 1)) packet)

-- of so many requests after the first r entries
abbrev pub said_of_requests : ℕ → StateView → Packet → List Entry → (r count : ℕ) → List ℕ
said_of_requests n state packet journal r zero = []
said_of_requests n state packet journal r (suc count) =
    said_of_request n state packet journal r ++ said_of_requests n state packet journal (r + 1) count

-- of the requests that a kernel was asked between two moments, where this packet is watched, or none
abbrev pub requests_text : ℕ → StateView → Option Packet → (before after : KernelView) → List ℕ
requests_text n state None before after = []
requests_text n state (Some packet) before after =
    said_of_requests n state packet after.journal (length before.journal) (length after.journal - length before.journal)

-- the requests that were noted, with the verdict after each
abbrev pub noted_text : ℕ → StateView → List (ℕ × Verdict) → List ℕ
noted_text n state changes = flat_map (λ (change : ℕ × Verdict). request_text n state change.0 change.1) changes

-- room for what is said of one request
abbrev pub request_room : ℕ
request_room = 106
