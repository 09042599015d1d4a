-- The sockets by name in the order of their creation, and what each call makes of them, after netd's FwmarkServer. A call that
-- is refused leaves them as they are; no call changes a socket but its own.
use Rattle.std.specs.Prelude.{ℕ, ◌==◌, ◌++◌, Bool, List, [], ◌∷◌, Option, Some, None, Result, Ok, Err, is_some, length, nat_le, if◌then◌else◌}
use Rattle.std.specs.Map.{lookup, set_value, remove_entry}
use Rattle.std.specs.Option.{option_and_then}
use Rattle.std.specs.Str.{bytes_eq}
use Rattle.mark_server.specs.Access.{access}
use Rattle.mark_server.specs.Fields.{Fields, fields_of, word_of}
use Rattle.mark_server.specs.Marks.{connected, accepted, cleared, selected, protected, selected_for}
use Rattle.mark_server.specs.Users.{may_protect, has_system}
use Rattle.mark_server.specs.declared.socket.Socket.{Socket}
use Rattle.net_names.specs.declared.code.Code.{Code}
use Rattle.net_names.specs.declared.code.Code.TheVariants as code
use Rattle.networks.specs.Lists.{find_link}
use Rattle.networks.specs.declared.network.Network.{Network}
use Rattle.policy_state.specs.View.{StateView, link_named}
use Rattle.uid_ranges.specs.declared.range.Uid.{Uid}

-- each with its name
abbrev pub Sockets : Type 0
Sockets = List (List ℕ × Socket)

abbrev pub most_sockets : ℕ
most_sockets = 10000

abbrev pub socket_of : List ℕ → Sockets → Option Socket
socket_of name sockets = lookup (bytes_eq name) sockets

-- What a call makes of a socket, or the code with which it is refused.

abbrev pub SocketCall : Type 0
SocketCall = Socket → Result Socket Code

-- the socket with its mark changed
abbrev pub with_mark : (Fields → Fields) → Socket → Socket
with_mark change socket = record socket { mark = word_of (change (fields_of socket.mark)) }

abbrev pub connecting : StateView → SocketCall
connecting s socket = Ok (with_mark (connected s socket.uid) socket)

-- network 0 is none
abbrev pub selecting : StateView → ℕ → SocketCall
selecting s net socket =
    if net == 0 then Ok (with_mark cleared socket)
    else elim (access s socket.uid net) [ Ok allowed ↦ Ok (with_mark (selected s socket.uid net) socket) | Err refusal ↦ Err refusal ]

abbrev pub protecting : StateView → SocketCall
protecting s socket = if may_protect s socket.uid then Ok (with_mark (protected s socket.uid) socket) else Err code.NotPermitted

abbrev pub selecting_for : StateView → Uid → SocketCall
selecting_for s user socket = if has_system s socket.uid then Ok (with_mark (selected_for s socket.uid user) socket) else Err code.NotPermitted

abbrev pub binding : StateView → List ℕ → SocketCall
binding s link socket = elim (link_named s link) [ Some index ↦ Ok (record socket { bound = Some index }) | None ↦ Err code.NoDevice ]

abbrev pub unbinding : SocketCall
unbinding socket = Ok (record socket { bound = None })

-- A call on the socket of a name.

-- what becomes of the socket
abbrev pub called : List ℕ → SocketCall → Sockets → Result Socket Code
called name call sockets = elim (socket_of name sockets) [ Some socket ↦ call socket | None ↦ Err code.NoEntry ]

abbrev pub mark_in : Result Socket Code → Result ℕ Code
mark_in (Ok socket) = Ok socket.mark
mark_in (Err refusal) = Err refusal

-- the new mark, or the code
abbrev pub answer : List ℕ → SocketCall → Sockets → Result ℕ Code
answer name call sockets = mark_in (called name call sockets)

abbrev pub put_back : List ℕ → Result Socket Code → Sockets → Sockets
put_back name (Ok socket) sockets = set_value (bytes_eq name) sockets socket
put_back name (Err refusal) sockets = sockets

-- the sockets with this one changed, where the call isn't refused
abbrev pub after : List ℕ → SocketCall → Sockets → Sockets
after name call sockets = put_back name (called name call sockets) sockets

-- the socket of this name is closed, where there is one
abbrev pub closing : List ℕ → Sockets → Result (Unit {0}) Code
closing name sockets = elim (socket_of name sockets) [ Some socket ↦ Ok tt | None ↦ Err code.NoEntry ]

-- the sockets without it
abbrev pub closed : List ℕ → Sockets → Sockets
closed name sockets = remove_entry (bytes_eq name) sockets

-- A call that makes a socket.

abbrev pub is_taken : List ℕ → Sockets → Bool
is_taken name sockets = is_some (socket_of name sockets)

abbrev pub is_full : Sockets → Bool
is_full sockets = nat_le most_sockets (length sockets)

abbrev pub opening : List ℕ → Uid → Sockets → Result Socket Code
opening name uid sockets =
    if is_taken name sockets then Err code.Exists
    else if is_full sockets then Err code.NoSpace
    else Ok (record { uid = uid; mark = 0; bound = None })

-- the network of which the link of this name is an interface
abbrev pub network_by : StateView → List ℕ → Option Network
network_by s link = option_and_then (λ index. find_link index s.networks) (link_named s link)

abbrev pub accepting : StateView → List ℕ → Uid → List ℕ → Sockets → Result Socket Code
accepting s name uid link sockets =
    if is_taken name sockets then Err code.Exists
    else elim (network_by s link) [
      | Some n ↦ if is_full sockets then Err code.NoSpace else Ok (record { uid = uid; mark = word_of (accepted s uid n); bound = None })
      | None ↦ Err code.NoDevice
    ]

-- the socket last, where the call isn't refused
abbrev pub put_last : List ℕ → Result Socket Code → Sockets → Sockets
put_last name (Ok socket) sockets = sockets ++ (name, socket) ∷ []
put_last name (Err refusal) sockets = sockets
