-- Sockets, as they are printed.
use Rattle.std.specs.Prelude.{ℕ, List, [], ◌∷◌, ◌++◌, codes, flat_map, length, Option, None, Some}
use Rattle.std.specs.Fmt.{decimal}
use Rattle.mark_server.specs.Sockets.{Sockets}
use Rattle.mark_server.specs.declared.socket.Socket.{Socket}
use Rattle.policy_state.specs.View.{StateView}
use Rattle.uid_ranges.specs.declared.range.Uid.{Uid}
use Rattle.word_text.specs.Texts.{line_feed, mark_text}
use Rattle.report_text.specs.Links.{link_text}

-- the link that a socket is bound to, or '-'
abbrev pub bound_text : StateView → Option ℕ → List ℕ
bound_text state None = codes "-"
bound_text state (Some link) = link_text state link

-- whose socket it is
abbrev pub user_text : List ℕ → Uid → List ℕ
user_text name uid = codes "  " ++ name ++ codes " uid " ++ decimal uid.number

-- a line of a socket
abbrev pub line_text : StateView → List ℕ → Socket → List ℕ
line_text state name socket =
    user_text name socket.uid ++ codes " mark " ++ mark_text socket.mark
    ++ codes " bound " ++ bound_text state socket.bound ++ line_feed ∷ []

abbrev pub socket_line : StateView → List ℕ × Socket → List ℕ
socket_line state named = line_text state named.0 named.1

-- how many sockets there are, and each of them in its line
abbrev pub sockets_text : StateView → Sockets → List ℕ
sockets_text state sockets = decimal (length sockets) ++ codes " sockets" ++ line_feed ∷ [] ++ flat_map (socket_line state) sockets
