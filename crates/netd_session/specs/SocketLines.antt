-- What a socket's line says, and what it changes. No such line asks the kernel anything or changes the policy's state.
use Rattle.std.specs.Prelude.{ℕ, List, ◌++◌, codes, Result, Ok, Err}
use Rattle.std.specs.declared.alloc.AllocError.{AllocError}
use Rattle.mark_server.specs.Access.{access}
use Rattle.mark_server.specs.Sockets.{Sockets, accepting, after, answer, binding, closed, closing, connecting, mark_in, opening, protecting, put_last, selecting, selecting_for, unbinding}
use Rattle.mark_server.specs.declared.fault.SocketFault.{SocketFault}
use Rattle.mark_server.specs.declared.fault.SocketFault.TheVariants as fault
use Rattle.net_names.specs.declared.code.Code.{Code}
use Rattle.script_reader.specs.declared.line.SocketLine.{SocketLine}
use Rattle.script_reader.specs.declared.line.SocketLine.TheVariants as socket
use Rattle.turn_text.specs.Texts.{line_feed, refused_text}
use Rattle.turn_text.specs.declared.answer.Answer.TheVariants as became
use Rattle.word_text.specs.Texts.{mark_text}
use Rattle.netd_session.specs.Told.{IsDone, IsRefused, IsTold}
use Rattle.netd_session.specs.Turns.{Standing}
use Rattle.netd_session.specs.Watches.{watch_without}
use Rattle.netd_session.specs.declared.turn.Said.{Said}
use Rattle.netd_session.specs.declared.turn.Said.TheVariants as said
use Rattle.netd_session.specs.declared.turn.Turn.{Turn}

-- the new mark of a socket
abbrev pub mark_line : ℕ → List ℕ
mark_line mark = codes "mark " ++ mark_text mark ++ line_feed

-- what a call made of a socket: its new mark, or why it is refused
abbrev pub said_of_mark : Result ℕ Code → Said
said_of_mark (Ok mark) = said.Marked mark
said_of_mark (Err c) = said.Answered (became.Refused c)

abbrev pub text_of_mark : Result ℕ Code → List ℕ
text_of_mark (Ok mark) = mark_line mark
text_of_mark (Err c) = refused_text c

-- what a call that makes a socket tells: its mark or a code, where there was memory
abbrev pub told_of_opening : Result ℕ SocketFault → Result (Result ℕ Code) AllocError
told_of_opening (Ok mark) = Ok (Ok mark)
told_of_opening (Err (fault.Refused c)) = Ok (Err c)
told_of_opening (Err (fault.Memory e)) = Err e

-- a call, by what it answers and by the sockets after it, which are those before it where it is refused
abbrev pub IsMarked : Result ℕ Code → Sockets → ℕ → (s e : Standing) → List Turn → List ℕ → Type 0
IsMarked made sockets n s e turns out =
    IsTold (said_of_mark made) (text_of_mark made) n (record s { sockets = sockets }) e turns out

-- A socket that is there is closed, which ends its watch.
abbrev pub IsClosed : Result (Unit {0}) Code → List ℕ → ℕ → (s e : Standing) → List Turn → List ℕ → Type 0
IsClosed (Err c) name n s e turns out = IsRefused c n s e turns out
IsClosed (Ok u) name n s e turns out =
    IsDone n (record s { sockets = closed name s.sockets; watch = watch_without name s.watch }) e turns out

-- whether a user may use a network
abbrev pub IsAllowed : Result (Unit {0}) Code → ℕ → (s e : Standing) → List Turn → List ℕ → Type 0
IsAllowed (Ok u) n s e turns out = IsDone n s e turns out
IsAllowed (Err c) n s e turns out = IsRefused c n s e turns out

abbrev pub IsSocketLine : SocketLine → ℕ → (s e : Standing) → List Turn → List ℕ → Type 0
IsSocketLine (socket.Open name uid) n s e turns out =
    IsMarked (mark_in (opening name uid s.sockets))
    (put_last name (opening name uid s.sockets) s.sockets) n s e turns out
IsSocketLine (socket.Accept name uid link) n s e turns out =
    IsMarked (mark_in (accepting s.controller.state name uid link s.sockets))
    (put_last name (accepting s.controller.state name uid link s.sockets) s.sockets) n s e turns out
IsSocketLine (socket.Close name) n s e turns out =
    IsClosed (closing name s.sockets) name n s e turns out
IsSocketLine (socket.Bind name link) n s e turns out =
    IsMarked (answer name (binding s.controller.state link) s.sockets)
    (after name (binding s.controller.state link) s.sockets) n s e turns out
IsSocketLine (socket.Unbind name) n s e turns out =
    IsMarked (answer name unbinding s.sockets) (after name unbinding s.sockets) n s e turns out
IsSocketLine (socket.Connect name) n s e turns out =
    IsMarked (answer name (connecting s.controller.state) s.sockets)
    (after name (connecting s.controller.state) s.sockets) n s e turns out
IsSocketLine (socket.Select name net) n s e turns out =
    IsMarked (answer name (selecting s.controller.state net) s.sockets)
    (after name (selecting s.controller.state net) s.sockets) n s e turns out
IsSocketLine (socket.Protect name) n s e turns out =
    IsMarked (answer name (protecting s.controller.state) s.sockets)
    (after name (protecting s.controller.state) s.sockets) n s e turns out
IsSocketLine (socket.SelectFor name user) n s e turns out =
    IsMarked (answer name (selecting_for s.controller.state user) s.sockets)
    (after name (selecting_for s.controller.state user) s.sockets) n s e turns out
IsSocketLine (socket.Access uid net) n s e turns out =
    IsAllowed (access s.controller.state uid net) n s e turns out
