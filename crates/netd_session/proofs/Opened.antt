-- A call that makes a socket: what it made, and the line that tells it.
use Rattle.std.proofs.Common.{arith, ◌≡◌, ◌∙◌, ◌↔◌, ℕ, List, Result, Ok, Err, OnOk, OnErr, IfOk, refl, sym, subst, ap}
use Rattle.std.proofs.lemmas.Grind.{common_steps}
use Rattle.mark_server.specs.Sockets.{Sockets, mark_in, put_last}
use Rattle.mark_server.specs.declared.fault.SocketFault.{SocketFault}
use Rattle.mark_server.specs.declared.fault.SocketFault.TheVariants as fault
use Rattle.mark_server.specs.declared.socket.Socket.{Socket}
use Rattle.net_names.specs.declared.code.Code.{Code}
use Rattle.netd_session.specs.SocketLines.{IsMarked, said_of_mark, text_of_mark, told_of_opening}
use Rattle.netd_session.specs.Told.{IsTold}
use Rattle.netd_session.specs.Turns.{Standing}
use Rattle.netd_session.specs.declared.turn.Turn.{Turn}

-- where there was memory, the mark or the code is that of the socket that was to be made, and the sockets are those with it
pub opened : (answer : Result ℕ SocketFault) (made : Result ℕ Code) (model : Result Socket Code) (name : List ℕ) (old new : Sockets)
    → Ok made ≡ told_of_opening answer
    → OnOk answer (new ≡ put_last name model old) → IfOk answer (λ mark. mark_in model ≡ Ok mark)
    → OnErr answer (new ≡ old) → ((code : Code) → (answer ≡ Err (fault.Refused code)) ↔ (model ≡ Err code))
    → (made ≡ mark_in model) × (new ≡ put_last name model old)
opened (Ok mark) made model name old new is put marked kept refused = (grind (arith, common_steps), put)
opened (Err (fault.Refused code)) made model name old new is put marked kept refused =
    let none : model ≡ Err code = (refused code).0 refl in
    (grind (arith, common_steps), kept ∙ ap (λ (m : Result Socket Code). put_last name m old) (sym none))
opened (Err (fault.Memory none)) made model name old new is put marked kept refused = absurd (grind (arith, common_steps))

-- the line that tells what was made
pub opened_line : (made : Result ℕ Code) (model : Result Socket Code) (name : List ℕ) (n : ℕ) (s e : Standing) (more : List Turn) (out : List ℕ)
    → made ≡ mark_in model
    → IsTold (said_of_mark made) (text_of_mark made) n (record s { sockets = put_last name model s.sockets }) e more out
    → IsMarked (mark_in model) (put_last name model s.sockets) n s e more out
opened_line made model name n s e more out is told =
    subst (λ (r : Result ℕ Code). IsMarked r (put_last name model s.sockets) n s e more out) is told
