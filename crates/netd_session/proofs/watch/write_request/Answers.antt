use Rattle.std.proofs.Common.{◌≤◌, ◌++◌, ℕ, List, Ok, Err, codes, length, ap, arith, length-append}
use Rattle.std.specs.Fmt.{decimal}
use Rattle.number_text.proofs.Appending.{both, rewritten}
use Rattle.netd_session.proofs.Rooms.{digits_10, no_room, room_left, then_ok}
use Rattle.netd_session.specs.Watches.{change_text, request_room}
use Rattle.netd_session.proofs.watch.write_request.Goals as goal

abbrev front : ℕ → List ℕ
front number = decimal number ++ codes ": "

front_length : (number : ℕ) → length (decimal number) ≤ 10 → length (front number) ≤ 12
front_length number few = omega (arith, length-append (decimal number) (codes ": "), few)

whole_length : (number : ℕ) (change : List ℕ) → length (decimal number) ≤ 10 → length change ≤ 94 → length (front number ++ change) ≤ request_room
whole_length number change few short = omega (arith, length-append (front number) change, front_length number few, short)

pub returns-in_err-write_decimal-clause-room : goal.returns-in_err-write_decimal-clause-room
returns-in_err-write_decimal-clause-room c =
    λ enough. no_room (decimal c.args.number) request_room (rewritten (ap decimal c.from.ensures) c.in_err-write_decimal.ensures)
    (omega (arith, digits_10 c.args.number (omega arith))) enough

pub returns-in_err-append_bytes-clause-room : goal.returns-in_err-append_bytes-clause-room
returns-in_err-append_bytes-clause-room c =
    λ enough. no_room (front c.args.number) request_room
    (both (Err c.in_err-append_bytes.field-0.0) (rewritten (ap decimal c.from.ensures) c.in_ok-write_decimal.ensures) c.in_err-append_bytes.ensures)
    (omega (arith, front_length c.args.number (digits_10 c.args.number (omega arith)))) enough

pub returns-clause-text : goal.returns-clause-text
returns-clause-text c =
    both c.write_change.result (both (Ok tt) (rewritten (ap decimal c.from.ensures) c.in_ok-write_decimal.ensures) c.in_ok-append_bytes.ensures) c.write_change.ensures.text

pub returns-clause-short : goal.returns-clause-short
returns-clause-short c =
    then_ok c.write_change.result
    (λ short. whole_length c.args.number (change_text c.args.state.now c.args.request c.args.verdict.now) (digits_10 c.args.number (omega arith)) short)
    c.write_change.ensures.short

pub returns-clause-room : goal.returns-clause-room
returns-clause-room c =
    λ enough.
    c.write_change.ensures.room
    (room_left (front c.args.number) 94 (both (Ok tt) (rewritten (ap decimal c.from.ensures) c.in_ok-write_decimal.ensures) c.in_ok-append_bytes.ensures)
    (omega (arith, front_length c.args.number (digits_10 c.args.number (omega arith)), enough)))
