use Rattle.std.proofs.Common.{◌≡◌, ◌≤◌, ◌++◌, ℕ, List, Ok, Err, codes, false, true, length, arith, lit≤, length-append}
use Rattle.std.specs.Fmt.{decimal}
use Rattle.number_text.proofs.Appending.{both}
use Rattle.report_text.specs.Verdicts.{verdict_text}
use Rattle.turn_text.specs.Texts.{line_feed}
use Rattle.netd_session.proofs.Rooms.{digits_20, fits, no_room, room_left, said_ok}
use Rattle.netd_session.specs.Watches.{change_text}
use Rattle.netd_session.proofs.watch.write_change.Goals as goal

-- the text before the verdict
abbrev number_part : ℕ → List ℕ
number_part request = codes "request " ++ decimal request

abbrev front : ℕ → List ℕ
front request = number_part request ++ codes " "

number_length : (request : ℕ) → length (decimal request) ≤ 20 → length (number_part request) ≤ 28
number_length request few = omega (arith, length-append (codes "request ") (decimal request), few)

front_length : (request : ℕ) → length (decimal request) ≤ 20 → length (front request) ≤ 29
front_length request few = omega (arith, length-append (number_part request) (codes " "), number_length request few)

whole_length : (request : ℕ) (verdict : List ℕ) → length (decimal request) ≤ 20 → length verdict ≤ 64 → length (front request ++ verdict ++ line_feed) ≤ 94
whole_length request verdict few short =
    omega (arith, length-append (front request ++ verdict) line_feed, length-append (front request) verdict, front_length request few, short)

pub returns-in_err-append_bytes-clause-room : goal.returns-in_err-append_bytes-clause-room
returns-in_err-append_bytes-clause-room c = λ enough. no_room (codes "request ") 94 c.in_err-append_bytes.ensures (lit≤ tt) enough

pub returns-in_err-write_decimal-clause-room : goal.returns-in_err-write_decimal-clause-room
returns-in_err-write_decimal-clause-room c =
    λ enough. no_room (number_part c.args.request) 94 (both (Err c.in_err-write_decimal.field-0.0) c.in_ok-append_bytes.ensures c.in_err-write_decimal.ensures)
    (omega (arith, number_length c.args.request (digits_20 c.args.request (omega arith)))) enough

pub returns-in_err-append_bytes-2-clause-room : goal.returns-in_err-append_bytes-2-clause-room
returns-in_err-append_bytes-2-clause-room c =
    λ enough. no_room (front c.args.request) 94
    (both (Err c.in_err-append_bytes-2.field-0.0) (both (Ok tt) c.in_ok-append_bytes.ensures c.in_ok-write_decimal.ensures) c.in_err-append_bytes-2.ensures)
    (omega (arith, front_length c.args.request (digits_20 c.args.request (omega arith)))) enough

pub returns-in_err-write_verdict-clause-room : goal.returns-in_err-write_verdict-clause-room
returns-in_err-write_verdict-clause-room c =
    λ enough.
    let before = both (Ok tt) (both (Ok tt) c.in_ok-append_bytes.ensures c.in_ok-write_decimal.ensures) c.in_ok-append_bytes-2.ensures in
    let left = room_left (front c.args.request) 64 before (omega (arith, front_length c.args.request (digits_20 c.args.request (omega arith)), enough)) in
    let no : false ≡ true = c.in_err-write_verdict.ensures.room left in absurd cc

pub returns-clause-text : goal.returns-clause-text
returns-clause-text c =
    let before = both (Ok tt) (both (Ok tt) c.in_ok-append_bytes.ensures c.in_ok-write_decimal.ensures) c.in_ok-append_bytes-2.ensures in
    both c.append_bytes-3.result (both (Ok tt) before c.in_ok-write_verdict.ensures.text) c.append_bytes-3.ensures

pub returns-clause-short : goal.returns-clause-short
returns-clause-short c =
    said_ok c.append_bytes-3.result
    (whole_length c.args.request (verdict_text c.args.state.now c.args.verdict.now) (digits_20 c.args.request (omega arith)) c.in_ok-write_verdict.ensures.short)

pub returns-clause-room : goal.returns-clause-room
returns-clause-room c =
    λ enough.
    let before = both (Ok tt) (both (Ok tt) c.in_ok-append_bytes.ensures c.in_ok-write_decimal.ensures) c.in_ok-append_bytes-2.ensures in
    fits c.append_bytes-3.result (change_text c.args.state.now c.args.request c.args.verdict.now) 94
    (both c.append_bytes-3.result (both (Ok tt) before c.in_ok-write_verdict.ensures.text) c.append_bytes-3.ensures)
    (whole_length c.args.request (verdict_text c.args.state.now c.args.verdict.now) (digits_20 c.args.request (omega arith)) c.in_ok-write_verdict.ensures.short) enough
