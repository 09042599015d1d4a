-- Texts that fit in the room that was taken.
use Rattle.std.proofs.Common.{◌≡◌, ◌∙◌, ℕ, ◌+◌, ◌<◌, ◌≤◌, ◌^◌, List, ◌++◌, length, Result, Ok, Err, IsOk, OnOk, vec_len, vec_capacity, refl, ap, arith, lit<, lit≤, length-append}
use Rattle.std.specs.Fmt.{decimal}
use Rattle.std.specs.declared.alloc.Global.{Global}
use Rattle.std.specs.declared.vec.Vec.{Vec}
use Rattle.number_text.proofs.Spelled.{length-digits-le}
use Rattle.number_text.specs.Appends.{Appends}

-- where there is room for the text the call goes well
pub fits : {T E : Type 0} {old new : Vec ℕ Global} (r : Result T E) (text : List ℕ) (room : ℕ) → Appends old new r text → length text ≤ room
    → vec_len old + room ≤ vec_capacity old → IsOk r
fits (Ok u) text room call short enough = refl
fits (Err e) text room call short enough = absurd (let full = call.full in omega arith)

-- so it did not fail
pub no_room : {T E A : Type 0} {old new : Vec ℕ Global} {error : E} (text : List ℕ) (room : ℕ) → Appends {T = T} old new (Err error) text → length text ≤ room
    → vec_len old + room ≤ vec_capacity old → A
no_room text room call short enough = absurd (let full = call.full in omega arith)

-- the room that is left after a text
pub room_left : {T E : Type 0} {old mid : Vec ℕ Global} {done : T} (text : List ℕ) (more : ℕ) → Appends {E = E} old mid (Ok done) text
    → vec_len old + (length text + more) ≤ vec_capacity old → vec_len mid + more ≤ vec_capacity mid
room_left {T} {E} {old} {mid} text more call enough =
    let grown : length mid.items ≡ length old.items + length text = ap length call.written ∙ length-append old.items text in
    let capacity = call.capacity in omega (arith, grown, old.ok.0, mid.ok.0, enough)

-- said of a call that went well
pub said_ok : {T E P : Type 0} (r : Result T E) → P → OnOk r P
said_ok (Ok u) holds = holds
said_ok (Err e) holds = tt

-- a number of 64 bits has at most 20 digits, one of 32 bits at most 10
pub digits_20 : (n : ℕ) → n < 2 ^ 64 → length (decimal n) ≤ 20
digits_20 n small = length-digits-le 10 20 n (lit≤ tt) (lit< tt) (lit≤ tt) (omega arith)

pub digits_10 : (n : ℕ) → n < 2 ^ 32 → length (decimal n) ≤ 10
digits_10 n small = length-digits-le 10 10 n (lit≤ tt) (lit< tt) (lit≤ tt) (omega arith)

pub then_ok : {T E P Q : Type 0} (r : Result T E) → (P → Q) → OnOk r P → OnOk r Q
then_ok (Ok u) more holds = more holds
then_ok (Err e) more holds = tt

-- a call that went well wrote the text
pub written_ok : {T E : Type 0} {old new : Vec ℕ Global} (r : Result T E) (text : List ℕ) → IsOk r → Appends old new r text → new.items ≡ old.items ++ text
written_ok (Ok u) text went call = call.written
written_ok (Err e) text went call = absurd cc

pub from_ok : {T E P : Type 0} (r : Result T E) → IsOk r → OnOk r P → P
from_ok (Ok u) went holds = holds
from_ok (Err e) went holds = absurd cc
