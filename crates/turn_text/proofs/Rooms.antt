-- Room for the answer to any command, and for the text of a start that failed.
use Rattle.std.proofs.Common.{◌≡◌, ℕ, ◌+◌, ◌<◌, ◌≤◌, ◌^◌, List, ◌++◌, length, Result, Ok, Err, arith, lit<, lit≤, length-append}
use Rattle.std.specs.Prelude.{codes}
use Rattle.std.specs.Fmt.{decimal}
use Rattle.std.specs.Vec.{vec_len, vec_capacity}
use Rattle.std.specs.declared.vec.Vec.{Vec}
use Rattle.std.specs.declared.alloc.Global.{Global}
use Rattle.number_text.specs.Appends.{Appends}
use Rattle.number_text.proofs.Spelled.{length-digits-le}
use Rattle.net_names.specs.Code.{text_of}
use Rattle.net_names.specs.declared.code.Code.{Code}
use Rattle.net_names.specs.declared.code.Code.TheVariants.{Invalid, Exists, NoNetwork, NoDevice, NoEntry, Busy, NotPermitted, AccessDenied, NoSpace, NoRoute}
use Rattle.turn_text.specs.declared.answer.Answer.{Answer}
use Rattle.turn_text.specs.declared.answer.Answer.TheVariants as answer
use Rattle.turn_text.specs.Texts.{numbered, answer_text, number_line, line_feed, IsCounted, answer_room}

-- a text that fits in the room that is there is written
pub in_room : {T E : Type 0} (old new : Vec ℕ Global) (r : Result T E) (text : List ℕ) (room : ℕ)
    → Appends old new r text → length text ≤ room → vec_len old + room ≤ vec_capacity old → new.items ≡ old.items ++ text
in_room old new (Ok u) text room written short fits = written.written
in_room old new (Err e) text room written short fits = absurd (let full = written.full in omega arith)

-- a number of 64 bits has at most 20 digits
digits : (n : ℕ) → n < 2 ^ 64 → length (decimal n) ≤ 20
digits n small = length-digits-le 10 20 n (lit≤ tt) (lit< tt) (lit≤ tt) (omega arith)

code_length : (c : Code) → length (text_of c) ≤ 6
code_length Invalid = lit≤ tt
code_length Exists = lit≤ tt
code_length NoNetwork = lit≤ tt
code_length NoDevice = lit≤ tt
code_length NoEntry = lit≤ tt
code_length Busy = lit≤ tt
code_length NotPermitted = lit≤ tt
code_length AccessDenied = lit≤ tt
code_length NoSpace = lit≤ tt
code_length NoRoute = lit≤ tt

pub line_length : (words : List ℕ) (n : ℕ) → length words ≤ 26 → n < 2 ^ 64 → length (number_line words n) ≤ 47
line_length words n few small = omega (arith, length-append (words ++ decimal n) line_feed, length-append words (decimal n), digits n small)

text_length : (a : Answer) → IsCounted a → length (answer_text a) ≤ 47
text_length answer.Done counted = lit≤ tt
text_length (answer.Refused c) counted = omega (arith, length-append (text_of c) line_feed, code_length c)
text_length (answer.KernelRefused request) counted = line_length (codes "kernel refused request ") request (lit≤ tt) counted
text_length (answer.Halted request) counted = line_length (codes "halted at request ") request (lit≤ tt) counted

pub answer_length : (n : ℕ) (a : Answer) → n < 2 ^ 64 → IsCounted a → length (numbered n (answer_text a)) ≤ answer_room
answer_length n a small counted =
    omega (arith, length-append (decimal n ++ codes ": ") (answer_text a), length-append (decimal n) (codes ": "), digits n small, text_length a counted)
