use Rattle.std.proofs.Common.{◌≡◌, ◌≤◌, take}
use Rattle.std.specs.Str.Parse.{AllDigits, digits_value}
use Rattle.number_text.proofs.read.read_digits.Given as goal

-- what has been read of the text are digits, and the number so far is theirs
abbrev pub invariant-loop-byte : goal.invariant-loop-byte
invariant-loop-byte l =
    AllDigits l.base (take l.byte-index l.text) × (l.number ≡ digits_value l.base (take l.byte-index l.text)) × (l.number ≤ l.max)
