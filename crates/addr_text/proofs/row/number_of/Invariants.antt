use Rattle.std.proofs.Common.{◌≡◌, take}
use Rattle.std.specs.Int.Digits.{number_from_digits}
use Rattle.addr_text.specs.Forms.{base_of}
use Rattle.addr_text.proofs.row.number_of.Given as goal

abbrev pub invariant-loop-part : goal.invariant-loop-part
invariant-loop-part l = l.number ≡ number_from_digits (base_of l.form) (take l.part-index l.parts)
