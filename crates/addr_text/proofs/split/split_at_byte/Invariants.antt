use Rattle.std.proofs.Common.{◌≡◌, false, take}
use Rattle.addr_text.specs.Forms.{has_byte}
use Rattle.addr_text.proofs.split.split_at_byte.Given as goal

abbrev pub invariant-loop-place : goal.invariant-loop-place
invariant-loop-place l = has_byte l.byte (take l.place l.text) ≡ false
