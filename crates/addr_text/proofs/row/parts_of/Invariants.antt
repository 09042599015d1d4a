use Rattle.std.proofs.Common.{◌≡◌, ◌-◌, ◌++◌, length}
use Rattle.addr_text.specs.Canonical.{parts_of}
use Rattle.addr_text.specs.Forms.{base_of, count_of}
use Rattle.addr_text.proofs.row.parts_of.Given as goal

-- the digits that are there stand after those of the rest
abbrev pub invariant-loop-done : goal.invariant-loop-done
invariant-loop-done l =
    (length l.parts.items ≡ l._done)
    × (parts_of (base_of l.form) (count_of l.form) l.value ≡ parts_of (base_of l.form) (count_of l.form - l._done) l.rest ++ l.parts.items)
