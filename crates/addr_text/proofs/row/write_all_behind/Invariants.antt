use Rattle.std.proofs.Common.{ℕ, ◌∷◌, take, Ok}
use Rattle.std.specs.List.{flat_map}
use Rattle.std.specs.declared.alloc.AllocError.{AllocError}
use Rattle.number_text.specs.Appends.{Appends}
use Rattle.addr_text.specs.Forms.{part_text, separator_of}
use Rattle.addr_text.proofs.row.write_all_behind.Given as goal

abbrev pub invariant-loop-part : goal.invariant-loop-part
invariant-loop-part l =
    Appends {T = Unit {0}} {E = AllocError} l.initial.out l.out (Ok tt) (flat_map (λ (part : ℕ). separator_of l.form ∷ part_text l.form part) (take l.part-index l.parts))
