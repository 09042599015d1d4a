use Rattle.std.proofs.Common.{ℕ, ◌∷◌}
use Rattle.number_text.proofs.Appending.{one_failed}
use Rattle.addr_text.specs.Forms.{part_text, separator_of}
use Rattle.addr_text.proofs.row.write_all_behind.Goals as goal

pub returns-in_err-write_behind : goal.returns-in_err-write_behind
returns-in_err-write_behind c =
    one_failed (λ (part : ℕ). separator_of c.args.form ∷ part_text c.args.form part) c.args.parts.now c.loop-part.part-index 0 c.from_residual.result c.loop-part-test.true
    c.from_residual.ensures.0 c.loop-part.invariant c.in_err-write_behind.ensures
