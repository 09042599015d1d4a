use Rattle.std.proofs.Common.{ℕ, ◌++◌, ap₂}
use Rattle.std.specs.Prelude.{codes}
use Rattle.std.specs.Fmt.{decimal}
use Rattle.number_text.proofs.Appending.{both, rewritten}
use Rattle.turn_text.specs.Texts.{number_line}
use Rattle.turn_text.proofs.texts.write_bad_line.Goals as goal

pub returns : goal.returns
returns c =
    rewritten (ap₂ (λ (n m : ℕ). decimal n ++ codes ": " ++ number_line (codes "bad line at column ") m) c.from.ensures c.from-2.ensures)
    (both _ (both _ c.in_ok-write_decimal.ensures c.in_ok-append_bytes.ensures) c.write_number_line.ensures)
