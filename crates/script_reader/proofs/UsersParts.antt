-- The parts of a line that gives a VPN users at rank 0.
use Rattle.std.proofs.Common.{◌≡◌, ℕ, Bor, List, Some, refl}
use Rattle.commands.specs.declared.command.Command.TheVariants as command
use Rattle.script_reader.specs.Parts.{IsPartsOf}
use Rattle.script_reader.specs.declared.form.Form.TheVariants as form
use Rattle.script_reader.specs.declared.line.Line.TheVariants as line
use Rattle.uid_ranges.specs.declared.range.UidRange.{UidRange}
use Rattle.word_text.specs.Slots.{nothing}
use Rattle.word_text.specs.declared.values.Values.{Values as Slots}

pub no-rank : (id rank : ℕ) (list : List UidRange) (v : Slots) (got : Bor (List UidRange)) → rank ≡ 0 → v ≡ record nothing { net = id } → got.now ≡ list →
    IsPartsOf (line.Control (command.UsersAdd id rank list)) (Some (form.UsersAdd, v, got))
no-rank id rank list v got none values ranges = rw none (refl, values, ranges)
