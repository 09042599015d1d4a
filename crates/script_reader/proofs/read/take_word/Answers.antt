use Rattle.std.proofs.Common.{refl}
use Rattle.script_reader.proofs.Steps.{takes_ranges, takes_value}
use Rattle.script_reader.proofs.read.take_word.Goals as goal

pub returns-in_ok-read_ranges : goal.returns-in_ok-read_ranges
returns-in_ok-read_ranges c =
    rw c.in-Ranges.is (λ value spelled. (refl, takes_ranges _ _ _ c.read_ranges.result c.in_ok-read_ranges.field-0 c.read_ranges.ensures c.in_ok-read_ranges.was value spelled))

pub returns-in_default : goal.returns-in_default
returns-in_default c = takes_value c.args.kind c.args.word.now _ _ _ c.read.result c.in_default.not-Ranges c.read.ensures
