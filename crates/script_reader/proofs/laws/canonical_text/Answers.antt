use Rattle.script_reader.proofs.Sayable.{canonical_spells}
use Rattle.script_reader.proofs.laws.canonical_text.Goals as goal

pub returns : goal.returns
returns c = canonical_spells
