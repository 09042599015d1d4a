use Rattle.word_text.proofs.Written.{text_spelled}
use Rattle.word_text.proofs.laws.what_is_written.Goals as goal

pub returns : goal.returns
returns c = text_spelled
