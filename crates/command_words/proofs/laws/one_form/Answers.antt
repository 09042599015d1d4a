use Rattle.command_words.proofs.Whole.{form_one}
use Rattle.command_words.proofs.laws.one_form.Goals as goal

pub returns : goal.returns
returns c = form_one
