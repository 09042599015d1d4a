use Rattle.kernel_model.proofs.Standing.{done_stands}
use Rattle.kernel_model.proofs.Switches.{undone_leaves}
use Rattle.kernel_model.proofs.laws.ends.Goals as goal

pub returns-clause-done : goal.returns-clause-done
returns-clause-done c = done_stands

pub returns-clause-undone : goal.returns-clause-undone
returns-clause-undone c = λ k old new gone i refused h. undone_leaves k old new gone h i refused
