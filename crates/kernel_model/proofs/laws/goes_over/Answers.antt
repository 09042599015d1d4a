use Rattle.kernel_model.specs.Switch.{additions, deletions}
use Rattle.kernel_model.proofs.Segments.{prefix_goes, halted_goes}
use Rattle.kernel_model.proofs.Switches.{done_goes_over}
use Rattle.kernel_model.proofs.laws.goes_over.Goals as goal

pub returns-clause-done : goal.returns-clause-done
returns-clause-done c = λ k old new gone packet entries rest h alike_old alike_new is.
    prefix_goes k (additions old new) (deletions old new gone) packet (done_goes_over k old new gone h packet alike_old alike_new) entries rest is

pub returns-clause-halted : goal.returns-clause-halted
returns-clause-halted c = λ k old new gone packet entries i broken h alike_old alike_new next is.
    halted_goes k (additions old new) (deletions old new gone) packet (done_goes_over k old new gone h packet alike_old alike_new) entries i broken next is
