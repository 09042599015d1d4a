use Rattle.std.specs.Prelude.{[]}
use Rattle.kernel_model.specs.Leaving.{leaving}
use Rattle.kernel_model.proofs.Leaving.{leaving_goes}
use Rattle.kernel_model.proofs.Segments.{prefix_goes, halted_goes}
use Rattle.kernel_model.proofs.laws.link_leaves.Goals as goal

pub returns-clause-done : goal.returns-clause-done
returns-clause-done c = λ k old new table link gone packet entries rest h alike_old alike_new is.
    prefix_goes k [] (leaving old new table gone) packet (leaving_goes k old new table link gone h packet alike_old alike_new) entries rest is

pub returns-clause-halted : goal.returns-clause-halted
returns-clause-halted c = λ k old new table link gone packet entries i broken h alike_old alike_new next is.
    halted_goes k [] (leaving old new table gone) packet (leaving_goes k old new table link gone h packet alike_old alike_new) entries i broken next is
