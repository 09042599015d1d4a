use Rattle.kernel_model.proofs.Segments.{prefix_goes, halted_goes}
use Rattle.rule_compile.specs.Asked.{asked_adds, asked_deletes}
use Rattle.rule_compile.proofs.Along.{all_goes, segment_goes}
use Rattle.rule_compile.proofs.laws.plan_law.Goals as goal

pub returns-clause-done : goal.returns-clause-done
returns-clause-done c = λ k s command packet entries rest may is.
    prefix_goes k (asked_adds s command) (asked_deletes s command) packet (all_goes k s command may packet) entries rest is

pub returns-clause-halted : goal.returns-clause-halted
returns-clause-halted c = λ k s command packet entries i broken may next is.
    halted_goes k (asked_adds s command) (asked_deletes s command) packet (all_goes k s command may packet) entries i broken next is

pub returns-clause-segment : goal.returns-clause-segment
returns-clause-segment c = λ k s command packet entries may is. segment_goes k s command may packet entries is
