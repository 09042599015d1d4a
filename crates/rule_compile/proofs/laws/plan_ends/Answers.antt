use Rattle.rule_compile.proofs.Along.{done_ends, undone_ends}
use Rattle.rule_compile.proofs.laws.plan_ends.Goals as goal

pub returns-clause-done : goal.returns-clause-done
returns-clause-done c = done_ends

pub returns-clause-undone : goal.returns-clause-undone
returns-clause-undone c = λ k s command i refused may next. undone_ends k s command may i refused next
