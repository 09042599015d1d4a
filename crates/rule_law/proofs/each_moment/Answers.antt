use Rattle.rule_law.proofs.Beside.{each_done, each_undone}
use Rattle.rule_law.proofs.each_moment.Goals as goal

pub returns-clause-done : goal.returns-clause-done
returns-clause-done g c = each_done

pub returns-clause-undone : goal.returns-clause-undone
returns-clause-undone g c = each_undone
