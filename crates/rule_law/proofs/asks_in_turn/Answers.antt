use Rattle.rule_law.proofs.Asking.{asks_done, asks_undone}
use Rattle.rule_law.proofs.asks_in_turn.Goals as goal

pub returns-clause-done : goal.returns-clause-done
returns-clause-done g c = asks_done

pub returns-clause-undone : goal.returns-clause-undone
returns-clause-undone g c = asks_undone
