use Rattle.rule_law.proofs.Classes.{HasEachOnce-like, has-classes}
use Rattle.rule_law.proofs.stands_tells.Goals as goal

pub returns-clause-once : goal.returns-clause-once
returns-clause-once g c = λ k rules table o h. HasEachOnce-like k rules table h.classes o

pub returns-clause-same : goal.returns-clause-same
returns-clause-same g c = λ k rules table h. has-classes k rules table h.classes
