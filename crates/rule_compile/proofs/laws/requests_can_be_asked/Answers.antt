use Rattle.rule_compile.proofs.Asking.{adds-absent, deletes-present, asked-distinct, one_kind}
use Rattle.rule_compile.proofs.Asks.{asks}
use Rattle.rule_compile.proofs.Forms.{adds-formed, deletes-formed}
use Rattle.rule_compile.proofs.Tables.{after-good}
use Rattle.rule_compile.proofs.laws.requests_can_be_asked.Goals as goal

pub returns-clause-one_kind : goal.returns-clause-one_kind
returns-clause-one_kind c = one_kind

pub returns-clause-absent : goal.returns-clause-absent
returns-clause-absent c = λ k s command may. adds-absent k s command may (asks s command may.good may.accepted)

pub returns-clause-present : goal.returns-clause-present
returns-clause-present c = λ k s command may. deletes-present k s command may (asks s command may.good may.accepted)

pub returns-clause-distinct : goal.returns-clause-distinct
returns-clause-distinct c = λ k s command may. asked-distinct k s command may (asks s command may.good may.accepted)

pub returns-clause-well_formed : goal.returns-clause-well_formed
returns-clause-well_formed c = λ k s command may. (
  adds-formed s command may.good (after-good k s command may) (asks s command may.good may.accepted),
  deletes-formed s command may.good (asks s command may.good may.accepted),
)
