use Rattle.rule_compile.proofs.Tables.{is_switch, table-givers}
use Rattle.rule_compile.proofs.laws.tables_are_lawful.Goals as goal

pub returns-clause-switch : goal.returns-clause-switch
returns-clause-switch c = is_switch

pub returns-clause-alike : goal.returns-clause-alike
returns-clause-alike c = λ k s packet good. table-givers s k.tables packet good
