use Rattle.std.proofs.Common.{[], refl}
use Rattle.std.proofs.lemmas.Bool.{false≢true}
use Rattle.kernel_model.specs.State.{start as kernel_start}
use Rattle.policy_state.specs.Table.{rule_table}
use Rattle.policy_state.specs.View.{start}
use Rattle.policy_state.proofs.FirstState.{good-start}
use Rattle.rule_compile.proofs.Starting.{start-is_switch, start-stands}
use Rattle.rule_compile.proofs.Tables.{table-givers}
use Rattle.rule_compile.proofs.laws.start_law.Goals as goal

pub returns-clause-asked : goal.returns-clause-asked
unfolding rule_table
returns-clause-asked c = refl

pub returns-clause-deletes : goal.returns-clause-deletes
unfolding rule_table
returns-clause-deletes c = refl

pub returns-clause-absent : goal.returns-clause-absent
returns-clause-absent c = (refl, (refl, (refl, (refl, (refl, (refl, tt))))))

pub returns-clause-segment : goal.returns-clause-segment
unfolding rule_table
returns-clause-segment c = λ packet entries is.
    c.goes_over_and_back.ensures kernel_start [] (rule_table start) [] packet entries start-is_switch
    (λ x y in_x in_y same gives_x gives_y. absurd (false≢true in_x)) (table-givers start kernel_start.tables packet good-start) is

pub returns-clause-stands : goal.returns-clause-stands
unfolding rule_table
returns-clause-stands c = c.ends.ensures.done kernel_start [] (rule_table start) [] [] [] start-is_switch start-stands (λ n. refl)
