use Rattle.std.proofs.Common.{◌∙◌, ◌++◌, ap, sym}
use Rattle.std.specs.Prelude.{flat_map}
use Rattle.rule_kinds.specs.Kind.{rule_kind}
use Rattle.policy_state.specs.Table.{rows, in_order, rules_in}
use Rattle.policy_state.proofs.GoodStates.{is-good}
use Rattle.policy_state.proofs.InOrder.{table-in_order}
use Rattle.policy_state.proofs.Owners.{owners_of}
use Rattle.policy_state.proofs.Tables.{table-is}
use Rattle.rule_compile.proofs.Tables.{table-once}
use Rattle.rule_compile.proofs.table.rules.Goals as goal

pub returns-clause-value : goal.returns-clause-value
returns-clause-value c =
    let good = is-good c.args.state.now c.home_of-home.ensures.good.formed in
    c.in_ok-push_rows.ensures
    ∙ (ap (λ zs. zs ++ flat_map (λ row. in_order rule_kind (rules_in c.args.state.now row)) rows) c.new-rules.ensures.items
    ∙ (sym (table-in_order (owners_of c.args.state.now) c.args.state.now good.owns) ∙ sym (table-is c.args.state.now)))

pub returns-clause-once : goal.returns-clause-once
returns-clause-once c = table-once c.args.state.now c.home_of-home.ensures.good.formed
