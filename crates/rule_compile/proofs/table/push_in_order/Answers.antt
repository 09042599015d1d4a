use Rattle.std.proofs.Common.{◌≡◌, ◌∙◌, ◌++◌, List, IfOk, ap, sym, subst}
use Rattle.rule_kinds.specs.Kind.{rule_kind}
use Rattle.rule_match.specs.declared.rule.Rule.{Rule}
use Rattle.policy_state.specs.Table.{rules_in}
use Rattle.policy_state.proofs.GoodStates.{is-good}
use Rattle.policy_state.proofs.InOrder.{by_level, row-by_level, unranked-in_order}
use Rattle.policy_state.proofs.Owners.{owners_of}
use Rattle.rule_compile.proofs.table.push_in_order.Goals as goal

pub returns-in_ok-push_row : goal.returns-in_ok-push_row
returns-in_ok-push_row c =
    let good = is-good c.args.state.now c.requires.good.formed in
    let made = c.deref.ensures.value ∙ (c.in_ok-push_row.ensures ∙ ap (λ zs. zs ++ rules_in c.args.state.now c.args.row.now) c.new-made.ensures.items) in
    let is = ap (λ base. by_level rule_kind base 100 c.deref.result.now) c.from.ensures ∙ (ap (by_level rule_kind c.args.row.now.base 100) made ∙ sym (row-by_level (owners_of c.args.state.now) c.args.state.now good.owns c.args.row.now)) in
    subst (λ (zs : List Rule). IfOk c.push_by_rank.result (λ x. c.push_by_rank.new.rules.items ≡ c.args.rules.now.items ++ zs)) is c.push_by_rank.ensures

pub returns-else-row : goal.returns-else-row
returns-else-row c =
    let good = is-good c.args.state.now c.requires.good.formed in
    subst (λ (zs : List Rule). IfOk c.push_row-else-row.result (λ x. c.push_row-else-row.new.rules.items ≡ c.args.rules.now.items ++ zs))
    (sym (unranked-in_order (owners_of c.args.state.now) c.args.state.now good.owns c.args.row.now c.if-row.false)) c.push_row-else-row.ensures
