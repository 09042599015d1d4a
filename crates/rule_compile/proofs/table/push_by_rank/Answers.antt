use Rattle.std.proofs.Common.{◌∙◌, ◌+◌, ◌++◌, ap, sym}
use Rattle.rule_kinds.specs.Kind.{rule_kind}
use Rattle.policy_state.proofs.InOrder.{at}
use Rattle.rule_compile.proofs.Levelled.{by_level-next}
use Rattle.rule_compile.proofs.table.push_by_rank.Goals as goal

pub loop-rank-preserved : goal.loop-rank-preserved
loop-rank-preserved c =
    c.in_ok-push_at.ensures
    ∙ (ap (λ zs. zs ++ at rule_kind (c.args.base + c.loop-rank.rank) c.args.made.now) c.loop-rank.invariant
    ∙ sym (by_level-next rule_kind c.args.rules.now.items c.args.base c.loop-rank.rank c.args.made.now))
