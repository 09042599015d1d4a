use Rattle.std.proofs.Common.{◌≡◌, ◌++◌}
use Rattle.rule_kinds.specs.Kind.{rule_kind}
use Rattle.policy_state.proofs.InOrder.{by_level}
use Rattle.rule_compile.proofs.table.push_by_rank.Given as goal

abbrev pub invariant-loop-rank : goal.invariant-loop-rank
invariant-loop-rank l = l.rules.items ≡ l.initial.rules.items ++ by_level rule_kind l.base l.rank l.made
