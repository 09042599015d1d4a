use Rattle.std.proofs.Common.{◌≡◌, ◌==◌, ◌++◌, filter, take}
use Rattle.rule_compile.proofs.table.push_at.Given as goal

abbrev pub invariant-loop-rule : goal.invariant-loop-rule
invariant-loop-rule l = l.rules.items ≡ l.initial.rules.items ++ filter (λ rule. rule.priority == l.priority) (take l.rule-index l.made)
