use Rattle.std.proofs.Common.{◌≡◌, take}
use Rattle.kernel_model.specs.Switch.{twins}
use Rattle.rule_compile.proofs.requests.twins.Given as goal

abbrev pub invariant-loop-rule : goal.invariant-loop-rule
invariant-loop-rule l = l.requests.items ≡ twins (take l.rule-index l.rules)
