use Rattle.std.proofs.Common.{map, reverse}
use Rattle.std.specs.Slice.Iter.{iter_rest}
use Rattle.rule_law.specs.Plans.{Delete, beyond}
use Rattle.law_example.specs.Kinds.{rule_kind}
use Rattle.law_example.specs.Changes.{IsPartly}
use Rattle.law_example.proofs.changes.delete_missing.Given as goal

-- of the deletions those of the rules that are left are left
abbrev pub invariant-loop-rule : goal.invariant-loop-rule
invariant-loop-rule l =
    IsPartly (map Delete (reverse (beyond rule_kind l.others l.rules))) (map Delete (reverse (beyond rule_kind l.others (iter_rest l.rule-iterator.iter))))
    l.fn.kernel l.kernel
