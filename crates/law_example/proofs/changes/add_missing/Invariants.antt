use Rattle.std.proofs.Common.{◌≡◌, ◌++◌, map, take}
use Rattle.rule_law.specs.Plans.{Add, beyond}
use Rattle.law_example.specs.Kinds.{rule_kind}
use Rattle.law_example.proofs.changes.add_missing.Given as goal

-- those of the new rules so far that were missing have been added
abbrev pub invariant-loop-place : goal.invariant-loop-place
invariant-loop-place l = l.kernel ≡ l.fn.kernel ++ map Add (beyond rule_kind l.old (take l.place l.new))
