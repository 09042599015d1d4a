use Rattle.std.proofs.Common.{◌≡◌, drop}
use Rattle.law_example.specs.Kernels.{verdict_by}
use Rattle.law_example.proofs.kernel.walk_through.Given as goal

-- the rest of the rules gives the packet what all of them do
abbrev pub invariant-loop-rule : goal.invariant-loop-rule
invariant-loop-rule l = verdict_by l.packet (drop l.rule-index l.rules) ≡ verdict_by l.packet l.rules
