use Rattle.std.proofs.Common.{◌≡◌}
use Rattle.kernel_model.specs.Next.{next_match}
use Rattle.kernel_model.proofs.next.next_in.Given as goal

-- none up to here matches
abbrev pub invariant-loop-place : goal.invariant-loop-place
invariant-loop-place l = next_match l.rules l.packet l.place ≡ next_match l.rules l.packet l.from
