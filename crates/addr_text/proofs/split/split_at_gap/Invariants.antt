use Rattle.std.proofs.Common.{◌≡◌, ℕ, ◌+◌, ◌<◌, get_or}
use Rattle.addr_text.proofs.split.split_at_gap.Given as goal

abbrev pub invariant-loop-place : goal.invariant-loop-place
invariant-loop-place l = (k : ℕ) → k + 1 < l.place → get_or l.text k 0 ≡ 58 → get_or l.text (k + 1) 0 ≡ 58 → ⊥
