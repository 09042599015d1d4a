use Rattle.std.proofs.Common.{◌≡◌, ◌+◌, ◌-◌, ◌++◌, take, length, replicate}
use Rattle.addr_text.proofs.groups.filled_up.Given as goal

abbrev pub invariant-loop-group : goal.invariant-loop-group
invariant-loop-group l = l.groups.items ≡ take l.group-index l.left

abbrev pub invariant-loop-place : goal.invariant-loop-place
invariant-loop-place l = l.groups.items ≡ l.left ++ replicate (l._place - (length l.left + length l.right)) 0

abbrev pub invariant-loop-group-2 : goal.invariant-loop-group-2
invariant-loop-group-2 l = l.groups.items ≡ l.left ++ (replicate (8 - (length l.left + length l.right)) 0 ++ take l.group-index l.right)
