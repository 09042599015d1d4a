use Rattle.std.proofs.Common.{◌≡◌, ◌≤◌, ◌+◌, length, take}
use Rattle.fib_trie.proofs.table.rebuilt.Given as goal

abbrev pub invariant-loop-route : goal.invariant-loop-route
invariant-loop-route l = record { made : l.table.routes ≡ take l.route-index l.routes; room : length l.routes + l.more ≤ l.table.room + l.route-index }
