use Rattle.std.proofs.Common.{sym}
use Rattle.fib_trie.proofs.Finding.{place_none, place_some}
use Rattle.fib_trie.proofs.place.find_place.Goals as goal

pub returns-then-is_prefix_at : goal.returns-then-is_prefix_at
returns-then-is_prefix_at c = place_some c.args.branches.now c.args.prefix c.descend-place.result c.descend-place.ensures (sym c.if-is_prefix_at.ensures)

pub returns-else-is_prefix_at : goal.returns-else-is_prefix_at
returns-else-is_prefix_at c = place_none c.args.branches.now c.args.prefix c.descend-place.result c.descend-place.ensures (sym c.if-is_prefix_at.ensures)
