use Rattle.std.proofs.Common.{◌∙◌, ap, arith}
use Rattle.fib_table.specs.Table.{has_key}
use Rattle.fib_trie.proofs.Rebuilt.{absent_at, one_more}
use Rattle.fib_trie.proofs.table.rebuilt.Goals as goal

pub add-requires-clause-absent : goal.add-requires-clause-absent
add-requires-clause-absent c =
    ap (λ rs. has_key rs c.route-item.result) c.loop-route.invariant.made
    ∙ absent_at c.args.routes.now c.loop-route.route-index c.route-item.result c.requires c.loop-route-test.true c.route-item.is

pub loop-route-preserved : goal.loop-route-preserved
loop-route-preserved c = record {
  made = c.add.ensures.routes ∙ one_more c.args.routes.now c.loop-route.table.routes c.loop-route.route-index c.route-item.result c.loop-route.invariant.made c.loop-route-test.true c.route-item.is;
  room = let room = c.loop-route.invariant.room in omega (arith, room, c.add.ensures.room);
}
