use Rattle.std.proofs.Common.{◌≡◌, arith, rules, length, vec_len}
use Rattle.route_chains.proofs.Standing.{held-within}
use Rattle.fib_trie.proofs.Pruning.{pruned_by}
use Rattle.fib_trie.proofs.prune.take_out.Goals as goal

pub put-requires : goal.put-requires
put-requires c =
    let long : length c.args.branches.now.items ≡ vec_len c.args.branches.now = search rules in
    omega (arith, long, held-within c.args.branches.now.items c.args.upper.place c.args.upper.branch c.requires.upper.stands)

pub put-requires-2 : goal.put-requires-2
put-requires-2 c =
    let long : length c.args.branches.now.items ≡ vec_len c.args.branches.now = search rules in
    omega (arith, long, c.put.ensures.len, held-within c.args.branches.now.items c.args.place c.args.branch c.requires.stands)

pub returns-clause-pruned : goal.returns-clause-pruned
returns-clause-pruned c =
    rw (c.put-2.ensures.items, c.put.ensures.items, c.linked.ensures, c.bit_at-bit.ensures, c.base.ensures, c.len.ensures)
    (pruned_by c.args.branches.now.items c.args.upper.place c.args.upper.branch c.args.place c.args.branch c.args.child c.requires.upper.stands c.requires.stands c.requires.upper.shorter c.requires.upper.within c.requires.upper.to c.requires.only)
