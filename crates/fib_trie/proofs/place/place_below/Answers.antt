use Rattle.std.proofs.Common.{sym, ◌∙◌, arith, rules, ◌≡◌, length, vec_len}
use Rattle.fib_trie.proofs.Placed.{placed}
use Rattle.route_chains.proofs.Standing.{held-within}
use Rattle.fib_trie.proofs.place.place_below.Goals as goal

pub put-requires : goal.put-requires
put-requires c =
    let long : length c.args.branches.now.items ≡ vec_len c.args.branches.now = search rules in
    omega (arith, long, held-within c.args.branches.now.items c.args.here c.args.branch c.requires.stands)

pub returns-clause-placed : goal.returns-clause-placed
returns-clause-placed c =
    let long : length c.args.branches.now.items ≡ vec_len c.args.branches.now = search rules in
    rw (c.push_held.ensures.items, c.put.ensures.items, c.with_child.ensures)
    (placed c.args.branches.now.items c.args.here c.len-place.result c.args.bit c.args.branch c.args.new c.requires.stands (c.len-place.ensures ∙ sym long))
