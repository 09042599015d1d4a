use Rattle.fib_trie.proofs.Between.{child_longer, from_alike, within_least}
use Rattle.fib_trie.proofs.place.put_between.Goals as goal

pub common-len-requires-clause-alike : goal.common-len-requires-clause-alike
common-len-requires-clause-alike c =
    rw (c.base.ensures, c.base-2.ensures, c.len-3.ensures)
    (from_alike c.args.branches.now.items c.requires.trie c.args.here c.args.branch c.args.prefix c.requires.above c.args.next c.args.below c.requires.below)

pub common-len-requires-clause-within : goal.common-len-requires-clause-within
common-len-requires-clause-within c =
    let one = c.requires.above.longer in
    let other = child_longer c.args.branches.now.items c.requires.trie c.args.here c.args.branch c.args.prefix c.requires.above c.args.next c.args.below c.requires.below in
    rw (c.least-limit.ensures, c.len-3.ensures, c.len.ensures, c.len-2.ensures)
    (within_least c.args.branch.prefix.len c.args.prefix.len c.args.below.prefix.len one other)
