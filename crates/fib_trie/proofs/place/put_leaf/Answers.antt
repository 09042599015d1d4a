use Rattle.fib_trie.proofs.Makes.{made_leaf}
use Rattle.fib_trie.proofs.place.put_leaf.Goals as goal

pub returns-clause-made : goal.returns-clause-made
returns-clause-made c =
    made_leaf c.args.branches.now.items c.place_below.new.branches.items c.args.here c.args.branch c.args.prefix c.place_below.result c.requires.above c.requires.alone
    (rw (c.bit_at-bit.ensures, c.base.ensures, c.len.ensures, c.bare.ensures) at c.place_below.ensures.placed)
