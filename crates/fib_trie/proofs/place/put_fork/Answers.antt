use Rattle.fib_trie.proofs.Makes.{made_fork}
use Rattle.fib_trie.proofs.place.put_fork.Goals as goal

pub returns-clause-made : goal.returns-clause-made
returns-clause-made c =
    made_fork c.args.branches.now.items c.place_below-place.new.branches.items c.place_below.new.branches.items c.requires.trie c.args.here c.args.branch c.args.prefix c.place_below-place.result c.place_below.result c.args.next c.args.below c.args.fork
    c.requires.above c.requires.below c.requires.longer c.requires.fork
    (rw (c.bit_at-bit.ensures, c.base.ensures, c.len.ensures, c.with_child-new.ensures, c.bare.ensures, c.bit_at-side.ensures, c.base-2.ensures, c.len-2.ensures) at c.place_below-place.ensures.placed)
    (rw (c.bit_at-other.ensures, c.base-3.ensures, c.len-3.ensures, c.bare-2.ensures) at c.place_below.ensures.placed)
