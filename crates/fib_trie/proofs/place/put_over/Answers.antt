use Rattle.fib_trie.proofs.Makes.{made_over}
use Rattle.fib_trie.proofs.place.put_over.Goals as goal

pub returns-clause-made : goal.returns-clause-made
returns-clause-made c =
    made_over c.args.branches.now.items c.place_below.new.branches.items c.args.here c.args.branch c.args.prefix c.place_below.result c.args.next c.args.below c.requires.above c.requires.below
    c.requires.shorter c.requires.covers
    (rw (c.bit_at-bit.ensures, c.base.ensures, c.len.ensures, c.with_child.ensures, c.bare.ensures, c.bit_at-side.ensures, c.base-2.ensures, c.len-2.ensures) at c.place_below.ensures.placed)
