use Rattle.std.proofs.Common.{sym, arith}
use Rattle.fib_trie.proofs.Put.{made_here, child_stands}
use Rattle.fib_trie.proofs.place.put_at.Goals as goal

pub returns-then-len-clause-made : goal.returns-then-len-clause-made
returns-then-len-clause-made c =
    made_here c.args.branches.now.items c.args.prefix c.args.here c.args.branch c.requires.stop c.requires.stands (omega (arith, c.len.ensures, c.len-2.ensures, c.if-len.true))

pub returns-in-None-held-clause-made : goal.returns-in-None-held-clause-made
returns-in-None-held-clause-made c =
    absurd (child_stands c.args.branches.now.items c.args.prefix c.args.here c.args.branch c.requires.stop c.requires.stands c.requires.trie c.in-Some.next
    (sym (rw c.base.ensures at c.in-Some.ensures)) (sym (rw c.deref.ensures.value at c.in-None-held.ensures)))
