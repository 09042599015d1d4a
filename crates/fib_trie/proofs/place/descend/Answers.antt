use Rattle.std.proofs.Common.{sym, ◌∙◌, ap, arith, subst}
use Rattle.prefixes.specs.Addr.{IsAddr}
use Rattle.fib_search.specs.Node.{root_of}
use Rattle.fib_trie.specs.Ways.{IsOn}
use Rattle.fib_search.proofs.Bits.{width-most}
use Rattle.fib_trie.proofs.Stops.{on_root, on_next, on_longer, on_within, on_stop}
use Rattle.fib_trie.proofs.place.descend.Goals as goal

pub loop-next-init : goal.loop-next-init
loop-next-init c =
    subst (IsOn c.args.branches.now c.args.prefix) (sym (c.root_of-place.ensures ∙ ap root_of c.family.ensures))
    (on_root c.args.branches.now c.requires.trie c.requires.rooted c.args.prefix (subst IsAddr c.base.ensures c.is_addr.ensures))

pub loop-next-preserved : goal.loop-next-preserved
loop-next-preserved c = on_next c.args.branches.now c.requires.trie c.args.prefix c.loop-next.place c.loop-next.invariant c.in-Some.next (sym c.in-Some.ensures)

pub loop-next-smaller : goal.loop-next-smaller
loop-next-smaller c =
    let longer = on_longer c.args.branches.now c.requires.trie c.args.prefix c.loop-next.place c.loop-next.invariant c.in-Some.next (sym c.in-Some.ensures) in
    omega (arith, longer, on_within c.args.branches.now c.requires.trie c.args.prefix c.loop-next.place c.loop-next.invariant, width-most c.args.prefix.base)

pub returns : goal.returns
returns c = on_stop c.args.branches.now c.requires.trie c.args.prefix c.loop-next.place c.loop-next.invariant (sym c.in_default.ensures)
