use Rattle.std.proofs.Common.{◌<◌, sym, subst}
use Rattle.prefixes.specs.Addr.{width_of}
use Rattle.fib_trie.proofs.Uppers.{up_stands, up_shorter, up_within, up_fits, up_some, up_next, up_deeper}
use Rattle.fib_trie.proofs.prune.find_upper.Goals as goal

pub returns-in_default : goal.returns-in_default
returns-in_default c = absurd (up_stands c.args.branches.now c.args.prefix.now c.args.place c.loop-here.here c.loop-here.invariant.lead (sym c.in_default.ensures))

pub next_of-requires : goal.next_of-requires
next_of-requires c =
    subst (λ a. c.in-Some.branch.prefix.len < width_of a) (sym c.base.ensures)
    (up_fits c.args.branches.now c.args.prefix.now c.args.place c.loop-here.here c.loop-here.invariant.lead c.loop-here-test.true c.in-Some.branch (sym c.in-Some.ensures))

pub returns-in_default-next_of : goal.returns-in_default-next_of
returns-in_default-next_of c =
    absurd (up_some c.args.branches.now c.args.prefix.now c.args.place c.loop-here.here c.loop-here.invariant.lead c.loop-here-test.true c.in-Some.branch (sym c.in-Some.ensures)
    (sym (rw c.base.ensures at c.in_default-next_of.ensures)))

pub loop-here-smaller : goal.loop-here-smaller
loop-here-smaller c =
    up_deeper c.args.branches.now c.args.prefix.now c.args.place c.loop-here.here c.loop-here.invariant.lead c.loop-here-test.true c.in-Some.branch (sym c.in-Some.ensures) c.requires.trie
    c.in-Some-next_of.next (sym (rw c.base.ensures at c.in-Some-next_of.ensures))

pub loop-here-preserved : goal.loop-here-preserved
loop-here-preserved c = record {
  lead =
      up_next c.args.branches.now c.args.prefix.now c.args.place c.loop-here.here c.loop-here.invariant.lead c.loop-here-test.true c.in-Some.branch (sym c.in-Some.ensures)
      c.in-Some-next_of.next (sym (rw c.base.ensures at c.in-Some-next_of.ensures));
  upper = record {
    stands = sym c.in-Some.ensures;
    shorter = up_shorter c.args.branches.now c.args.prefix.now c.args.place c.loop-here.here c.loop-here.invariant.lead c.loop-here-test.true c.in-Some.branch (sym c.in-Some.ensures);
    within = up_within c.args.branches.now c.args.prefix.now c.args.place c.loop-here.here c.loop-here.invariant.lead c.loop-here-test.true c.in-Some.branch (sym c.in-Some.ensures);
    to = sym (rw c.base.ensures at c.in-Some-next_of.ensures);
  };
}
