use Rattle.std.proofs.Common.{◌≡◌, ◌≤◌, ◌<◌, refl, sym, ◌∙◌, ap, arith}
use Rattle.prefixes.specs.Addr.{width_of, family_of}
use Rattle.fib_search.specs.Node.{root_of}
use Rattle.fib_search.proofs.Going.{level}
use Rattle.fib_search.proofs.Bits.{width-most}
use Rattle.fib_search.proofs.Views.{best_exactly, read_of, start_view, within_view, ended_view, strayed_view, done_view, deeper_view, down_view}
use Rattle.fib_search.proofs.lookup.lookup_counted.Goals as goal

pub loop-node-init : goal.loop-node-init
loop-node-init g c =
    let place : c.root_of-place.result ≡ root_of (family_of c.args.addr) = c.root_of-place.ensures ∙ ap root_of c.family.ensures in
    record {
      going = rw place (start_view (g.N.Nodes.nodes c.args.nodes.now) (g.N.Nodes.routes c.args.nodes.now) (g.met.N.Nodes.keeps c.args.nodes.now) c.args.addr c.args.bound);
      count = omega arith;
      nodes = refl;
      routes = refl;
    }

pub returns-in_default-clause-value : goal.returns-in_default-clause-value
returns-in_default-clause-value g c =
    ended_view (g.N.Nodes.nodes c.args.nodes.now) (g.N.Nodes.routes c.args.nodes.now) (g.met.N.Nodes.keeps c.args.nodes.now) c.args.addr c.args.bound c.loop-node.place c.loop-node.found c.loop-node.invariant.going
    (read_of _ _ _ _ _ c.loop-node.invariant.nodes c.in_default.ensures.value)

pub returns-in_default-clause-exactly : goal.returns-in_default-clause-exactly
returns-in_default-clause-exactly g c = best_exactly _ _ _ _ (returns-in_default-clause-value g c)

pub returns-then-not-covers-clause-value : goal.returns-then-not-covers-clause-value
returns-then-not-covers-clause-value g c =
    strayed_view (g.N.Nodes.nodes c.args.nodes.now) (g.N.Nodes.routes c.args.nodes.now) (g.met.N.Nodes.keeps c.args.nodes.now) c.args.addr c.args.bound c.loop-node.place c.loop-node.found c.loop-node.invariant.going
    c.in-Some.node (read_of _ _ _ _ _ c.loop-node.invariant.nodes c.in-Some.ensures.value) (sym c.if-not-covers.ensures)

pub returns-then-not-covers-clause-exactly : goal.returns-then-not-covers-clause-exactly
returns-then-not-covers-clause-exactly g c = best_exactly _ _ _ _ (returns-then-not-covers-clause-value g c)

pub returns-in_default-onward-clause-value : goal.returns-in_default-onward-clause-value
returns-in_default-onward-clause-value g c =
    c.or_else-found.ensures
    ∙ done_view (g.N.Nodes.nodes c.args.nodes.now) (g.N.Nodes.routes c.args.nodes.now) (g.met.N.Nodes.keeps c.args.nodes.now) c.args.addr c.args.bound c.loop-node.place c.loop-node.found c.loop-node.invariant.going
    c.in-Some.node (read_of _ _ _ _ _ c.loop-node.invariant.nodes c.in-Some.ensures.value) (sym c.if-not-covers.ensures) (sym c.in_default-onward.ensures)

pub returns-in_default-onward-clause-exactly : goal.returns-in_default-onward-clause-exactly
returns-in_default-onward-clause-exactly g c = best_exactly _ _ _ _ (returns-in_default-onward-clause-value g c)

deeper : (g : _) (c : goal.In-Some-onward g) → level (g.N.Nodes.nodes c.args.nodes.now) c.loop-node.place < level (g.N.Nodes.nodes c.args.nodes.now) c.in-Some-onward.next
deeper g c =
    deeper_view (g.N.Nodes.nodes c.args.nodes.now) (g.N.Nodes.routes c.args.nodes.now) (g.met.N.Nodes.keeps c.args.nodes.now) c.args.addr c.args.bound c.loop-node.place c.loop-node.found c.loop-node.invariant.going
    c.in-Some.node (read_of _ _ _ _ _ c.loop-node.invariant.nodes c.in-Some.ensures.value) (sym c.if-not-covers.ensures) c.in-Some-onward.next (sym c.in-Some-onward.ensures)

within : (g : _) (c : goal.In-Some-onward g) → level (g.N.Nodes.nodes c.args.nodes.now) c.loop-node.place ≤ width_of c.args.addr
within g c = within_view (g.N.Nodes.nodes c.args.nodes.now) (g.N.Nodes.routes c.args.nodes.now) (g.met.N.Nodes.keeps c.args.nodes.now) c.args.addr c.args.bound c.loop-node.place c.loop-node.found c.loop-node.invariant.going

pub loop-node-smaller : goal.loop-node-smaller
loop-node-smaller g c = omega (arith, deeper g c, within g c, width-most c.args.addr)

pub loop-node-preserved : goal.loop-node-preserved
loop-node-preserved g c =
    let further = deeper g c in
    let reads = c.in-Some.ensures.reads in
    let count = c.loop-node.invariant.count in
    record {
      going = rw c.or_else-found.ensures
          (down_view (g.N.Nodes.nodes c.args.nodes.now) (g.N.Nodes.routes c.args.nodes.now) (g.met.N.Nodes.keeps c.args.nodes.now) c.args.addr c.args.bound c.loop-node.place c.loop-node.found c.loop-node.invariant.going
          c.in-Some.node (read_of _ _ _ _ _ c.loop-node.invariant.nodes c.in-Some.ensures.value) (sym c.if-not-covers.ensures) c.in-Some-onward.next (sym c.in-Some-onward.ensures));
      count = omega (arith, further, reads, count);
      nodes = cc;
      routes = cc;
    }

pub returns-then-not-covers-clause-count : goal.returns-then-not-covers-clause-count
returns-then-not-covers-clause-count g c =
    let reads = c.in-Some.ensures.reads in
    let count = c.loop-node.invariant.count in
    omega (arith, reads, count, within_view (g.N.Nodes.nodes c.args.nodes.now) (g.N.Nodes.routes c.args.nodes.now) (g.met.N.Nodes.keeps c.args.nodes.now) c.args.addr c.args.bound c.loop-node.place c.loop-node.found c.loop-node.invariant.going)
