use Rattle.std.proofs.Common.{◌≡◌, ◌≤◌, ◌+◌, ◌-◌}
use Rattle.fib_search.proofs.Going.{Going, level}
use Rattle.fib_search.proofs.lookup.lookup_counted.Given as goal

-- of the nodes and routes that were given, which no read changes
abbrev pub invariant-loop-node : goal.invariant-loop-node
invariant-loop-node g l = record {
  going : ∥ Going (g.N.Nodes.nodes l.fn.nodes) (g.N.Nodes.routes l.fn.nodes) l.addr l.bound l.place l.found ∥₁;
  count : g.N.Nodes.reads l.nodes ≤ g.N.Nodes.reads l.fn.nodes + level (g.N.Nodes.nodes l.fn.nodes) l.place;
  nodes : g.N.Nodes.nodes l.nodes ≡ g.N.Nodes.nodes l.fn.nodes;
  routes : g.N.Nodes.routes l.nodes ≡ g.N.Nodes.routes l.fn.nodes;
}

abbrev pub decreases-loop-node : goal.decreases-loop-node
decreases-loop-node g l = 129 - level (g.N.Nodes.nodes l.fn.nodes) l.place
