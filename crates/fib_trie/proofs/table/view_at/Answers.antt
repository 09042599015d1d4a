use Rattle.std.proofs.Common.{sym, ◌∙◌, ap, arith, Some, None, Option}
use Rattle.prefixes.specs.declared.route.Route.{Route}
use Rattle.fib_search.specs.Node.{first_of}
use Rattle.fib_search.specs.declared.node.NodeView.{NodeView}
use Rattle.route_chains.specs.Chains.{chain_of}
use Rattle.route_chains.proofs.Standing.{held-within}
use Rattle.fib_trie.specs.Chained.{routes_of}
use Rattle.fib_trie.proofs.Filed.{chain_of-place, find-first_of}
use Rattle.fib_trie.proofs.Placed.{view_held}
use Rattle.fib_trie.proofs.table.view_at.Goals as goal

pub first-requires : goal.first-requires
first-requires c =
    let within = held-within c.args.branches.now c.args.place c.in-Some.branch (sym c.in-Some.ensures) in
    let chains = c.requires.chains in
    omega (arith, within, chains)

pub returns-in-Some : goal.returns-in-Some
returns-in-Some c =
    let way = c.requires.reached c.args.place c.in-Some.branch (sym c.in-Some.ensures) in
    ap (λ (o : Option Route). let v : NodeView = record { prefix = c.in-Some.branch.prefix; zero = c.in-Some.branch.zero; one = c.in-Some.branch.one; first = o } in Some v)
    (c.first.ensures ∙ find-first_of c.args.bound (chain_of c.args.place c.args.chains.now.entries)
    ∙ ap (λ rs. first_of rs c.args.bound) (chain_of-place c.args.branches.now c.requires.reached c.in-Some.branch.prefix c.args.place way c.args.chains.now.entries c.requires.filed))
    ∙ sym (view_held (routes_of c.args.chains.now.entries) c.args.branches.now c.args.place c.args.bound (Some c.in-Some.branch) (sym c.in-Some.ensures))

pub returns-in-None : goal.returns-in-None
returns-in-None c = sym (view_held (routes_of c.args.chains.now.entries) c.args.branches.now c.args.place c.args.bound None (sym c.in-None.ensures))
