use Rattle.std.proofs.Common.{◌≡◌, List, [], not, refl, ap, ◌∙◌, sym, rules, subst, arith, length, vec_len}
use Rattle.std.proofs.lemmas.Bool.{both_ways}
use Rattle.std.proofs.lemmas.List.Elements.{All-filter}
use Rattle.prefixes.specs.Route.{same_route}
use Rattle.prefixes.specs.Addr.{family_of}
use Rattle.fib_table.specs.Table.{has_route, without_route, are_keys_distinct}
use Rattle.fib_table.proofs.Keys.{are_keys_distinct-filter}
use Rattle.fib_search.specs.Node.{root_of}
use Rattle.fib_search.specs.Trie.{Leads, IsTrie}
use Rattle.fib_trie.specs.Branches.{nodes_of}
use Rattle.fib_trie.specs.Chained.{routes_of}
use Rattle.fib_trie.specs.Table.{TrieView}
use Rattle.prefixes.specs.declared.route.Route.{Route}
use Rattle.fib_trie.proofs.Adding.{shape}
use Rattle.fib_trie.proofs.Filed.{any_there, route_prefix, none_there, routes_lead, place_within, routes_order, filed_taken}
use Rattle.fib_trie.proofs.Shapes.{restated}
use Rattle.fib_trie.proofs.table.TrieTable.remove.Goals as goal

pub find_place-requires : goal.find_place-requires
find_place-requires c = subst (λ bs. IsTrie (nodes_of [] bs) []) (sym c.deref.ensures.value) (shape (routes_of c.self.inside.chains.entries) c.self.inside.branches.items c.self.invariant.trie)

pub remove-requires-clause-there : goal.remove-requires-clause-there
remove-requires-clause-there c =
    let long : length c.self.inside.branches.items ≡ vec_len c.self.inside.branches = search rules in
    let within = place_within c.self.inside.branches.items c.args.route.now.prefix c.in-Some.place (rw c.deref.ensures.value at c.in-Some.ensures) in
    let chains = c.self.invariant.chains in
    omega (arith, long, within, chains)

pub remove-requires-clause-has : goal.remove-requires-clause-has
remove-requires-clause-has c =
    any_there c.self.inside.branches.items c.self.invariant.reached c.args.route.now.prefix c.in-Some.place (rw c.deref.ensures.value at c.in-Some.ensures)
    c.self.inside.chains.entries c.self.invariant.filed (routes_of c.self.inside.chains.entries) refl (λ other. same_route other c.args.route.now) (route_prefix c.args.route.now)
    ∙ ap (λ (v : TrieView). has_route v.routes c.args.route.now) c.self.view_is ∙ c.requires

pub returns-in_default-clause-routes : goal.returns-in_default-clause-routes
returns-in_default-clause-routes c =
    absurd (both_ways (has_route (routes_of c.self.inside.chains.entries) c.args.route.now)
    (none_there c.self.inside.branches.items c.args.route.now.prefix (λ other. same_route other c.args.route.now) (route_prefix c.args.route.now)
    (rw c.deref.ensures.value at c.in_default.ensures) (routes_of c.self.inside.chains.entries) (routes_lead (routes_of c.self.inside.chains.entries) c.self.inside.branches.items c.self.invariant.trie))
    (ap (λ (v : TrieView). has_route v.routes c.args.route.now) c.self.view_is ∙ c.requires))

pub prune-requires-clause-trie : goal.prune-requires-clause-trie
prune-requires-clause-trie c =
    let routes : List Route = routes_of c.self.inside.chains.entries in
    let branches = c.self.inside.branches.items in
    record {
      trie = subst (λ rs. IsTrie (nodes_of rs branches) rs) (sym (routes_order c.self.inside.chains.entries c.remove.new.self.entries _ c.remove.ensures.entries routes refl c.self.invariant.distinct))
          (restated routes (without_route routes c.args.route.now) branches c.self.invariant.trie
          (All-filter (λ other. not (same_route other c.args.route.now)) (λ r. Leads (nodes_of routes branches) r.prefix (root_of (family_of r.prefix.base))) routes c.self.invariant.trie.found));
      reached = c.self.invariant.reached;
      filed = filed_taken branches c.self.inside.chains.entries c.remove.new.self.entries _ c.remove.ensures.entries c.self.invariant.filed;
    }

pub prune-requires-clause-chains : goal.prune-requires-clause-chains
prune-requires-clause-chains c = omega (arith, c.remove.ensures.chains, c.self.invariant.chains)

pub invariant_of-self : goal.invariant_of-self
invariant_of-self c =
    let routes : List Route = routes_of c.self.inside.chains.entries in
    let left : routes_of c.remove.new.self.entries ≡ without_route routes c.args.route.now =
    routes_order c.self.inside.chains.entries c.remove.new.self.entries _ c.remove.ensures.entries routes refl c.self.invariant.distinct in
    record {
      distinct = ap are_keys_distinct left ∙ are_keys_distinct-filter (λ other. not (same_route other c.args.route.now)) routes c.self.invariant.distinct;
      trie = c.prune.ensures.trie.trie;
      reached = c.prune.ensures.trie.reached;
      filed = c.prune.ensures.trie.filed;
      chain_room = omega (arith, c.remove.ensures.room, c.self.invariant.chain_room);
      node_room = omega (arith, c.prune.ensures.len, c.prune.ensures.capacity, c.self.invariant.node_room);
      chains = omega (arith, c.remove.ensures.chains, c.prune.ensures.len, c.self.invariant.chains);
      root_room = omega (arith, c.prune.ensures.capacity, c.self.invariant.root_room);
      root_chains = omega (arith, c.remove.ensures.chains, c.self.invariant.root_chains);
    }

pub returns-clause-routes : goal.returns-clause-routes
returns-clause-routes c =
    routes_order c.self.inside.chains.entries c.remove.new.self.entries _ c.remove.ensures.entries (routes_of c.self.inside.chains.entries) refl c.self.invariant.distinct
    ∙ ap (λ (v : TrieView). without_route v.routes c.args.route.now) c.self.view_is
