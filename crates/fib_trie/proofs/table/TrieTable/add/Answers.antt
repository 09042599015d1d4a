use Rattle.std.proofs.Common.{◌≡◌, ap, ◌∙◌, sym, subst, arith, rules, length, vec_len, [], ◌<◌, ◌++◌, ◌∷◌, List}
use Rattle.prefixes.specs.Addr.{family_of}
use Rattle.prefixes.specs.declared.route.Route.{Route}
use Rattle.fib_table.specs.Table.{has_key, are_keys_distinct}
use Rattle.fib_table.proofs.Keys.{are_keys_distinct-push}
use Rattle.fib_search.specs.Node.{root_of}
use Rattle.fib_search.specs.Trie.{IsTrie}
use Rattle.fib_trie.specs.Branches.{nodes_of}
use Rattle.fib_trie.specs.Reached.{AreFiled}
use Rattle.fib_trie.specs.Chained.{routes_of}
use Rattle.fib_trie.specs.Table.{TrieView}
use Rattle.fib_trie.proofs.Adding.{shape, trie_added}
use Rattle.fib_trie.proofs.Filed.{filed_added, filed_rooted, routes_of-push, place_within}
use Rattle.fib_trie.proofs.Finding.{goal_has}
use Rattle.fib_trie.proofs.table.TrieTable.add.Goals as goal

pub make_place-place-requires-clause-trie : goal.make_place-place-requires-clause-trie
make_place-place-requires-clause-trie c = c.ensure_roots.ensures.keeps [] (shape (routes_of c.self.inside.chains.entries) c.self.inside.branches.items c.self.invariant.trie)

pub push-requires-clause-there : goal.push-requires-clause-there
push-requires-clause-there c =
    let room : 0 < c.self.inside.spare = subst (λ (v : TrieView). 0 < v.room) (sym c.self.view_is) c.requires.room in
    let long : length c.make_place-place.new.branches.items ≡ vec_len c.make_place-place.new.branches = search rules in
    let within = place_within c.make_place-place.new.branches.items c.args.route.prefix c.make_place-place.result c.make_place-place.ensures.made.leads in
    omega (arith, room, long, within, c.ensure_roots.ensures.len, c.make_place-place.ensures.len, c.self.invariant.chains, c.self.invariant.root_chains)

pub invariant_of-self : goal.invariant_of-self
invariant_of-self c =
    let routes : List Route = routes_of c.self.inside.chains.entries in
    let added : routes_of c.push.new.self.entries ≡ routes ++ c.args.route ∷ [] =
    ap routes_of c.push.ensures.entries ∙ routes_of-push c.self.inside.chains.entries c.make_place-place.result c.args.route in
    let rooted = c.ensure_roots.new.branches.items in
    let made = c.make_place-place.ensures.made in
    let new = c.make_place-place.new.branches.items in
    let room : 0 < c.self.inside.spare = subst (λ (v : TrieView). 0 < v.room) (sym c.self.view_is) c.requires.room in
    record {
      distinct = ap are_keys_distinct added
          ∙ are_keys_distinct-push routes c.args.route c.self.invariant.distinct (ap (λ (v : TrieView). has_key v.routes c.args.route) c.self.view_is ∙ c.requires.absent);
      trie = subst (λ rs. IsTrie (nodes_of rs new) rs) (sym added)
          (trie_added routes rooted new c.args.route c.make_place-place.result (c.ensure_roots.ensures.keeps routes c.self.invariant.trie) made);
      reached = made.reaches (c.ensure_roots.ensures.keeps [] (shape routes c.self.inside.branches.items c.self.invariant.trie)) (c.ensure_roots.ensures.reaches c.self.invariant.reached);
      filed = subst (AreFiled new) (sym c.push.ensures.entries)
          (filed_added rooted new c.self.inside.chains.entries c.make_place-place.result c.args.route
          (filed_rooted c.self.inside.branches.items rooted c.self.inside.chains.entries c.ensure_roots.ensures.stays c.self.invariant.filed) made.stays
          (goal_has new c.args.route.prefix c.make_place-place.result (root_of (family_of c.args.route.prefix.base)) made.leads));
      chain_room = omega (arith, room, c.push.ensures.room, c.self.invariant.chain_room);
      node_room = omega (arith, room, c.ensure_roots.ensures.len, c.ensure_roots.ensures.capacity, c.make_place-place.ensures.len, c.make_place-place.ensures.capacity, c.self.invariant.node_room, c.self.invariant.root_room);
      chains = omega (arith, room, c.ensure_roots.ensures.len, c.make_place-place.ensures.len, c.push.ensures.chains, c.self.invariant.chains, c.self.invariant.root_chains);
      root_room = omega (arith, room, c.ensure_roots.ensures.capacity, c.make_place-place.ensures.capacity, c.self.invariant.root_room);
      root_chains = omega (arith, room, c.push.ensures.chains, c.self.invariant.root_chains);
    }
