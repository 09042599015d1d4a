use Rattle.std.proofs.Common.{◌≡◌, [], refl, sym, ◌∙◌, ap, subst, arith, length, vec_len, rules}
use Rattle.prefixes.specs.Route.{same_key}
use Rattle.fib_table.specs.Table.{has_key}
use Rattle.fib_search.specs.Trie.{IsTrie}
use Rattle.fib_trie.specs.Branches.{nodes_of}
use Rattle.fib_trie.specs.Chained.{routes_of}
use Rattle.fib_trie.specs.Table.{TrieView}
use Rattle.fib_trie.proofs.Adding.{shape}
use Rattle.fib_trie.proofs.Filed.{any_there, key_prefix, none_there, routes_lead, place_within}
use Rattle.fib_trie.proofs.table.TrieTable.has_key.Goals as goal

pub find_place-requires : goal.find_place-requires
find_place-requires c = subst (λ bs. IsTrie (nodes_of [] bs) []) (sym c.deref.ensures.value) (shape (routes_of c.self.inside.chains.entries) c.self.inside.branches.items c.self.invariant.trie)

pub has_key-requires : goal.has_key-requires
has_key-requires c =
    let long : length c.self.inside.branches.items ≡ vec_len c.self.inside.branches = search rules in
    let within = place_within c.self.inside.branches.items c.args.route.now.prefix c.in-Some.place (rw c.deref.ensures.value at c.in-Some.ensures) in
    let chains = c.self.invariant.chains in
    omega (arith, long, within, chains)

pub returns-in-Some : goal.returns-in-Some
returns-in-Some c =
    c.has_key.ensures
    ∙ any_there c.self.inside.branches.items c.self.invariant.reached c.args.route.now.prefix c.in-Some.place (rw c.deref.ensures.value at c.in-Some.ensures)
    c.self.inside.chains.entries c.self.invariant.filed (routes_of c.self.inside.chains.entries) refl (λ other. same_key other c.args.route.now) (key_prefix c.args.route.now)
    ∙ ap (λ (v : TrieView). has_key v.routes c.args.route.now) c.self.view_is

pub returns-in-None : goal.returns-in-None
returns-in-None c =
    sym (none_there c.self.inside.branches.items c.args.route.now.prefix (λ other. same_key other c.args.route.now) (key_prefix c.args.route.now)
    (rw c.deref.ensures.value at c.in-None.ensures) (routes_of c.self.inside.chains.entries) (routes_lead (routes_of c.self.inside.chains.entries) c.self.inside.branches.items c.self.invariant.trie))
    ∙ ap (λ (v : TrieView). has_key v.routes c.args.route.now) c.self.view_is
