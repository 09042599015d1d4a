use Rattle.std.proofs.Common.{◌≡◌, [], sym, subst, arith, rules, length, vec_len}
use Rattle.fib_search.specs.Trie.{IsTrie}
use Rattle.fib_trie.specs.Branches.{nodes_of}
use Rattle.fib_trie.specs.Chained.{routes_of}
use Rattle.fib_trie.proofs.Adding.{shape}
use Rattle.fib_trie.proofs.Emptied.{given_back}
use Rattle.fib_trie.proofs.Filed.{place_within}
use Rattle.fib_trie.proofs.prune.give_back.Goals as goal

pub find_place-requires : goal.find_place-requires
find_place-requires c =
    subst (λ bs. IsTrie (nodes_of [] bs) []) (sym c.deref.ensures.value) (shape (routes_of c.args.chains.now.entries) c.args.branches.now.items c.requires.trie.trie)

pub first-requires : goal.first-requires
first-requires c =
    let long : length c.args.branches.now.items ≡ vec_len c.args.branches.now = search rules in
    let within = place_within c.args.branches.now.items c.args.prefix c.in-Some.place (rw c.deref.ensures.value at c.in-Some.ensures) in
    let chains = c.requires.chains in
    omega (arith, long, within, chains)

pub find_upper-requires-clause-trie : goal.find_upper-requires-clause-trie
find_upper-requires-clause-trie c =
    subst (λ bs. IsTrie (nodes_of [] bs) []) (sym c.deref-3.ensures.value) (shape (routes_of c.args.chains.now.entries) c.args.branches.now.items c.requires.trie.trie)

pub returns-clause-trie : goal.returns-clause-trie
returns-clause-trie c =
    given_back c.args.branches.now.items c.take_out.new.branches.items c.args.chains.now.entries c.in-Some.place c.in-Some-held.branch
    (sym (rw c.deref-2.ensures.value at c.in-Some-held.ensures)) (sym c.in-None.ensures) c.take_out.ensures.pruned c.requires.trie
