-- What a table keeps, along its fields.
use Rattle.std.proofs.Common.{◌≡◌, ◌+◌, ◌-◌, ◌*◌, ◌≤◌, sym, ◌∙◌, ap, subst, vec_len, vec_capacity}
use Rattle.fib_table.specs.Table.{are_keys_distinct}
use Rattle.fib_search.specs.Trie.{IsTrie}
use Rattle.fib_trie.specs.Branches.{nodes_of}
use Rattle.fib_trie.specs.Reached.{AreReached, AreFiled}
use Rattle.fib_trie.specs.Chained.{routes_of}
use Rattle.fib_trie.specs.Table.{IsKept}
use Rattle.fib_trie.specs.declared.table.TrieTable.TheInside.{Inside}

pub kept_by : (t u : Inside) → IsKept t → u.branches.items ≡ t.branches.items → u.chains.entries ≡ t.chains.entries
    → u.spare ≤ u.chains.room
    → vec_len u.branches + 2 * u.spare ≤ vec_capacity u.branches → vec_len u.branches + 2 * u.spare ≤ u.chains.chains
    → 2 + 2 * u.spare ≤ vec_capacity u.branches + 2 * (1 - u.spare) → 2 + 2 * u.spare ≤ u.chains.chains + 2 * (1 - u.spare) → IsKept u
kept_by t u kept branches entries chain_room node_room chains root_room root_chains = record {
  distinct = ap (λ es. are_keys_distinct (routes_of es)) entries ∙ kept.distinct;
  trie = subst (λ es. IsTrie (nodes_of (routes_of es) u.branches.items) (routes_of es)) (sym entries)
      (subst (λ bs. IsTrie (nodes_of (routes_of t.chains.entries) bs) (routes_of t.chains.entries)) (sym branches) kept.trie);
  reached = subst AreReached (sym branches) kept.reached;
  filed = subst (AreFiled u.branches.items) (sym entries) (subst (λ bs. AreFiled bs t.chains.entries) (sym branches) kept.filed);
  chain_room = chain_room;
  node_room = node_room;
  chains = chains;
  root_room = root_room;
  root_chains = root_chains;
}
