-- A table of routes as a trie.
use Rattle.std.specs.Prelude.{ℕ, ◌+◌, ◌-◌, ◌*◌, ◌≤◌, IsTrue, List, Option, vec_len, vec_capacity}
use Rattle.prefixes.specs.declared.route.Route.{Route}
use Rattle.fib_table.specs.Table.{are_keys_distinct}
use Rattle.fib_search.specs.Node.{TrieNode}
use Rattle.fib_search.specs.Trie.{IsTrie}
use Rattle.fib_trie.specs.Chained.{routes_of}
use Rattle.fib_trie.specs.Branches.{nodes_of}
use Rattle.fib_trie.specs.Reached.{AreReached, AreFiled}
use Rattle.fib_trie.specs.declared.table.TrieTable.TheInside.{Inside}

pub record TrieView : Type 0 where
  pub routes : List Route
  -- the number of additions that take no memory
  pub room : ℕ
  pub nodes : List (Option TrieNode)

pub record IsKept (t : Inside) : Type 0 where
  pub distinct : IsTrue (are_keys_distinct (routes_of t.chains.entries))
  pub trie : IsTrie (nodes_of (routes_of t.chains.entries) t.branches.items) (routes_of t.chains.entries)
  pub reached : AreReached t.branches.items
  pub filed : AreFiled t.branches.items t.chains.entries
  pub chain_room : t.spare ≤ t.chains.room
  -- an addition makes at most two nodes
  pub node_room : vec_len t.branches + 2 * t.spare ≤ vec_capacity t.branches
  pub chains : vec_len t.branches + 2 * t.spare ≤ t.chains.chains
  -- two roots are made by the first addition
  pub root_room : 2 + 2 * t.spare ≤ vec_capacity t.branches + 2 * (1 - t.spare)
  pub root_chains : 2 + 2 * t.spare ≤ t.chains.chains + 2 * (1 - t.spare)
