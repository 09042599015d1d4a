use Rattle.std.proofs.Common.{◌≡◌, rules}
use Rattle.prefixes.specs.Best.{best}
use Rattle.fib_search.proofs.Views.{best_exactly}
use Rattle.fib_trie.proofs.table.TrieTable.lookup.Goals as goal

pub returns-clause-exactly : goal.returns-clause-exactly
returns-clause-exactly c =
    let value : c.lookup_counted.result ≡ best c.args.self.now.routes c.args.addr c.args.bound = search rules in
    best_exactly c.args.self.now.routes c.args.addr c.args.bound _ value
