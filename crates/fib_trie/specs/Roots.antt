-- The roots of a trie.
use Rattle.std.specs.Prelude.{◌≡◌, None}
use Rattle.prefixes.specs.declared.addr.Addr.{Addr}
use Rattle.fib_trie.specs.declared.branch.Branch.{Branch}

pub record IsBareRoot (branch : Branch) (base : Addr) : Type 0 where
  pub from : branch.prefix.base ≡ base
  pub short : branch.prefix.len ≡ 0
  pub no_zero : branch.zero ≡ None
  pub no_one : branch.one ≡ None
