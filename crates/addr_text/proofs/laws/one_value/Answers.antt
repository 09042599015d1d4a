use Rattle.addr_text.proofs.Families.{one_addr}
use Rattle.addr_text.proofs.Prefixes.{one_prefix}
use Rattle.addr_text.proofs.laws.one_value.Goals as goal

pub returns-clause-addr : goal.returns-clause-addr
returns-clause-addr c = one_addr

pub returns-clause-prefix : goal.returns-clause-prefix
returns-clause-prefix c = one_prefix
