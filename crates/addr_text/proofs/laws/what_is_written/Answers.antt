use Rattle.addr_text.proofs.Written.{canonical_spelled, canonical_prefix_spelled}
use Rattle.addr_text.proofs.laws.what_is_written.Goals as goal

pub returns-clause-addr : goal.returns-clause-addr
returns-clause-addr c = canonical_spelled

pub returns-clause-prefix : goal.returns-clause-prefix
returns-clause-prefix c = canonical_prefix_spelled
