use Rattle.std.proofs.Common.{arith}
use Rattle.addr_text.proofs.Values.{none_four}
use Rattle.addr_text.proofs.read.read_v4.Goals as goal

pub returns-else-len-eq4-clause-none : goal.returns-else-len-eq4-clause-none
returns-else-len-eq4-clause-none c = none_four c.args.text.now c.in_ok-octets.octets.items c.in_ok-octets.ensures.some
    (λ four. grind (arith, c.len.ensures.value, c.if-len-eq4.false))
