use Rattle.addr_text.proofs.Values.{list_fits}
use Rattle.addr_text.proofs.read.read_v6.Goals as goal

pub returns-in_err-groups-clause-none : goal.returns-in_err-groups-clause-none
returns-in_err-groups-clause-none c = rw c.from_residual.ensures (λ value spells. c.in_err-groups.ensures.none spells.groups spells.form)

pub number_of-requires : goal.number_of-requires
number_of-requires c = rw c.as_slice.ensures.value (list_fits c.args.text.now c.in_ok-groups.groups.items c.in_ok-groups.ensures.some)
