use Rattle.std.proofs.Common.{sym, ◌∙◌}
use Rattle.addr_text.proofs.Families.{no_v4, no_v6}
use Rattle.addr_text.proofs.read.read_addr.Goals as goal

pub returns-in_err-read_v6-clause-none : goal.returns-in_err-read_v6-clause-none
returns-in_err-read_v6-clause-none c = rw c.from_residual.ensures
    (no_v4 c.args.text.now (sym c.contains.ensures.value ∙ c.if-contains.true) c.in_err-read_v6.ensures.none)

pub returns-in_err-read_v4-clause-none : goal.returns-in_err-read_v4-clause-none
returns-in_err-read_v4-clause-none c = rw c.from_residual-in_err-read_v4.ensures
    (no_v6 c.args.text.now (sym c.contains.ensures.value ∙ c.if-contains.false) c.in_err-read_v4.ensures.none)
