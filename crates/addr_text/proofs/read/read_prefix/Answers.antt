use Rattle.addr_text.proofs.Prefixes.{no_base, no_len, no_prefix}
use Rattle.addr_text.proofs.read.read_prefix.Goals as goal

pub returns-in_err-read_addr-clause-none : goal.returns-in_err-read_addr-clause-none
returns-in_err-read_addr-clause-none c = rw c.from_residual-in_err-read_addr.ensures
    (no_base c.args.text.now c.in_ok-base.base.now c.in_ok-base.len.now c.in_ok-base.ensures.0 c.in_ok-base.ensures.1 c.in_err-read_addr.ensures.none)

pub returns-in_err-read_decimal-clause-none : goal.returns-in_err-read_decimal-clause-none
returns-in_err-read_decimal-clause-none c = rw c.from_residual-in_err-read_decimal.ensures
    (no_len c.args.text.now c.in_ok-base.base.now c.in_ok-base.len.now c.in_ok-base.ensures.0 c.in_ok-base.ensures.1 c.in_err-read_decimal.ensures.none)

pub returns-clause-none : goal.returns-clause-none
returns-clause-none c =
    no_prefix c.new.result c.args.text.now c.in_ok-base.base.now c.in_ok-base.len.now (c.in_ok-read_addr).field-0 (c.in_ok-read_decimal).field-0
    c.in_ok-base.ensures.0 c.in_ok-base.ensures.1 (c.in_ok-read_addr).ensures.some (c.in_ok-read_decimal).ensures.some.0 c.new.ensures.exactly
