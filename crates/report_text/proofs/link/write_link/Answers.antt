use Rattle.std.proofs.Common.{◌<◌, ◌^◌, sym, arith}
use Rattle.report_text.proofs.Short.{index-length}
use Rattle.report_text.proofs.link.write_link.Goals as goal

pub returns-in_err-append_byte-in-None-clause-short : goal.returns-in_err-append_byte-in-None-clause-short
returns-in_err-append_byte-in-None-clause-short c = let fits : c.args.link < 2 ^ 16 = omega arith in rw (sym c.in-None.ensures) (index-length c.args.link fits)

pub returns-in_ok-append_byte-in-None-clause-short : goal.returns-in_ok-append_byte-in-None-clause-short
returns-in_ok-append_byte-in-None-clause-short c = let fits : c.args.link < 2 ^ 16 = omega arith in rw (sym c.in-None.ensures) (index-length c.args.link fits)
