use Rattle.number_text.proofs.Appending.{both, rewritten}
use Rattle.addr_text.proofs.Parts.{parts_text-first}
use Rattle.addr_text.proofs.row.write_parts.Goals as goal

pub returns-in_ok-write_part-in-len1-up : goal.returns-in_ok-write_part-in-len1-up
returns-in_ok-write_part-in-len1-up c =
    rewritten (parts_text-first c.args.form c.args.parts.now c.in-len1-up.len_at_least) (both c.write_all_behind.result c.in_ok-write_part-in-len1-up.ensures c.write_all_behind.ensures)
