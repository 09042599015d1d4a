use Rattle.addr_text.proofs.Parts.{SpellsGroup-small}
use Rattle.addr_text.proofs.form.Form.read_part.Goals as goal

pub returns-in_err-part-in-Groups-2-clause-none : goal.returns-in_err-part-in-Groups-2-clause-none
returns-in_err-part-in-Groups-2-clause-none c = rw (c.from_residual-in_err-part-in-Groups-2.ensures, c.in-Groups-2.is)
    (λ part spells. c.in_err-part-in-Groups-2.ensures (spells.0, SpellsGroup-small c.args.text.now part spells))
