use Rattle.std.proofs.Common.{◌∙◌, arith}
use Rattle.addr_text.specs.Forms.{base_of, count_of}
use Rattle.addr_text.proofs.Digits.{parts_of-more}
use Rattle.addr_text.proofs.row.parts_of.Goals as goal

pub loop-done-preserved : goal.loop-done-preserved
loop-done-preserved c = (
  omega (arith, c.insert.ensures.len),
  c.loop-done.invariant.1
      ∙ parts_of-more (base_of c.args.form) (count_of c.args.form) c.loop-done._done c.loop-done.rest c.loop-done.parts.items (omega (arith, c.count-done-end.ensures))
      ∙ (let value = c.insert.ensures.items in rw (value, c.base.ensures, c.base-rest.ensures)),
)
