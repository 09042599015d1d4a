use Rattle.std.proofs.Common.{refl, arith}
use Rattle.addr_text.specs.Forms.{base_of}
use Rattle.addr_text.proofs.Digits.{base_of-some, number_step}
use Rattle.addr_text.proofs.row.number_of.Goals as goal

pub overflow_mul-number : goal.overflow_mul-number
overflow_mul-number c =
    let step = number_step (base_of c.args.form) c.loop-part.part-index c.loop-part.number c.base.result _ c.args.parts.now (base_of-some c.args.form) c.loop-part-test.true
    c.loop-part.invariant c.base.ensures refl c.requires in
    omega (arith, step.0)

pub overflow_add-number : goal.overflow_add-number
overflow_add-number c =
    let step = number_step (base_of c.args.form) c.loop-part.part-index c.loop-part.number c.base.result c.from.result c.args.parts.now (base_of-some c.args.form) c.loop-part-test.true
    c.loop-part.invariant c.base.ensures c.from.ensures c.requires in
    omega (arith, step.0)

pub loop-part-preserved : goal.loop-part-preserved
loop-part-preserved c =
    let step = number_step (base_of c.args.form) c.loop-part.part-index c.loop-part.number c.base.result c.from.result c.args.parts.now (base_of-some c.args.form) c.loop-part-test.true
    c.loop-part.invariant c.base.ensures c.from.ensures c.requires in step.1
