use Rattle.std.proofs.Common.{◌≡◌, ◌<◌, ◌++◌, ◌∷◌, [], length, arith}
use Rattle.std.proofs.lemmas.Bool.Decides.{nat_tests}
use Rattle.addr_text.proofs.Rows.{none_read, no_part, one_more}
use Rattle.addr_text.proofs.row.read_parts.Goals as goal

pub loop-first-init : goal.loop-first-init
loop-first-init c =
    let some : 0 < length c.args.text.now = grind (arith, nat_tests, c.if-is_empty.ensures) in
    rw c.new-parts.ensures (none_read c.args.form c.args.text.now some)

pub returns-in_err-read_part-clause-none : goal.returns-in_err-read_part-clause-none
returns-in_err-read_part-clause-none c =
    let cut = rw c.separator.ensures at c.in-Some.ensures in
    rw c.from_residual.ensures (λ all few spells.
    no_part c.args.form c.args.text.now c.loop-first.parts.items c.loop-first.rest.now c.in-Some.first.now c.in-Some.others.now c.loop-first.invariant
    cut.0 cut.1 c.in_err-read_part.ensures.none all spells)

pub loop-first-preserved : goal.loop-first-preserved
loop-first-preserved c =
    let cut = rw c.separator.ensures at c.in-Some.ensures in
    let grown : c.try_push.new.self.items ≡ c.loop-first.parts.items ++ c.in_ok-read_part.field-0 ∷ [] = grind (arith, c.in_ok-ok.ensures.value, c.try_push.ensures.ok) in
    rw grown (one_more c.args.form c.args.text.now c.loop-first.parts.items c.loop-first.rest.now c.in-Some.first.now c.in-Some.others.now c.in_ok-read_part.field-0 c.loop-first.invariant
    cut.0 cut.1 c.in_ok-read_part.ensures.some)
