use Rattle.std.proofs.Common.{Option, Some, None, IfNone, arith}
use Rattle.std.proofs.lemmas.Bool.Decides.{nat_tests}
use Rattle.addr_text.proofs.GroupForms.{none_left, none_right, none_many, none_count}
use Rattle.addr_text.proofs.groups.read_groups.Goals as goal

weaker : {T P Q : Type 0} (o : Option T) → (P → Q) → IfNone o P → IfNone o Q
weaker None f p = f p
weaker (Some x) f p = tt

pub returns-in_err-read_parts-in-Some-clause-none : goal.returns-in_err-read_parts-in-Some-clause-none
returns-in_err-read_parts-in-Some-clause-none c = rw c.from_residual.ensures
    (none_left c.args.text.now c.in-Some.left.now c.in-Some.right.now c.in-Some.ensures c.in_err-read_parts-in-Some.ensures.none)

pub returns-in_err-read_parts-in-Some-2-clause-none : goal.returns-in_err-read_parts-in-Some-2-clause-none
returns-in_err-read_parts-in-Some-2-clause-none c = rw c.from_residual-in_err-read_parts-in-Some-2.ensures
    (none_right c.args.text.now c.in-Some.left.now c.in-Some.right.now c.in-Some.ensures c.in_err-read_parts-in-Some-2.ensures.none)

pub returns-in_ok-read_parts-in-Some-2-clause-none : goal.returns-in_ok-read_parts-in-Some-2-clause-none
returns-in_ok-read_parts-in-Some-2-clause-none c =
    let several = rw (c.as_slice.ensures.value, c.as_slice-in-Some.ensures.value) at c.filled_up.ensures.many in
    weaker c.filled_up.result
    (λ many. none_many c.args.text.now c.in-Some.left.now c.in-Some.right.now (c.in_ok-read_parts-in-Some).field-0.items (c.in_ok-read_parts-in-Some-2).field-0.items
    c.in-Some.ensures (c.in_ok-read_parts-in-Some).ensures.some (c.in_ok-read_parts-in-Some-2).ensures.some many)
    several

pub returns-else-len-eq8-clause-none : goal.returns-else-len-eq8-clause-none
returns-else-len-eq8-clause-none c =
    none_count c.args.text.now c.in_ok-groups-in-None.groups.items c.in-None.ensures c.in_ok-groups-in-None.ensures.some
    (λ eight. grind (arith, nat_tests, c.len.ensures.value, c.if-len-eq8.false))
