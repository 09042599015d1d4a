use Rattle.std.proofs.Common.{◌≤◌, ◌++◌, ◌∷◌, [], sym, ◌∙◌, length, arith}
use Rattle.prefixes.specs.Addr.{family_of}
use Rattle.kernel_model.specs.State.{rules_of}
use Rattle.kernel_model.specs.View.{state_of}
use Rattle.kernel_model.specs.Walk.{step_of}
use Rattle.kernel_model.proofs.Follows.{told_start, told_none, told_end, told_decides, told_goes_on, told_within}
use Rattle.kernel_model.proofs.walk.walk_by_matches.Goals as goal

pub loop-from-init : goal.loop-from-init
loop-from-init g c = ([], told_start (state_of (g.K.Kernel.seen c.args.kernel.now)) c.args.packet.now)

pub returns-in_default : goal.returns-in_default
returns-in_default g c =
    let told = c.loop-from.invariant in
    (told_none (state_of (g.K.Kernel.seen c.args.kernel.now)) c.args.packet.now told.0 c.loop-from.from told.1 (sym c.next_match.ensures ∙ c.in_default.is)).1

pub returns-in-Some-given : goal.returns-in-Some-given
returns-in-Some-given g c =
    let told = c.loop-from.invariant in
    (told_decides (state_of (g.K.Kernel.seen c.args.kernel.now)) c.args.packet.now told.0 c.loop-from.from told.1 c.in-Some.found (sym c.next_match.ensures ∙ c.in-Some.is)
    c.in-Some-given.verdict (sym c.given.ensures ∙ c.in-Some-given.is)).1

pub returns : goal.returns
returns g c =
    let told = c.loop-from.invariant in
    let kernel = state_of (g.K.Kernel.seen c.args.kernel.now) in
    let count = rw c.family.ensures at c.rule_count-count.ensures in
    let over : length (rules_of kernel (family_of c.args.packet.now.dest)) ≤ c.loop-from.from = omega (arith, count, c.loop-from-test.false) in
    (told_end kernel c.args.packet.now told.0 c.loop-from.from told.1 over).1

pub overflow_add-from : goal.overflow_add-from
overflow_add-from g c =
    let told = c.loop-from.invariant in
    let within = told_within (state_of (g.K.Kernel.seen c.args.kernel.now)) c.args.packet.now told.0 c.loop-from.from told.1 c.in-Some.found (sym c.next_match.ensures ∙ c.in-Some.is) in
    let count = rw c.family.ensures at c.rule_count-count.ensures in
    omega (arith, within, count, c.rule_count-count.type_inv)

pub loop-from-smaller : goal.loop-from-smaller
loop-from-smaller g c =
    let told = c.loop-from.invariant in
    let within = told_within (state_of (g.K.Kernel.seen c.args.kernel.now)) c.args.packet.now told.0 c.loop-from.from told.1 c.in-Some.found (sym c.next_match.ensures ∙ c.in-Some.is) in
    let count = rw c.family.ensures at c.rule_count-count.ensures in
    omega (arith, within, count, c.loop-from-test.true)

pub loop-from-preserved : goal.loop-from-preserved
loop-from-preserved g c =
    let told = c.loop-from.invariant in (
      told.0 ++ step_of c.in-Some.found.rule ∷ [],
      told_goes_on (state_of (g.K.Kernel.seen c.args.kernel.now)) c.args.packet.now told.0 c.loop-from.from told.1 c.in-Some.found (sym c.next_match.ensures ∙ c.in-Some.is) (sym c.given.ensures ∙ c.in_default-given.is),
    )
