use Rattle.std.proofs.Common.{◌≡◌, ◌≤◌, sym, ◌∙◌, length, arith}
use Rattle.prefixes.specs.Addr.{family_of}
use Rattle.rule_match.specs.declared.verdict.Verdict.TheVariants as verdict
use Rattle.kernel_model.specs.State.{rules_of}
use Rattle.kernel_model.specs.View.{state_of}
use Rattle.kernel_model.specs.Walk.{walk, trail_of}
use Rattle.kernel_model.proofs.Follows.{told_none, told_end, told_decides, told_goes_on, told_within}
use Rattle.packet_trace.proofs.trail.follow.Goals.{Left-loop-from, else-loop-from-test, then-loop-from-test+in_default}
use Rattle.packet_trace.proofs.trail.follow.Goals as goal
use Rattle.packet_trace.proofs.trail.follow.Given.{Over}

pub returns-in-Some-given-clause-steps : goal.returns-in-Some-given-clause-steps
returns-in-Some-given-clause-steps g c =
    c.in_ok-push.ensures.items
    ∙ (told_decides (state_of (g.K.Kernel.seen c.args.kernel.now)) c.args.packet.now c.loop-from.steps.items c.loop-from.from c.loop-from.invariant c.in-Some.found (sym c.next_match.ensures ∙ c.in-Some.is)
    c.in-Some-given.verdict (sym c.given.ensures ∙ c.in-Some-given.is)).0

pub returns-in-Some-given-clause-verdict : goal.returns-in-Some-given-clause-verdict
returns-in-Some-given-clause-verdict g c =
    (told_decides (state_of (g.K.Kernel.seen c.args.kernel.now)) c.args.packet.now c.loop-from.steps.items c.loop-from.from c.loop-from.invariant c.in-Some.found (sym c.next_match.ensures ∙ c.in-Some.is)
    c.in-Some-given.verdict (sym c.given.ensures ∙ c.in-Some-given.is)).1

pub overflow_add-from : goal.overflow_add-from
overflow_add-from g c =
    let within = told_within (state_of (g.K.Kernel.seen c.args.kernel.now)) c.args.packet.now c.loop-from.steps.items c.loop-from.from c.loop-from.invariant c.in-Some.found (sym c.next_match.ensures ∙ c.in-Some.is) in
    let count = rw c.family.ensures at c.rule_count-count.ensures in
    omega (arith, within, count, c.rule_count-count.type_inv)

pub loop-from-smaller : goal.loop-from-smaller
loop-from-smaller g c =
    let within = told_within (state_of (g.K.Kernel.seen c.args.kernel.now)) c.args.packet.now c.loop-from.steps.items c.loop-from.from c.loop-from.invariant c.in-Some.found (sym c.next_match.ensures ∙ c.in-Some.is) in
    let count = rw c.family.ensures at c.rule_count-count.ensures in
    omega (arith, within, count, c.loop-from-test.true)

pub loop-from-preserved : goal.loop-from-preserved
loop-from-preserved g c =
    rw c.in_ok-push.ensures.items
    (told_goes_on (state_of (g.K.Kernel.seen c.args.kernel.now)) c.args.packet.now c.loop-from.steps.items c.loop-from.from c.loop-from.invariant c.in-Some.found (sym c.next_match.ensures ∙ c.in-Some.is)
    (sym c.given.ensures ∙ c.in_default-given.is))

-- no rule from here on matches
nothing_left : (g : Over) (c : Left-loop-from g)
    → let kernel = state_of (g.K.Kernel.seen c.args.kernel.now) in (c.loop-from.steps.items ≡ trail_of kernel c.args.packet.now) × (verdict.Unreachable ≡ walk kernel c.args.packet.now)
nothing_left g c =
    let kernel = state_of (g.K.Kernel.seen c.args.kernel.now) in
    elim c.loop-from-test.branch [
      | else-loop-from-test w ↦
          let count = rw c.family.ensures at c.rule_count-count.ensures in
          let over : length (rules_of kernel (family_of c.args.packet.now.dest)) ≤ c.loop-from.from = omega (arith, count, w.loop-from-test.false) in
          told_end kernel c.args.packet.now c.loop-from.steps.items c.loop-from.from c.loop-from.invariant over
      | then-loop-from-test+in_default w ↦
          told_none kernel c.args.packet.now c.loop-from.steps.items c.loop-from.from c.loop-from.invariant (sym w.next_match.ensures ∙ w.in_default.is)
    ]

pub returns-clause-steps : goal.returns-clause-steps
returns-clause-steps g c = (nothing_left g c).0

pub returns-clause-verdict : goal.returns-clause-verdict
returns-clause-verdict g c = (nothing_left g c).1
