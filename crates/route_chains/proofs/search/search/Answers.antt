use Rattle.std.proofs.Common.{sym, None, get_or, subst, ◌<◌, length}
use Rattle.route_chains.proofs.Along.{IsAlong, left, along_start, along_stopped, along_found, along_on, along_shorter}
use Rattle.route_chains.proofs.search.search.Goals as goal

pub loop-at-init : goal.loop-at-init
loop-at-init g c =
    subst (IsAlong c.args.slots.now c.args.chain (get_or c.args.heads.now c.args.chain None) (g.T.Test.passes c.args.test.now) None) (sym c.head_of-at.ensures)
    (along_start c.args.slots.now c.args.chain (get_or c.args.heads.now c.args.chain None) (g.T.Test.passes c.args.test.now) (c.requires.chains.begun c.args.chain None c.requires.there))

pub returns-then-passes : goal.returns-then-passes
returns-then-passes g c =
    along_found c.args.slots.now c.args.chain (get_or c.args.heads.now c.args.chain None) (g.T.Test.passes c.args.test.now) c.loop-at.before c.in-Some.place
    (subst (IsAlong c.args.slots.now c.args.chain (get_or c.args.heads.now c.args.chain None) (g.T.Test.passes c.args.test.now) c.loop-at.before) c.in-Some.is c.loop-at.invariant)
    c.in-Some-held.slot (sym c.in-Some-held.ensures) (sym c.if-passes.ensures)

pub loop-at-smaller : goal.loop-at-smaller
loop-at-smaller g c =
    subst (λ o. left (length c.args.slots.now) c.in-Some-held.slot.next < left (length c.args.slots.now) o) (sym c.in-Some.is)
    (along_shorter c.args.slots.now c.args.chain (get_or c.args.heads.now c.args.chain None) (g.T.Test.passes c.args.test.now) c.loop-at.before c.in-Some.place
    (subst (IsAlong c.args.slots.now c.args.chain (get_or c.args.heads.now c.args.chain None) (g.T.Test.passes c.args.test.now) c.loop-at.before) c.in-Some.is c.loop-at.invariant)
    c.in-Some-held.slot (sym c.in-Some-held.ensures) c.requires.chains.linked)

pub loop-at-preserved : goal.loop-at-preserved
loop-at-preserved g c =
    along_on c.args.slots.now c.args.chain (get_or c.args.heads.now c.args.chain None) (g.T.Test.passes c.args.test.now) c.loop-at.before c.in-Some.place
    (subst (IsAlong c.args.slots.now c.args.chain (get_or c.args.heads.now c.args.chain None) (g.T.Test.passes c.args.test.now) c.loop-at.before) c.in-Some.is c.loop-at.invariant)
    c.in-Some-held.slot (sym c.in-Some-held.ensures) c.requires.chains.linked (sym c.if-passes.ensures)

pub returns : goal.returns
returns g c =
    along_stopped c.args.slots.now c.args.chain (get_or c.args.heads.now c.args.chain None) (g.T.Test.passes c.args.test.now) c.loop-at.before c.loop-at.at
    c.in_default.not-Some c.loop-at.invariant
