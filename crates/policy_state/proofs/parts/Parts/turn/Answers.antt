use Rattle.std.proofs.Common.{ℕ, sym, ap₂, subst, arith}
use Rattle.policy_state.specs.Good.{IsGood}
use Rattle.policy_state.specs.Parts.{view_of}
use Rattle.policy_state.specs.Tallies.{tallies_of}
use Rattle.policy_state.specs.View.{StateView}
use Rattle.policy_state.specs.declared.count.Tallies.{Tallies}
use Rattle.policy_state.proofs.NetworkChanges.{ids-distinct}
use Rattle.policy_state.proofs.TalliesTurned.{AreMoved, tallies-moved}
use Rattle.policy_state.proofs.parts.Parts.turn.Goals as goal

pub shares_of-after-requires : goal.shares_of-after-requires
shares_of-after-requires c = subst IsGood (sym c.commit.ensures) c.requires.good_after

pub overflow_sub-self : goal.overflow_sub-self
overflow_sub-self c =
    let s : StateView = view_of c.args.self.now in
    let moves : AreMoved (tallies_of (view_of c.commit.new.self).networks) c.few_tallies-kept.result c.shares_of-before.result c.shares_of-after.result =
    tallies-moved s (ids-distinct s c.requires.good.formed) c.args.change.now c.requires.fits (view_of c.commit.new.self) c.commit.ensures c.net-net.result c.net-net.ensures _ _ _
    c.few_tallies-kept.ensures.value c.shares_of-before.ensures.value c.shares_of-after.ensures.value in
    omega (arith, moves.own)

pub overflow_sub-self-2 : goal.overflow_sub-self-2
overflow_sub-self-2 c =
    let s : StateView = view_of c.args.self.now in
    let moves : AreMoved (tallies_of (view_of c.commit.new.self).networks) c.few_tallies-kept.result c.shares_of-before.result c.shares_of-after.result =
    tallies-moved s (ids-distinct s c.requires.good.formed) c.args.change.now c.requires.fits (view_of c.commit.new.self) c.commit.ensures c.net-net.result c.net-net.ensures _ _ _
    c.few_tallies-kept.ensures.value c.shares_of-before.ensures.value c.shares_of-after.ensures.value in
    omega (arith, moves.virtuals)

pub returns-clause-tallied : goal.returns-clause-tallied
returns-clause-tallied c =
    let s : StateView = view_of c.args.self.now in
    let moves : AreMoved (tallies_of (view_of c.commit.new.self).networks) c.few_tallies-kept.result c.shares_of-before.result c.shares_of-after.result =
    tallies-moved s (ids-distinct s c.requires.good.formed) c.args.change.now c.requires.fits (view_of c.commit.new.self) c.commit.ensures c.net-net.result c.net-net.ensures _ _ _
    c.few_tallies-kept.ensures.value c.shares_of-before.ensures.value c.shares_of-after.ensures.value in
    ap₂ (λ (o v : ℕ). let made : Tallies = record { own = o; virtuals = v } in made) (omega (arith, moves.own)) (omega (arith, moves.virtuals))
