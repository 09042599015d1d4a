use Rattle.std.proofs.Common.{◌≡◌, ◌∙◌, None, sym, subst}
use Rattle.policy_state.specs.Good.{IsGood}
use Rattle.policy_state.specs.Parts.{view_of}
use Rattle.policy_state.specs.Step.{refusal}
use Rattle.policy_state.specs.View.{StateView}
use Rattle.policy_state.proofs.Goodness.{good-changed}
use Rattle.policy_state.proofs.state.State.step.Goals as goal

pub turned_by-requires-clause-good_after : goal.turned_by-requires-clause-good_after
turned_by-requires-clause-good_after c =
    let s : StateView = view_of c.self.inside.parts in
    let accepted : refusal s c.args.command.now ≡ None = sym c.in-Ok.ensures.code in
    subst IsGood (sym c.in-Ok.ensures.makes.turned) (good-changed s c.args.command.now c.self.invariant.0 c.fits_types.ensures accepted)

pub invariant_of-result : goal.invariant_of-result
invariant_of-result c =
    let s : StateView = view_of c.self.inside.parts in
    let accepted : refusal s c.args.command.now ≡ None = sym c.in-Ok.ensures.code in
    (subst IsGood (sym (c.in-Ok-turned_by.ensures.view ∙ c.in-Ok.ensures.makes.turned)) (good-changed s c.args.command.now c.self.invariant.0 c.fits_types.ensures accepted), c.in-Ok-turned_by.ensures.tallied)

pub returns-in-Ok-turned_by-clause-good : goal.returns-in-Ok-turned_by-clause-good
returns-in-Ok-turned_by-clause-good c =
    let s : StateView = view_of c.self.inside.parts in
    let accepted : refusal s c.args.command.now ≡ None = sym c.in-Ok.ensures.code in
    subst IsGood (sym (c.in-Ok-turned_by.ensures.view ∙ c.in-Ok.ensures.makes.turned)) (good-changed s c.args.command.now c.self.invariant.0 c.fits_types.ensures accepted)
