use Rattle.std.proofs.Common.{◌≡◌, Result, Ok, Err, IfOk, sym, subst}
use Rattle.std.specs.Result.{result_err}
use Rattle.commands.specs.declared.command.Command.{Command}
use Rattle.net_names.specs.declared.code.Code.{Code}
use Rattle.policy_state.specs.Accept.{Makes}
use Rattle.policy_state.specs.Change.{turned}
use Rattle.policy_state.specs.Good.{IsGood}
use Rattle.policy_state.specs.Parts.{view_of}
use Rattle.policy_state.specs.Step.{FitsTypes, refusal}
use Rattle.policy_state.specs.View.{StateView}
use Rattle.policy_state.specs.declared.change.Change.{Change}
use Rattle.policy_state.proofs.Goodness.{good-changed}
use Rattle.policy_state.proofs.state.State.accept.Goals as goal

-- a state is good after the change that is found
good-accepted : (s : StateView) (command : Command) (r : Result Change Code) → IsGood s → FitsTypes command → result_err r ≡ refusal s command → IfOk r (Makes s command)
    → IfOk r (λ change. IsGood (turned change s))
good-accepted s command (Ok change) good fits code makes = subst IsGood (sym makes.turned) (good-changed s command good fits (sym code))
good-accepted s command (Err code) good fits is makes = tt

pub returns-clause-good : goal.returns-clause-good
returns-clause-good c =
    subst (λ (s : StateView). IfOk c.accept.result (λ change. IsGood (turned change s))) c.self.view_is
    (good-accepted (view_of c.self.inside.parts) c.args.command.now c.accept.result c.self.invariant.0 c.fits_types.ensures c.accept.ensures.code c.accept.ensures.makes)
