use Rattle.std.proofs.Common.{◌∙◌, ap}
use Rattle.std.specs.Prelude.{is_some}
use Rattle.list_lemmas.proofs.Found.{some-any}
use Rattle.policy_state.specs.Step.{is_of_user}
use Rattle.policy_state.proofs.parts.Parts.has_permission.Goals as goal

pub returns : goal.returns
returns c = c.is_some.ensures ∙ (ap is_some c.get.ensures ∙ some-any (is_of_user c.args.uid) (λ p. p.permission) c.args.self.now.permissions.permissions)
