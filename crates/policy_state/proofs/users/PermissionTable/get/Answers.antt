use Rattle.std.proofs.Common.{◌∙◌, refl, ap}
use Rattle.std.specs.List.{find}
use Rattle.std.specs.Option.{option_map}
use Rattle.policy_state.specs.Step.{is_of_user}
use Rattle.policy_state.specs.UserLists.{PermissionsView}
use Rattle.policy_state.proofs.UserTables.{listed-find}
use Rattle.policy_state.proofs.users.PermissionTable.get.Goals as goal

pub returns : goal.returns
returns c =
    c.copied.ensures ∙ c.get.ensures.value ∙ listed-find _ (λ a b. refl) c.args.uid c.self.inside.by_uid.entries
    ∙ ap (λ (v : PermissionsView). option_map (λ p. p.permission) (find (is_of_user c.args.uid) v.permissions)) c.self.view_is
