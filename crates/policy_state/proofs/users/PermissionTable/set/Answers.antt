use Rattle.std.proofs.Common.{◌<◌, ◌∙◌, refl, subst, sym, ap}
use Rattle.list_lemmas.proofs.Found.{on-ok}
use Rattle.policy_state.specs.Step.{with_permission_of}
use Rattle.policy_state.specs.UserLists.{PermissionsView, permissions_in}
use Rattle.policy_state.proofs.UserTables.{listed-insert}
use Rattle.policy_state.proofs.users.PermissionTable.set.Goals as goal

pub returns : goal.returns
returns c =
    let room = subst (λ (v : PermissionsView). 0 < v.room) (sym c.self.view_is) c.requires in
    ap permissions_in (on-ok c.insert.result _ (c.insert.ensures.succeeds room) c.insert.ensures.entries)
    ∙ listed-insert _ (λ a b. refl) c.args.uid c.args.permission c.self.inside.by_uid.entries
    ∙ ap (λ (v : PermissionsView). with_permission_of c.args.uid c.args.permission v.permissions) c.self.view_is
