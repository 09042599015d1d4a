use Rattle.std.proofs.Common.{◌==◌, ◌∙◌, not, filter, ap, rules}
use Rattle.indexmap.proofs.CallerLemmas.{filter-RetainsPairs}
use Rattle.policy_state.specs.Step.{is_of_user}
use Rattle.policy_state.specs.UserLists.{PermissionsView, permissions_in}
use Rattle.policy_state.proofs.UserTables.{listed-filter}
use Rattle.policy_state.proofs.users.PermissionTable.forget.Goals as goal

pub returns : goal.returns
returns c =
    ap permissions_in (filter-RetainsPairs _ (λ e. not (e.0.number == c.args.uid.number)) _ (λ k v b w g h. search rules) c.self.inside.by_uid.entries c.retain.new.self.entries c.retain.ensures.filtered)
    ∙ listed-filter (λ p. not (is_of_user c.args.uid p)) c.self.inside.by_uid.entries
    ∙ ap (λ (v : PermissionsView). filter (λ p. not (is_of_user c.args.uid p)) v.permissions) c.self.view_is
