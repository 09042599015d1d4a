use Rattle.std.proofs.Common.{◌∙◌, not, filter, ap, rules}
use Rattle.std.proofs.lemmas.Fn.{filter_same}
use Rattle.policy_state.specs.Step.{is_user}
use Rattle.policy_state.specs.UserLists.{ProtectView}
use Rattle.policy_state.proofs.users.ProtectList.remove.Goals as goal

pub returns : goal.returns
returns c =
    filter_same _ (λ u. not (is_user c.args.uid u)) _ (λ x b f' k. search rules) c.self.inside.users.keys c.retain.new.self.keys c.retain.ensures.filtered
    ∙ ap (λ (v : ProtectView). filter (λ u. not (is_user c.args.uid u)) v.users) c.self.view_is
