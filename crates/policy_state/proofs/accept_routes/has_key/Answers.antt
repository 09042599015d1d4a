use Rattle.std.proofs.Common.{◌∙◌, sym}
use Rattle.prefixes.specs.Route.{same_key}
use Rattle.policy_state.proofs.RouteLists.{any-routes_by}
use Rattle.policy_state.proofs.accept_routes.has_key.Goals as goal

pub returns-clause-by_link : goal.returns-clause-by_link
returns-clause-by_link c = c.has_key.ensures ∙ sym (any-routes_by (λ other. same_key other c.args.key.now) c.args.link c.args.network.now.routes.routes)
