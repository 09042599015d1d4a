use Rattle.std.proofs.Common.{◌∷◌, [], ◌++◌, List, sym, ap, ◌∙◌}
use Rattle.kernel_model.specs.declared.request.Request.{Request}
use Rattle.kernel_model.specs.declared.request.Request.TheVariants as req
use Rattle.network_store.specs.Stored.{net_of}
use Rattle.rule_compile.proofs.RoutesLeft.{no-route, one-route}
use Rattle.rule_compile.proofs.routes.requests_by.Goals as goal

pub returns-in_default : goal.returns-in_default
returns-in_default c = c.new-requests.ensures.items ∙ sym (no-route (net_of c.args.network.now) c.args.link c.args.key.now (sym c.find.ensures ∙ c.in_default.is))

pub returns : goal.returns
returns c =
    c.in_ok-push.ensures.items
    ∙ (ap (λ (qs : List Request). qs ++ req.Route c.table_of.result c.in-Some.route.route ∷ []) c.new-requests.ensures.items
    ∙ (ap (λ table. req.Route table c.in-Some.route.route ∷ []) c.table_of.ensures
    ∙ sym (one-route (net_of c.args.network.now) c.args.link c.args.key.now c.in-Some.route c.requires.once (sym c.find.ensures ∙ c.in-Some.is))))
