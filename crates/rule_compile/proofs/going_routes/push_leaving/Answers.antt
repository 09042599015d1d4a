use Rattle.std.proofs.Common.{◌≡◌, ◌++◌, ℕ, List, IfOk, subst}
use Rattle.kernel_model.specs.Switch.{requests_of}
use Rattle.network_store.specs.Stored.{net_of}
use Rattle.prefixes.specs.declared.route.Route.{Route}
use Rattle.rule_compile.proofs.RoutesLeft.{leaving-is}
use Rattle.rule_compile.proofs.going_routes.push_leaving.Goals as goal

pub returns : goal.returns
returns c =
    subst (λ (gs : List (ℕ × Route)). IfOk c.push_all.result (λ x. c.push_all.new.requests.items ≡ c.args.requests.now.items ++ requests_of gs))
    (leaving-is (net_of c.args.network.now) c.args.link c.table_of-table.result c.deref.result.now c.put_shortest_first.new.routes.items c.in_ok-routes.routes.items
    c.table_of-table.ensures c.in_ok-routes.ensures c.in_ok-put_shortest_first.ensures c.deref.ensures.value) c.push_all.ensures
