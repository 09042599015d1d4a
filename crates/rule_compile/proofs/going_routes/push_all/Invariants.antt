use Rattle.std.proofs.Common.{◌≡◌, ◌++◌, map, take}
use Rattle.kernel_model.specs.Switch.{requests_of}
use Rattle.rule_compile.proofs.going_routes.push_all.Given as goal

abbrev pub invariant-loop-route : goal.invariant-loop-route
invariant-loop-route l = l.requests.items ≡ l.initial.requests.items ++ requests_of (map (λ route. (l.table, route)) (take l.route-index l.routes))
