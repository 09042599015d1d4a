use Rattle.std.proofs.Common.{◌≡◌, take}
use Rattle.std.specs.Prelude.{flat_map}
use Rattle.kernel_model.specs.Switch.{requests_of}
use Rattle.network_store.specs.Stored.{net_of}
use Rattle.rule_compile.specs.Asked.{leaving_by}
use Rattle.rule_compile.proofs.going_routes.network_routes.Given as goal

abbrev pub invariant-loop-link : goal.invariant-loop-link
invariant-loop-link l = l.requests.items ≡ requests_of (flat_map (leaving_by (net_of l.network)) (take l.link-index (net_of l.network).interfaces))
