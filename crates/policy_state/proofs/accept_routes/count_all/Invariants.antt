use Rattle.std.proofs.Common.{◌≡◌, ◌≤◌, ◌*◌, length, take}
use Rattle.std.specs.Prelude.{sum_by}
use Rattle.networks.specs.Network.{routes_by}
use Rattle.policy_state.proofs.accept_routes.count_all.Given as goal

abbrev pub invariant-loop-link : goal.invariant-loop-link
invariant-loop-link l = record {
  counted : l.count ≡ sum_by (λ i. length (routes_by i l.network.routes.routes)) (take l.link-index l.link-items);
  few : l.count ≤ 16384 * l.link-index;
}
