use Rattle.std.proofs.Common.{◌∙◌, ◌≤◌, ℕ, List, length, ap, arith}
use Rattle.std.specs.Prelude.{sum_by}
use Rattle.std.proofs.lemmas.List.{take_all}
use Rattle.networks.specs.Network.{routes_by}
use Rattle.network_store.specs.Stored.{net_of}
use Rattle.policy_state.proofs.AcceptLemmas.{routes-in_all}
use Rattle.policy_state.proofs.accept_routes.count_all.Goals as goal

pub returns : goal.returns
returns c =
    let at : ℕ → ℕ = λ i. length (routes_by i c.args.network.now.routes.routes) in
    let links : List ℕ = c.as_slice-link-items.result.now in
    let all : length links ≤ c.loop-link.link-index = omega arith in
    c.loop-link.invariant.counted
    ∙ (ap (sum_by at) (take_all c.loop-link.link-index links all ∙ c.as_slice-link-items.ensures.value)
    ∙ routes-in_all (net_of c.args.network.now) c.requires)
