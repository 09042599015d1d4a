use Rattle.std.proofs.Common.{◌==◌}
use Rattle.network_store.specs.Stored.{net_of}
use Rattle.policy_state.specs.Good.{IsNetwork}
use Rattle.policy_state.specs.Parts.{view_of}
use Rattle.policy_state.specs.View.{Network, StateView}
use Rattle.policy_state.proofs.GoodStates.{each-has}
use Rattle.policy_state.proofs.Owners.{find-has}
use Rattle.policy_state.proofs.parts.Parts.route_comes.Goals as goal

pub count_in_table-requires : goal.count_in_table-requires
count_in_table-requires c =
    let s : StateView = view_of c.args.self.now in
    let n : Network = net_of c.in-Ok.place.0.now in
    each-has IsNetwork s.networks n c.requires.formed.networks.each (find-has (λ (m : Network). c.args.net == m.id) s.networks n c.in-Ok.ensures.network)
