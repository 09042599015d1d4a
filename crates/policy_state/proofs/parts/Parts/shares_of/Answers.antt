use Rattle.std.proofs.Common.{◌==◌, sym}
use Rattle.network_store.specs.Stored.{net_of}
use Rattle.policy_state.specs.Good.{IsNetwork}
use Rattle.policy_state.specs.Parts.{view_of}
use Rattle.policy_state.specs.View.{Network, StateView}
use Rattle.policy_state.proofs.GoodStates.{each-has}
use Rattle.policy_state.proofs.Owners.{find-has}
use Rattle.policy_state.proofs.parts.Parts.shares_of.Goals as goal

pub own_of-requires : goal.own_of-requires
own_of-requires c =
    let s : StateView = view_of c.args.self.now in
    let n : Network = net_of c.in-Some-get.network.now in
    each-has IsNetwork s.networks n c.requires.formed.networks.each (find-has (λ (m : Network). c.in-Some.id == m.id) s.networks n (sym c.in-Some-get.ensures))
