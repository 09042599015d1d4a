use Rattle.std.proofs.Common.{◌≡◌, true, Some, sym, rules}
use Rattle.network_store.specs.Stored.{net_of}
use Rattle.networks.specs.Lists.{find_id}
use Rattle.networks.specs.Network.{has_link}
use Rattle.policy_state.specs.Parts.{view_of}
use Rattle.policy_state.specs.Step.{without_interface}
use Rattle.policy_state.specs.View.{StateView, link_named}
use Rattle.policy_state.proofs.Accepted.{changed_by_link-at}
use Rattle.policy_state.proofs.AcceptLemmas.{names-interface, owner-at}
use Rattle.policy_state.proofs.parts.Parts.interface_goes.Goals as goal

pub returns-clause-makes : goal.returns-clause-makes
returns-clause-makes c =
    let s : StateView = view_of c.args.self.now in
    let link = c.in-Some-index_of.link in
    let named : link_named s c.args.name.now ≡ Some c.in-Some-index_of.link = search rules in
    let found : find_id c.args.net s.networks ≡ Some (net_of c.in-Some.network.now) = sym c.in-Some.ensures in
    let has : has_link (net_of c.in-Some.network.now) c.in-Some-index_of.link ≡ true = search rules in
    record {
      turned = sym (changed_by_link-at s c.args.name.now (λ i. without_interface c.args.net i) link named);
      fits = owner-at s c.requires.formed c.args.net (net_of c.in-Some.network.now) link found has;
      routes = names-interface s c.args.net c.args.name.now (net_of c.in-Some.network.now) link named found has;
    }
