use Rattle.std.proofs.Common.{◌∙◌, ap, sym}
use Rattle.std.specs.Option.{option_map}
use Rattle.networks.specs.Lists.{find_id}
use Rattle.network_store.specs.Stored.{net_of}
use Rattle.policy_meaning.proofs.DefaultNetwork.{default-found, default-none}
use Rattle.policy_meaning.proofs.named.default_network.Goals as goal

pub returns-in_err-id : goal.returns-in_err-id
returns-in_err-id c = ap (option_map (λ n. net_of n.now)) c.from_residual.ensures ∙ sym (default-none c.args.state.now (sym c.in_err-id.ensures))

pub returns : goal.returns
returns c =
    let s = c.args.state.now in
    c.get.ensures ∙ (ap (find_id c.in_ok-id.id) c.networks.ensures.value ∙ sym (default-found s c.networks.ensures.good c.in_ok-id.id (sym c.in_ok-id.ensures)))
