use Rattle.std.proofs.Common.{◌≡◌, None, sym, ap, subst}
use Rattle.mark_server.proofs.Held.{low-networks, vpn-is}
use Rattle.mark_server.proofs.Ranks.{none-lowest}
use Rattle.mark_server.specs.Users.{id_of, at_lowest}
use Rattle.network_store.specs.Holders.{user_at, IsVpnOf}
use Rattle.network_store.specs.Store.{nets_of}
use Rattle.network_store.specs.Stored.{net_of}
use Rattle.mark_server.proofs.user_networks.vpn_of.Goals as goal

pub returns-in_default : goal.returns-in_default
returns-in_default c =
    let none : at_lowest (λ rank. user_at rank c.args.uid.number (nets_of c.networks.result.now)) ≡ None =
    none-lowest (λ rank. user_at rank c.args.uid.number (nets_of c.networks.result.now)) (λ rank below. c.in_default.ensures.none rank) in
    sym (ap id_of (subst (λ ns. at_lowest (λ rank. user_at rank c.args.uid.number ns) ≡ None) c.networks.ensures.value none))

pub returns : goal.returns
returns c =
    let state = c.args.state.now in
    let n = net_of c.in-Some.network.now in
    let it : IsVpnOf c.args.uid.number state.networks n = subst (λ ns. IsVpnOf c.args.uid.number ns n) c.networks.ensures.value c.in-Some.ensures.vpn in
    sym (ap id_of (vpn-is state c.args.uid n (low-networks state.networks c.networks.ensures.good.formed.networks) it))
