use Rattle.std.proofs.Common.{◌≡◌, ◌∙◌, true, ap, is_some, refl, Option, Some, None}
use Rattle.mark_server.proofs.Held.{low-networks, held-is}
use Rattle.mark_server.specs.Users.{id_of, holder}
use Rattle.networks.specs.declared.network.Network.{Network}
use Rattle.mark_server.proofs.user_networks.is_held.Goals as goal

same-some : (o : Option Network) → is_some (id_of o) ≡ is_some o
same-some None = refl
same-some (Some n) = refl

pub returns : goal.returns
returns c =
    let state = c.args.state.now in
    c.is_some.ensures ∙ ap is_some c.holder.ensures.network ∙ same-some (holder true state c.args.uid)
    ∙ held-is state c.args.uid (low-networks state.networks c.holder.ensures.good.formed.networks)
