use Rattle.std.proofs.Common.{◌≡◌, ℕ, ◌<◌, None}
use Rattle.mark_server.specs.Users.{id_of}
use Rattle.network_store.specs.Holders.{holder_at}
use Rattle.network_store.specs.Store.{nets_of}
use Rattle.mark_server.proofs.user_networks.holder.Given as goal

-- none at a lower rank
abbrev pub invariant-loop-rank : goal.invariant-loop-rank
invariant-loop-rank l = (lower : ℕ) → lower < l.rank → id_of (holder_at l.secure lower l.uid.number (nets_of l.networks)) ≡ None
