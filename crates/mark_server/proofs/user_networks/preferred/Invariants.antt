use Rattle.std.proofs.Common.{◌≡◌, ℕ, ◌<◌, None}
use Rattle.mark_server.specs.Users.{id_of, free_at}
use Rattle.network_store.specs.Store.{nets_of}
use Rattle.mark_server.proofs.user_networks.preferred.Given as goal

-- none at a lower rank
abbrev pub invariant-loop-rank : goal.invariant-loop-rank
invariant-loop-rank l = (lower : ℕ) → lower < l.rank → id_of (free_at lower l.uid.number (nets_of l.networks)) ≡ None
