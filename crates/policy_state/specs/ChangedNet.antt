-- The one network that a change may touch, and what it has of the tallies.
use Rattle.std.specs.Prelude.{ℕ, List, Option, Some, None, cond}
use Rattle.networks.specs.Kinds.{is_virtual}
use Rattle.policy_state.specs.Tallies.{own, share}
use Rattle.policy_state.specs.View.{Network}
use Rattle.policy_state.specs.declared.change.Change.{Change}
use Rattle.policy_state.specs.declared.change.Change.TheVariants as change
use Rattle.policy_state.specs.declared.count.Tallies.{Tallies}

abbrev pub net_of : Change → Option ℕ
net_of (change.PhysicalComes net permission) = Some net
net_of (change.VirtualComes net secure) = Some net
net_of (change.NetworkGoes net) = Some net
net_of (change.InterfaceComes net link) = Some net
net_of (change.InterfaceGoes net link) = Some net
net_of (change.RouteComes net link route) = Some net
net_of (change.RouteGoes net link key) = Some net
net_of (change.RangesCome net rank ranges) = Some net
net_of (change.RangesGo net ranges) = Some net
net_of (change.NetworkPermission net permission) = Some net
net_of _ = None

-- what the network of this id has of a tally, where there is one
abbrev pub share_in : (Network → ℕ) → Option ℕ → List Network → ℕ
share_in f None ns = 0
share_in f (Some net) ns = share f net ns

abbrev pub counts_virtual : Network → ℕ
counts_virtual n = cond (is_virtual n.kind) 1 0

abbrev pub shares_of : Option ℕ → List Network → Tallies
shares_of net ns = record { own = share_in own net ns; virtuals = share_in counts_virtual net ns }
