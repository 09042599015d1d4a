-- The network that a user's packets go by: a VPN that holds the user, or a physical network that is preferred for an app.
use Rattle.std.specs.Prelude.{◌≡◌, ℕ, ◌<◌, ◌&&◌, Bool, List, Option, Some, None, find, if◌then◌else◌}
use Rattle.std.specs.List.{list_any}
use Rattle.networks.specs.Kinds.{ranges_of, is_physical, is_virtual, is_secure, is_bypass}
use Rattle.networks.specs.declared.kind.Kind.{Kind}
use Rattle.networks.specs.declared.network.Network.{Network}
use Rattle.uid_ranges.specs.declared.ranked.Ranked.{Ranked}
use Rattle.network_store.specs.RankIndex.{holds_at}

-- a range of this rank holds the UID
abbrev pub holds_rank : ℕ → ℕ → List Ranked → Bool
holds_rank rank uid ranges = list_any (λ r. holds_at rank uid r) ranges

-- a secure VPN, or one that may be passed by
abbrev pub is_vpn : Bool → Kind → Bool
is_vpn secure k = if secure then is_secure k else is_bypass k

-- the virtual network, of either kind, that holds the UID at this rank
abbrev pub user_at : ℕ → ℕ → List Network → Option Network
user_at rank uid networks = find (λ n. is_virtual n.kind && holds_rank rank uid (ranges_of n.kind)) networks

-- the one of this kind
abbrev pub holder_at : Bool → ℕ → ℕ → List Network → Option Network
holder_at secure rank uid networks = find (λ n. is_vpn secure n.kind && holds_rank rank uid (ranges_of n.kind)) networks

-- the physical network that is preferred for the app at this rank
abbrev pub preferred_at : ℕ → ℕ → List Network → Option Network
preferred_at rank uid networks = find (λ n. is_physical n.kind && holds_rank rank uid (ranges_of n.kind)) networks

-- the virtual network, of either kind, whose range of the lowest rank holds the UID
pub record IsVpnOf (uid : ℕ) (networks : List Network) (network : Network) : Type 0 where
  pub rank : ℕ
  pub at : user_at rank uid networks ≡ Some network
  pub lowest : (lower : ℕ) → lower < rank → user_at lower uid networks ≡ None
