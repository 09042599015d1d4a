-- What the mark server knows of users, after netd's NetworkController: their permissions, and the networks that they get. Ranks
-- of a VPN's users, and networks that apps prefer, are this project's own.
use Rattle.std.specs.Prelude.{ℕ, ◌+◌, ◌&&◌, ◌||◌, Bool, true, false, List, [], ◌∷◌, Option, Some, None, find, nat_lt, unwrap_or, if◌then◌else◌}
use Rattle.std.specs.List.{list_any}
use Rattle.std.specs.Option.{option_map, option_or}
use Rattle.fwmark.specs.declared.permission.Permission.{Permission}
use Rattle.fwmark.specs.declared.permission.Permission.TheVariants as permission
use Rattle.network_store.specs.Holders.{holds_rank, holder_at, user_at}
use Rattle.networks.specs.Kinds.{ranges_of, is_free, is_secure, is_virtual}
use Rattle.networks.specs.Lists.{find_id}
use Rattle.networks.specs.declared.network.Network.{Network}
use Rattle.policy_state.specs.Rows.{numbers_from}
use Rattle.policy_state.specs.Step.{is_protectable}
use Rattle.policy_state.specs.Users.{permission_of}
use Rattle.policy_state.specs.View.{StateView}
use Rattle.uid_ranges.specs.Ranks.{last_rank, holds_user}
use Rattle.uid_ranges.specs.declared.range.Uid.{Uid}

-- the first UID of an app; those below are the system's own (Android's android_filesystem_config.h)
abbrev pub first_app : ℕ
first_app = 10000

-- the permission that is stored for the user; else the system's own users have system, and apps have none
abbrev pub user_permission : StateView → Uid → Permission
user_permission s uid = unwrap_or (permission_of s uid) (if nat_lt uid.number first_app then permission.System else permission.Nothing)

abbrev pub is_system : Permission → Bool
is_system permission.Nothing = false
is_system permission.Network = false
is_system permission.System = true

-- the user has the system's permission
abbrev pub has_system : StateView → Uid → Bool
has_system s uid = is_system (user_permission s uid)

-- the user may protect sockets from VPNs
abbrev pub may_protect : StateView → Uid → Bool
may_protect s uid = has_system s uid || is_protectable s uid

-- what is found at the first of these ranks at which something is found
abbrev pub first_found : {N : Type 0} → (ℕ → Option N) → List ℕ → Option N
first_found at [] = None
first_found at (rank ∷ ranks) = option_or (at rank) (first_found at ranks)

-- what is found at the lowest rank
unfoldable pub at_lowest : {N : Type 0} → (ℕ → Option N) → Option N
at_lowest at = first_found at (numbers_from 0 (last_rank + 1))

abbrev pub id_of : Option Network → Option ℕ
id_of network = option_map (λ n. n.id) network

-- the VPN of this kind, secure or bypassable, whose range of the lowest rank holds the user
abbrev pub holder : Bool → StateView → Uid → Option Network
holder secure s uid = at_lowest (λ rank. holder_at secure rank uid.number s.networks)

-- the VPN of either kind
abbrev pub vpn_of : StateView → Uid → Option Network
vpn_of s uid = at_lowest (λ rank. user_at rank uid.number s.networks)

-- some secure VPN holds the user
abbrev pub is_held : StateView → Uid → Bool
is_held s uid = list_any (λ n. is_secure n.kind && holds_user (ranges_of n.kind) uid.number) s.networks

-- the physical network that asks for no permission and that the app prefers at this rank
abbrev pub free_at : ℕ → ℕ → List Network → Option Network
free_at rank uid networks = find (λ n. is_free n.kind && holds_rank rank uid (ranges_of n.kind)) networks

-- the default network of an app: the one that it prefers at the lowest rank, or else everyone's
abbrev pub app_net : StateView → Uid → Option ℕ
app_net s uid = option_or (id_of (at_lowest (λ rank. free_at rank uid.number s.networks))) s.default

-- the network of this id is a VPN
abbrev pub is_vpn_id : StateView → ℕ → Bool
is_vpn_id s net = elim (find_id net s.networks) [ Some n ↦ is_virtual n.kind | None ↦ false ]
