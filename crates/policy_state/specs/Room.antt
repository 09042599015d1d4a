-- Which changes take no memory.
use Rattle.std.specs.Prelude.{◌<◌, length, vec_len, vec_capacity}
use Rattle.network_store.specs.Store.{HasRoomAt, HasRangesRoom}
use Rattle.network_store.specs.Stored.{HasRouteRoom}
use Rattle.policy_state.specs.declared.change.Change.{Change}
use Rattle.policy_state.specs.declared.change.Change.TheVariants as change
use Rattle.policy_state.specs.declared.parts.Parts.{Parts}

-- there is room for what comes
abbrev pub HasRoom : Change → Parts → Type 0
HasRoom (change.LinkComes link) parts = 0 < parts.links.room
HasRoom (change.PhysicalComes net permission) parts = 0 < parts.networks.more
HasRoom (change.VirtualComes net secure) parts = 0 < parts.networks.more
HasRoom (change.InterfaceComes net link) parts = 0 < parts.networks.more_links
HasRoom (change.RouteComes net link route) parts = HasRoomAt net HasRouteRoom parts.networks
HasRoom (change.RangesCome net rank ranges) parts = HasRangesRoom net (length ranges.now) parts.networks
HasRoom (change.UserPermission uid permission) parts = 0 < parts.permissions.room
HasRoom (change.ProtectAllowed uid) parts = 0 < parts.protectable.room
HasRoom (change.LockdownComes range) parts = vec_len parts.lockdown < vec_capacity parts.lockdown
HasRoom (change.PairComes pair) parts = vec_len parts.pairs < vec_capacity parts.pairs
HasRoom _ parts = Unit {0}
