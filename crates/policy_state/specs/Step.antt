-- Which commands are refused, and what the others change, after netd's RouteController and NetworkController.
use Rattle.std.specs.Prelude.{◌∷◌, [], ◌++◌, ◌+◌, ◌&&◌, ◌||◌, ◌==◌, ℕ, Bool, true, false, List, Option, Some, None, length, nat_le, nat_lt, not, filter, map, is_none, is_some, codes, if◌then◌else◌}
use Rattle.std.specs.List.{list_any, list_all}
use Rattle.std.specs.Str.{bytes_eq}
use Rattle.fib_table.specs.Table.{has_key}
use Rattle.fwmark.specs.declared.permission.Permission.{Permission}
use Rattle.net_names.specs.declared.code.Code.{Code}
use Rattle.net_names.specs.declared.code.Code.TheVariants as code
-- a network's ranges are the apps of a physical network or the users of a VPN
pub use Rattle.network_store.specs.Stored.{kind_with, kind_without, with_ranges, without_ranges}
use Rattle.networks.specs.Lists.{find_id, find_link}
use Rattle.networks.specs.Network.{has_link, local_id, routes_by, is_keyed_by}
use Rattle.networks.specs.declared.network.Network.{Network}
use Rattle.networks.specs.declared.kind.Kind.TheVariants as kind
use Rattle.prefixes.specs.Addr.{family_of, same_family}
use Rattle.rule_match.specs.Packet.{lo}
use Rattle.prefixes.specs.declared.route.Out.{Out}
use Rattle.prefixes.specs.declared.route.Out.TheVariants as out
use Rattle.prefixes.specs.declared.prefix.Prefix.{Prefix}
use Rattle.prefixes.specs.declared.route.Route.{Route}
use Rattle.uid_ranges.specs.Ranges.{has, lists_meet, self_meets, without}
use Rattle.uid_ranges.specs.Ranks.{last_rank, all_at, has_users, ranked_without, users_meet, users_meet_at}
use Rattle.uid_ranges.specs.declared.range.Uid.{Uid}
use Rattle.uid_ranges.specs.declared.range.UidRange.{UidRange}
use Rattle.networks.specs.Kinds as kinds
use Rattle.policy_state.specs.Counts.{rule_count}
use Rattle.policy_state.specs.Good.{most_links, most_networks, most_interfaces, most_routes, most_ranges, most_lockdown_ranges, most_pairs, most_users, most_rules}
use Rattle.policy_state.specs.View.{StateView, Kind, TetherPair, UserPermission, link_named}
pub use Rattle.commands.specs.Commands.{FitsTypes}
use Rattle.commands.specs.declared.command.Command.{Command}
use Rattle.commands.specs.declared.command.Command.TheVariants as command
use Rattle.commands.specs.declared.command.Way.{Way}
use Rattle.commands.specs.declared.command.Way.TheVariants as way

-- a reason to refuse a command, and the code that says so
pub record Reason : Type 0 where
  pub holds : Bool
  pub code : Code

abbrev pub first_that_holds : List Reason → Option Code
first_that_holds [] = None
first_that_holds (reason ∷ reasons) = if reason.holds then Some reason.code else first_that_holds reasons

abbrev pub because : Code → Bool → Reason
because c holds = record { holds = holds; code = c }

-- no network has the id
abbrev pub is_net_unknown : StateView → ℕ → Bool
is_net_unknown s net = is_none (find_id net s.networks)

-- the test holds of the network of this id; where there is none, it doesn't
abbrev pub of_net : StateView → ℕ → (Network → Bool) → Bool
of_net s net test = elim (find_id net s.networks) [ Some n ↦ test n | None ↦ false ]

abbrev pub is_physical : StateView → ℕ → Bool
is_physical s net = of_net s net (λ n. kinds.is_physical n.kind)

abbrev pub is_virtual : StateView → ℕ → Bool
is_virtual s net = of_net s net (λ n. kinds.is_virtual n.kind)

-- the test holds of the index of the link of this name; where no link has it, it doesn't
abbrev pub of_link : StateView → List ℕ → (ℕ → Bool) → Bool
of_link s name test = elim (link_named s name) [ Some link ↦ test link | None ↦ false ]

-- the link is an interface of this network
abbrev pub is_in : StateView → ℕ → ℕ → Bool
is_in s net link = of_net s net (λ n. has_link n link)

-- the link is an interface of some network
abbrev pub is_in_any : StateView → ℕ → Bool
is_in_any s link = is_some (find_link link s.networks)

-- the network has as many interfaces as it may
abbrev pub is_full : StateView → ℕ → Bool
is_full s net = of_net s net (λ n. nat_le most_interfaces (length n.interfaces))

-- the routes of a network's interface
abbrev pub routes_at : StateView → ℕ → ℕ → List Route
routes_at s net link = elim (find_id net s.networks) [ Some n ↦ routes_by link n.routes | None ↦ [] ]

-- the routes of the table that this interface's routes are in: the local network has one table for all of its interfaces
abbrev pub table_routes_of : Network → ℕ → List Route
table_routes_of n link = if kinds.is_local n.kind then map (λ r. r.route) n.routes else routes_by link n.routes

abbrev pub table_routes : StateView → ℕ → ℕ → List Route
table_routes s net link = elim (find_id net s.networks) [ Some n ↦ table_routes_of n link | None ↦ [] ]

abbrev pub is_local_net : StateView → ℕ → Bool
is_local_net s net = of_net s net (λ n. kinds.is_local n.kind)

-- the link is the input of a tether pair
abbrev pub is_input : StateView → ℕ → Bool
is_input s link = list_any (λ p. p.input == link) s.pairs

-- a range of the network meets one of these
abbrev pub ranges_meet : StateView → ℕ → List UidRange → Bool
ranges_meet s net ranges = of_net s net (λ n. users_meet (kinds.ranges_of n.kind) ranges)

-- a range of this rank of some network that passes the test meets one of these
abbrev pub any_meet_at : (Kind → Bool) → StateView → ℕ → List UidRange → Bool
any_meet_at test s rank ranges = list_any (λ n. test n.kind && users_meet_at rank (kinds.ranges_of n.kind) ranges) s.networks

-- with so many ranges more the network has more than it may
abbrev pub has_too_many_ranges : StateView → ℕ → ℕ → Bool
has_too_many_ranges s net more = of_net s net (λ n. nat_lt most_ranges (length (kinds.ranges_of n.kind) + more))

-- each of these very ranges is one of the network
abbrev pub has_ranges : StateView → ℕ → List UidRange → Bool
has_ranges s net ranges = of_net s net (λ n. list_all (has_users (kinds.ranges_of n.kind)) ranges)

-- it is this user's
abbrev pub is_of_user : Uid → UserPermission → Bool
is_of_user uid p = p.uid.number == uid.number

-- a permission is stored for the user
abbrev pub has_permission : StateView → Uid → Bool
has_permission s uid = list_any (is_of_user uid) s.permissions

abbrev pub is_user : Uid → Uid → Bool
is_user uid other = other.number == uid.number

-- the user is one of those who may protect
abbrev pub is_protectable : StateView → Uid → Bool
is_protectable s uid = list_any (is_user uid) s.protectable

abbrev pub is_pair : TetherPair → TetherPair → Bool
is_pair pair other = (other.input == pair.input) && (other.out == pair.out)

-- the test holds of the indices of the links of these names; where one of them is of no link, it doesn't
abbrev pub of_links : StateView → List ℕ → List ℕ → (ℕ → ℕ → Bool) → Bool
of_links s input out test = of_link s input (λ came. of_link s out (λ goes. test came goes))

-- the pair stands among the tether pairs
abbrev pub has_pair : StateView → ℕ → ℕ → Bool
has_pair s input out = list_any (is_pair (record { input = input; out = out })) s.pairs

-- the link is an interface of the local network
abbrev pub is_in_local : StateView → ℕ → Bool
is_in_local s link = elim (find_link link s.networks) [ Some n ↦ kinds.is_local n.kind | None ↦ false ]

-- where a route by this link goes
abbrev pub out_of : ℕ → Way → Out
out_of link way.Direct = out.Dev link None
out_of link (way.Via gateway) = out.Dev link (Some gateway)
out_of link way.Unreachable = out.Unreachable
out_of link way.Throw = out.Throw

abbrev pub route_of : ℕ → Prefix → Way → Route
route_of link prefix w = record { prefix = prefix; out = out_of link w }

-- a gateway is of another family than the prefix
abbrev pub is_way_of_other_family : Prefix → Way → Bool
is_way_of_other_family prefix (way.Via gateway) = not (same_family (family_of gateway) (family_of prefix.base))
is_way_of_other_family prefix _ = false

-- a route that is unreachable or throw
abbrev pub is_special : Way → Bool
is_special way.Direct = false
is_special (way.Via gateway) = false
is_special way.Unreachable = true
is_special way.Throw = true

-- a route of the key that a removal names
abbrev pub key_of : ℕ → Prefix → Bool → Route
key_of link prefix special = record { prefix = prefix; out = if special then out.Unreachable else out.Dev link None }

-- the reasons that a route's network and link give
abbrev pub route_reasons : StateView → ℕ → List ℕ → List Reason
route_reasons s net name =
    because code.NoNetwork (is_net_unknown s net)
    ∷ because code.NoDevice (not (of_link s name (is_in_any s)))
    ∷ because code.NoEntry (not (of_link s name (is_in s net)))
    ∷ []

-- the reasons that ranges give which come to a network of a kind that has such ranges
abbrev pub ranges_come_reasons : (Kind → Bool) → StateView → ℕ → ℕ → List UidRange → List Reason
ranges_come_reasons test s net rank ranges =
    because code.NoNetwork (is_net_unknown s net)
    ∷ because code.Invalid (not (of_net s net (λ n. test n.kind)) || self_meets ranges || nat_lt last_rank rank)
    ∷ because code.Exists (ranges_meet s net ranges || any_meet_at test s rank ranges)
    ∷ because code.NoSpace (has_too_many_ranges s net (length ranges))
    ∷ []

-- and those of ranges that go
abbrev pub ranges_go_reasons : (Kind → Bool) → StateView → ℕ → List UidRange → List Reason
ranges_go_reasons test s net ranges =
    because code.NoNetwork (is_net_unknown s net)
    ∷ because code.Invalid (not (of_net s net (λ n. test n.kind)) || self_meets ranges)
    ∷ because code.NoEntry (not (has_ranges s net ranges))
    ∷ []

-- the reasons to refuse each command, in order
abbrev pub reasons : StateView → Command → List Reason
reasons s (command.LinkAdd name index) =
    because code.Invalid (nat_lt index 2)
    ∷ because code.Exists (list_any (λ l. bytes_eq l.name name || l.index == index) s.links)
    ∷ because code.NoSpace (nat_le most_links (length s.links))
    ∷ []
reasons s (command.LinkRemove name) =
    because code.NoDevice (is_none (link_named s name))
    ∷ because code.Invalid (bytes_eq name (codes "lo"))
    ∷ because code.Busy (of_link s name (λ link. is_in_any s link || is_input s link))
    ∷ []
reasons s (command.CreatePhysical net permission) =
    because code.Invalid (nat_lt net 100)
    ∷ because code.Exists (not (is_net_unknown s net))
    ∷ because code.NoSpace (nat_le most_networks (length s.networks))
    ∷ []
reasons s (command.CreateVirtual net secure) =
    because code.Invalid (nat_lt net 100)
    ∷ because code.Exists (not (is_net_unknown s net))
    ∷ because code.NoSpace (nat_le most_networks (length s.networks))
    ∷ []
reasons s (command.Destroy net) =
    because code.Invalid (net == local_id)
    ∷ because code.NoNetwork (is_net_unknown s net)
    ∷ []
-- a link that is in the network already changes nothing
reasons s (command.InterfaceAdd net name) =
    because code.NoNetwork (is_net_unknown s net)
    ∷ because code.Invalid (bytes_eq name (codes "lo"))
    ∷ because code.NoDevice (is_none (link_named s name))
    ∷ because code.Busy (of_link s name (λ link. is_in_any s link && not (is_in s net link)))
    ∷ because code.NoSpace (of_link s name (λ link. not (is_in s net link) && is_full s net))
    ∷ []
-- a name that is in no interface of the network changes nothing
reasons s (command.InterfaceRemove net name) = because code.NoNetwork (is_net_unknown s net) ∷ []
reasons s (command.RouteAdd net name prefix w) =
    route_reasons s net name
    ++ because code.Invalid (is_special w && is_local_net s net || is_way_of_other_family prefix w)
    ∷ because code.Exists (of_link s name (λ link. has_key (routes_at s net link) (route_of link prefix w)))
    ∷ because code.NoSpace (of_link s name (λ link. nat_le most_routes (length (table_routes s net link))))
    ∷ []
reasons s (command.RouteRemove net name prefix special) =
    route_reasons s net name
    ++ because code.NoRoute (of_link s name (λ link. not (has_key (routes_at s net link) (key_of link prefix special)))) ∷ []
reasons s (command.UsersAdd net rank ranges) = ranges_come_reasons kinds.is_virtual s net rank ranges
reasons s (command.UsersRemove net ranges) = ranges_go_reasons kinds.is_virtual s net ranges
reasons s (command.AppAdd net rank ranges) = ranges_come_reasons kinds.is_physical s net rank ranges
reasons s (command.AppRemove net ranges) = ranges_go_reasons kinds.is_physical s net ranges
-- the same default again changes nothing
reasons s (command.DefaultSet net) =
    because code.NoNetwork (is_net_unknown s net)
    ∷ because code.Invalid (not (is_physical s net))
    ∷ []
reasons s command.DefaultClear = []
reasons s (command.PermissionNetwork net permission) =
    because code.NoNetwork (is_net_unknown s net)
    ∷ because code.Invalid (not (is_physical s net))
    ∷ []
reasons s (command.PermissionUser uid permission) =
    because code.NoSpace (not (has_permission s uid) && nat_le most_users (length s.permissions)) ∷ []
reasons s (command.PermissionClear uid) = []
reasons s (command.ProtectAllow uid) =
    because code.NoSpace (not (is_protectable s uid) && nat_le most_users (length s.protectable)) ∷ []
reasons s (command.ProtectDeny uid) = []
reasons s (command.LockdownAdd range) =
    because code.Exists (lists_meet s.lockdown (range ∷ []))
    ∷ because code.NoSpace (nat_le most_lockdown_ranges (length s.lockdown))
    ∷ []
reasons s (command.LockdownRemove range) = because code.NoEntry (not (has s.lockdown range)) ∷ []
reasons s (command.TetherAdd input out) =
    because code.NoDevice (not (of_links s input out (λ came goes. is_in_any s goes)))
    ∷ because code.Invalid (of_links s input out (λ came goes. (came == goes) || (came == lo) || is_in_local s goes))
    ∷ because code.Exists (of_links s input out (has_pair s))
    ∷ because code.NoSpace (nat_le most_pairs (length s.pairs))
    ∷ []
reasons s (command.TetherRemove input out) = because code.NoEntry (not (of_links s input out (has_pair s))) ∷ []

-- the network of this id changed, and no other
abbrev pub with_net : ℕ → (Network → Network) → StateView → StateView
with_net net change s = record s { networks = map (λ n. if net == n.id then change n else n) s.networks }

-- the network with the link as its last interface, unless it is one of them
abbrev pub with_link : ℕ → Network → Network
with_link link n = if has_link n link then n else record n { interfaces = n.interfaces ++ link ∷ [] }

abbrev pub with_route : ℕ → Route → Network → Network
with_route link route n = record n { routes = n.routes ++ record { link = link; route = route } ∷ [] }

abbrev pub without_route : ℕ → Route → Network → Network
without_route link key n = record n { routes = filter (λ r. not (is_keyed_by link key r)) n.routes }

-- a physical network asks for this permission, and stays preferred for its apps
abbrev pub asking_for : Permission → Kind → Kind
asking_for permission kind.Local = kind.Local
asking_for permission (kind.Physical old apps) = kind.Physical permission apps
asking_for permission (kind.Virtual secure users) = kind.Virtual secure users

abbrev pub with_permission : Permission → Network → Network
with_permission permission n = record n { kind = asking_for permission n.kind }

-- without the interface and its routes
abbrev pub without_link : ℕ → Network → Network
without_link link n = record n {
  interfaces = filter (λ i. not (i == link)) n.interfaces;
  routes = filter (λ r. not (r.link == link)) n.routes;
}

-- a network without interfaces, routes and ranges goes last
abbrev pub with_new_net : ℕ → Kind → StateView → StateView
with_new_net net k s = record s { networks = s.networks ++ record { id = net; kind = k; interfaces = []; routes = [] } ∷ [] }

-- The network goes. It is the default no more, and tether pairs go with the interfaces by which they go out.
abbrev pub without_net : ℕ → StateView → StateView
without_net net s = record s {
  networks = filter (λ n. not (net == n.id)) s.networks;
  pairs = filter (λ p. not (is_in s net p.out)) s.pairs;
  default = elim s.default [ Some id ↦ if id == net then None else Some id | None ↦ None ];
}

-- the interface leaves its network, and with it go its routes and the tether pairs that go out by it
abbrev pub without_interface : ℕ → ℕ → StateView → StateView
without_interface net link s =
    if is_in s net link
    then record (with_net net (without_link link) s) { pairs = filter (λ p. not (p.out == link)) s.pairs }
    else s

-- the user's permission in the place of an earlier one, or last
abbrev pub with_permission_of : Uid → Permission → List UserPermission → List UserPermission
with_permission_of uid permission [] = record { uid = uid; permission = permission } ∷ []
with_permission_of uid permission (p ∷ ps) =
    if is_of_user uid p then record p { permission = permission } ∷ ps else p ∷ with_permission_of uid permission ps

-- a state changed by the links of these names; where one of them is of no link, it stays
abbrev pub changed_by_links : StateView → List ℕ → List ℕ → (ℕ → ℕ → StateView → StateView) → StateView
changed_by_links s input out change = elim (link_named s input) [
  | Some came ↦ elim (link_named s out) [ Some goes ↦ change came goes s | None ↦ s ]
  | None ↦ s
]

-- a state changed by the link of this name; where no link has it, it stays
abbrev pub changed_by_link : StateView → List ℕ → (ℕ → StateView → StateView) → StateView
changed_by_link s name change = elim (link_named s name) [ Some link ↦ change link s | None ↦ s ]

-- the state after a command that is accepted: this and nothing else is changed
abbrev pub changed : StateView → Command → StateView
changed s (command.LinkAdd name index) = record s { links = s.links ++ record { name = name; index = index } ∷ [] }
changed s (command.LinkRemove name) = record s { links = filter (λ l. not (bytes_eq l.name name)) s.links }
changed s (command.CreatePhysical net permission) = with_new_net net (kind.Physical permission []) s
changed s (command.CreateVirtual net secure) = with_new_net net (kind.Virtual secure []) s
changed s (command.Destroy net) = without_net net s
changed s (command.InterfaceAdd net name) = changed_by_link s name (λ link. with_net net (with_link link))
changed s (command.InterfaceRemove net name) = changed_by_link s name (λ link. without_interface net link)
changed s (command.RouteAdd net name prefix w) = changed_by_link s name (λ link. with_net net (with_route link (route_of link prefix w)))
changed s (command.RouteRemove net name prefix special) = changed_by_link s name (λ link. with_net net (without_route link (key_of link prefix special)))
changed s (command.UsersAdd net rank ranges) = with_net net (with_ranges rank ranges) s
changed s (command.UsersRemove net ranges) = with_net net (without_ranges ranges) s
changed s (command.AppAdd net rank ranges) = with_net net (with_ranges rank ranges) s
changed s (command.AppRemove net ranges) = with_net net (without_ranges ranges) s
changed s (command.DefaultSet net) = record s { default = Some net }
changed s command.DefaultClear = record s { default = None }
changed s (command.PermissionNetwork net permission) = with_net net (with_permission permission) s
changed s (command.PermissionUser uid permission) = record s { permissions = with_permission_of uid permission s.permissions }
changed s (command.PermissionClear uid) = record s { permissions = filter (λ p. not (is_of_user uid p)) s.permissions }
changed s (command.ProtectAllow uid) = if is_protectable s uid then s else record s { protectable = s.protectable ++ uid ∷ [] }
changed s (command.ProtectDeny uid) = record s { protectable = filter (λ u. not (is_user uid u)) s.protectable }
changed s (command.LockdownAdd range) = record s { lockdown = s.lockdown ++ range ∷ [] }
changed s (command.LockdownRemove range) = record s { lockdown = without s.lockdown (range ∷ []) }
changed s (command.TetherAdd input out) =
    changed_by_links s input out (λ came goes t. record t { pairs = t.pairs ++ record { input = came; out = goes } ∷ [] })
changed s (command.TetherRemove input out) =
    changed_by_links s input out (λ came goes t. record t { pairs = filter (λ p. not (is_pair (record { input = came; out = goes }) p)) t.pairs })

-- the last reason of every command: the state after it would have more rules than a kernel is given
abbrev pub has_too_many_rules : StateView → Command → Bool
has_too_many_rules s c = nat_lt most_rules (rule_count (changed s c))

abbrev pub all_reasons : StateView → Command → List Reason
all_reasons s c = reasons s c ++ because code.NoSpace (has_too_many_rules s c) ∷ []

-- the code of the first reason that holds, or none where the command is accepted
abbrev pub refusal : StateView → Command → Option Code
refusal s c = first_that_holds (all_reasons s c)
