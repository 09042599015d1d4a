-- What a stored network stands for, and what the changes of one network make of it.
use Rattle.std.specs.Prelude.{ℕ, ◌==◌, ◌≤◌, ◌<◌, ◌++◌, ◌∷◌, [], not, filter, List}
use Rattle.fwmark.specs.declared.permission.Permission.{Permission}
use Rattle.networks.specs.Network.{is_keyed_by}
use Rattle.networks.specs.declared.kind.Kind.{Kind}
use Rattle.networks.specs.declared.kind.Kind.TheVariants as kind
use Rattle.networks.specs.declared.network.LinkRoute.{LinkRoute}
use Rattle.networks.specs.declared.network.Network.{Network}
use Rattle.prefixes.specs.declared.route.Route.{Route}
use Rattle.uid_ranges.specs.Ranks.{all_at, ranked_without}
use Rattle.uid_ranges.specs.declared.range.UidRange.{UidRange}
use Rattle.network_store.specs.declared.network.StoredKind.{StoredKind}
use Rattle.network_store.specs.declared.network.StoredKind.TheVariants as stored
use Rattle.network_store.specs.declared.network.StoredNetwork.{StoredNetwork}

-- the kind and the network, without the room that is kept for more

abbrev pub kind_of : StoredKind → Kind
kind_of stored.Local = kind.Local
kind_of (stored.Physical permission apps) = kind.Physical permission apps.ranges
kind_of (stored.Virtual secure users) = kind.Virtual secure users.ranges

abbrev pub net_of : StoredNetwork → Network
net_of n = record { id = n.id; kind = kind_of n.kind; interfaces = n.interfaces.items; routes = n.routes.routes }

-- the changes of a kind; ranges are the apps of a physical network and the users of a VPN

abbrev pub kind_with : ℕ → List UidRange → Kind → Kind
kind_with rank more kind.Local = kind.Local
kind_with rank more (kind.Physical permission apps) = kind.Physical permission (apps ++ all_at rank more)
kind_with rank more (kind.Virtual secure users) = kind.Virtual secure (users ++ all_at rank more)

abbrev pub kind_without : List UidRange → Kind → Kind
kind_without gone kind.Local = kind.Local
kind_without gone (kind.Physical permission apps) = kind.Physical permission (ranked_without apps gone)
kind_without gone (kind.Virtual secure users) = kind.Virtual secure (ranked_without users gone)

abbrev pub kind_needing : Permission → Kind → Kind
kind_needing needed kind.Local = kind.Local
kind_needing needed (kind.Physical permission apps) = kind.Physical needed apps
kind_needing needed (kind.Virtual secure users) = kind.Virtual secure users

-- the changes of a network

abbrev pub bare_net : ℕ → Kind → Network
bare_net id k = record { id = id; kind = k; interfaces = []; routes = [] }

abbrev pub with_permission : Permission → Network → Network
with_permission permission n = record n { kind = kind_needing permission n.kind }

abbrev pub with_link : ℕ → Network → Network
with_link link n = record n { interfaces = n.interfaces ++ link ∷ [] }

-- without the interface and its routes
abbrev pub without_link : ℕ → Network → Network
without_link link n = record n { interfaces = filter (λ i. not (i == link)) n.interfaces; routes = filter (λ r. not (r.link == link)) n.routes }

abbrev pub with_route : LinkRoute → Network → Network
with_route route n = record n { routes = n.routes ++ route ∷ [] }

abbrev pub without_route : ℕ → Route → Network → Network
without_route link key n = record n { routes = filter (λ r. not (is_keyed_by link key r)) n.routes }

abbrev pub with_ranges : ℕ → List UidRange → Network → Network
with_ranges rank more n = record n { kind = kind_with rank more n.kind }

abbrev pub without_ranges : List UidRange → Network → Network
without_ranges gone n = record n { kind = kind_without gone n.kind }

-- what takes no memory

abbrev pub HasRouteRoom : StoredNetwork → Type 0
HasRouteRoom n = 0 < n.routes.room

abbrev pub HasKindRoom : ℕ → StoredKind → Type 0
HasKindRoom more stored.Local = Unit {0}
HasKindRoom more (stored.Physical permission apps) = more ≤ apps.room
HasKindRoom more (stored.Virtual secure users) = more ≤ users.room

abbrev pub HasRangeRoom : ℕ → StoredNetwork → Type 0
HasRangeRoom more n = HasKindRoom more n.kind
