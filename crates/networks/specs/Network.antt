-- Networks: their interfaces, their routes and their users.
use Rattle.std.specs.Prelude.{ℕ, ◌==◌, ◌&&◌, Bool, List, [], map, filter}
use Rattle.std.specs.List.{list_any}
use Rattle.networks.specs.declared.kind.Kind.TheVariants as kind
use Rattle.networks.specs.declared.network.LinkRoute.{LinkRoute}
use Rattle.networks.specs.declared.network.Network.{Network}
use Rattle.prefixes.specs.Route.{same_key}
use Rattle.prefixes.specs.declared.route.Route.{Route}

-- the link is an interface of the network
abbrev pub has_link : Network → ℕ → Bool
has_link network link = list_any (λ other. other == link) network.interfaces

-- the routes that belong to this interface, in order
abbrev pub routes_by : ℕ → List LinkRoute → List Route
routes_by link routes = map (λ r. r.route) (filter (λ r. r.link == link) routes)

-- the route belongs to the link and has this one's key
abbrev pub is_keyed_by : ℕ → Route → LinkRoute → Bool
is_keyed_by link key r = (r.link == link) && same_key r.route key

-- the id that netd gives the local network
abbrev pub local_id : ℕ
local_id = 99

-- the local network as it is at the start
abbrev pub local_network : Network
local_network = record { id = local_id; kind = kind.Local; interfaces = []; routes = [] }
