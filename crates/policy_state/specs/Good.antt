-- What holds of every state, part by part.
use Rattle.std.specs.Prelude.{◌≡◌, ℕ, ◌≤◌, ◌<◌, ◌==◌, ◌&&◌, ◌||◌, not, nat_le, Bool, true, false, List, [], ◌∷◌, length, map, Option, Some, None}
use Rattle.std.specs.List.{list_all, list_any, AllByRecursion}
use Rattle.std.specs.Str.{bytes_eq}
use Rattle.fib_table.specs.Table.{are_keys_distinct}
use Rattle.list_lemmas.specs.Pairwise.{pairwise}
use Rattle.networks.specs.Kinds.{class_of, ranges_of, is_local, is_physical}
use Rattle.networks.specs.Lists.{are_distinct}
use Rattle.networks.specs.Network.{has_link, routes_by, local_id}
use Rattle.policy_state.specs.Counts.{rule_count}
use Rattle.policy_state.specs.View.{StateView, Link, Network, LinkRoute, Ranked, TetherPair, UserPermission, loopback_link}
use Rattle.prefixes.specs.Addr.{family_of}
use Rattle.prefixes.specs.Route.{link_of}
use Rattle.prefixes.specs.declared.route.Out.TheVariants as out
use Rattle.uid_ranges.specs.Range.{meets}
use Rattle.uid_ranges.specs.Ranges.{AreDisjoint}
use Rattle.uid_ranges.specs.Ranks.{are_ranked}
use Rattle.uid_ranges.specs.declared.range.Uid.{Uid}
use Rattle.uid_ranges.specs.declared.range.UidRange.{UidRange}

abbrev pub most_links : ℕ
most_links = 4096

abbrev pub most_networks : ℕ
most_networks = 1000

abbrev pub most_interfaces : ℕ
most_interfaces = 8

-- in one table
abbrev pub most_routes : ℕ
most_routes = 16384

-- of one network
abbrev pub most_ranges : ℕ
most_ranges = 1000

abbrev pub most_lockdown_ranges : ℕ
most_lockdown_ranges = 1000

abbrev pub most_pairs : ℕ
most_pairs = 1000

-- stored permissions, and users who may protect
abbrev pub most_users : ℕ
most_users = 10000

-- in each family
abbrev pub most_rules : ℕ
most_rules = 40000

-- links

-- no name stands twice
abbrev pub are_names_distinct : List Link → Bool
are_names_distinct [] = true
are_names_distinct (l ∷ ls) = not (list_any (λ m. bytes_eq m.name l.name) ls) && are_names_distinct ls

-- `lo` comes first, and every other link has an index from 2 on; no name and no index stands twice
pub record AreLinks (links : List Link) : Type 0 where
  pub others : List Link
  pub loopback_first : links ≡ loopback_link ∷ others
  pub from_two : AllByRecursion (λ l. (2 ≤ l.index) × (l.index < 65536)) others
  pub names_distinct : are_names_distinct links ≡ true
  pub indices_distinct : are_distinct (map (λ l. l.index) links) ≡ true
  pub few : length links ≤ most_links

-- some link has the index
abbrev pub is_index : List Link → ℕ → Bool
is_index links link = list_any (λ l. l.index == link) links

-- one network

-- a gateway is of its prefix's family, and a device route goes out by the interface to which it belongs
abbrev pub LeadsOut : LinkRoute → Type 0
LeadsOut r = elim r.route.out [
  | out.Dev link (Some gateway) ↦ (link ≡ r.link) × (family_of gateway ≡ family_of r.route.prefix.base)
  | out.Dev link None ↦ link ≡ r.link
  | out.Unreachable ↦ Unit {0}
  | out.Throw ↦ Unit {0}
]

abbrev pub differ : ℕ → ℕ → Bool
differ m n = not (m == n)

-- What holds of a network by itself. Each route belongs to one of its interfaces, and is the only one of its key there.
pub record IsNetwork (n : Network) : Type 0 where
  pub id_above : 1 ≤ n.id
  pub id_fits : n.id < 65536
  pub interfaces_differ : pairwise differ n.interfaces ≡ true
  pub interfaces_above : list_all (nat_le 2) n.interfaces ≡ true
  pub few_interfaces : length n.interfaces ≤ most_interfaces
  pub ranked : are_ranked (ranges_of n.kind) ≡ true
  pub few_ranges : length (ranges_of n.kind) ≤ most_ranges
  pub routes_belong : AllByRecursion (λ r. (has_link n r.link ≡ true) × LeadsOut r) n.routes
  pub keys_distinct : (link : ℕ) → are_keys_distinct (routes_by link n.routes) ≡ true
  pub few_routes : (link : ℕ) → length (routes_by link n.routes) ≤ most_routes

-- all networks

abbrev pub is_local_network : Network → Bool
is_local_network n = is_local n.kind

-- no UID is in both ranges
abbrev pub are_disjoint : UidRange → UidRange → Bool
are_disjoint r q = not (meets r q)

-- ranges that meet have different ranks
abbrev pub ranks_differ : Ranked → Ranked → Bool
ranks_differ r q = not ((r.rank == q.rank) && meets r.users q.users)

-- two networks have other ids, other interfaces, and where they are of one kind, other ranks for each user
abbrev pub nets_differ : Network → Network → Bool
nets_differ m n =
    differ m.id n.id
    && (list_all (λ i. list_all (differ i) n.interfaces) m.interfaces
    && (not (class_of m.kind == class_of n.kind) || list_all (λ r. list_all (ranks_differ r) (ranges_of n.kind)) (ranges_of m.kind)))

-- a device route by the interface to which it belongs
abbrev pub is_by_link : LinkRoute → Bool
is_by_link r = elim (link_of r.route.out) [ Some link ↦ link == r.link | None ↦ false ]

-- the local network comes first, without special routes and with one table for all of its interfaces; every other network was created
pub record StartsLocal (ns : List Network) : Type 0 where
  pub local : Network
  pub others : List Network
  pub first : ns ≡ local ∷ others
  pub is_local : is_local_network local ≡ true
  pub id_is : local.id ≡ local_id
  pub by_link : list_all is_by_link local.routes ≡ true
  pub few_routes : length local.routes ≤ most_routes
  pub others_created : list_all (λ n. not (is_local_network n) && nat_le 100 n.id) others ≡ true

pub record AreNetworks (ns : List Network) : Type 0 where
  pub each : AllByRecursion IsNetwork ns
  pub differ : pairwise nets_differ ns ≡ true
  pub local_first : StartsLocal ns
  pub few : length ns ≤ most_networks

-- each interface is a link that is there
abbrev pub are_interfaces_links : List Link → List Network → Bool
are_interfaces_links links ns = list_all (λ n. list_all (is_index links) n.interfaces) ns

-- tether pairs

-- the output is an interface of a network that isn't local
abbrev pub is_output : List Network → ℕ → Bool
is_output ns link = list_any (λ n. has_link n link && not (is_local_network n)) ns

abbrev pub pairs_differ : TetherPair → TetherPair → Bool
pairs_differ a b = not ((a.input == b.input) && (a.out == b.out))

-- the input is a link other than `lo` and than the output
abbrev pub is_pair : List Link → List Network → TetherPair → Bool
is_pair links ns pair = nat_le 2 pair.input && (is_index links pair.input && (differ pair.input pair.out && is_output ns pair.out))

pub record ArePairs (links : List Link) (ns : List Network) (pairs : List TetherPair) : Type 0 where
  pub each : list_all (is_pair links ns) pairs ≡ true
  pub differ : pairwise pairs_differ pairs ≡ true
  pub few : length pairs ≤ most_pairs

-- users

pub record AreUsers (permissions : List UserPermission) (protectable : List Uid) : Type 0 where
  pub permissions_differ : are_distinct (map (λ p. p.uid.number) permissions) ≡ true
  pub few_permissions : length permissions ≤ most_users
  pub protectable_differ : are_distinct (map (λ u. u.number) protectable) ≡ true
  pub few_protectable : length protectable ≤ most_users

-- the default network

-- there is none, or it is a physical network
abbrev pub is_default_there : List Network → Option ℕ → Bool
is_default_there ns None = true
is_default_there ns (Some id) = list_any (λ n. (n.id == id) && is_physical n.kind) ns

-- what holds of every state but for the number of its rules
pub record IsWellFormed (s : StateView) : Type 0 where
  pub links : AreLinks s.links
  pub networks : AreNetworks s.networks
  pub interfaces : are_interfaces_links s.links s.networks ≡ true
  pub users : AreUsers s.permissions s.protectable
  pub lockdown_disjoint : AreDisjoint s.lockdown
  pub lockdown_few : length s.lockdown ≤ most_lockdown_ranges
  pub pairs : ArePairs s.links s.networks s.pairs
  pub default : is_default_there s.networks s.default ≡ true

-- what holds of every state
pub record IsGood (s : StateView) : Type 0 where
  pub formed : IsWellFormed s
  pub few_rules : rule_count s ≤ most_rules
