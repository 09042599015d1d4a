-- Stored networks, found by id and by link, and what their changes make of the list.
use Rattle.std.specs.Prelude.{◌≡◌, ℕ, ◌==◌, ◌&&◌, ◌≤◌, List, [], ◌∷◌, Bool, map, find, nat_eq, if◌then◌else◌}
use Rattle.std.specs.List.{AllByRecursion}
use Rattle.std.specs.Map.{lookup, values_of}
use Rattle.std.specs.Option.{IfSome}
use Rattle.networks.specs.Kinds.{class_of, ranges_of}
use Rattle.networks.specs.Lists.{AreKeyed}
use Rattle.networks.specs.Network.{has_link}
use Rattle.networks.specs.declared.network.Network.{Network}
use Rattle.uid_ranges.specs.declared.ranked.Ranked.{Ranked}
use Rattle.network_store.specs.Owners.{LeadsToOwner}
use Rattle.network_store.specs.RankIndex.{owner_of, has_ranked}
use Rattle.network_store.specs.Stored.{net_of, HasRangeRoom}
use Rattle.network_store.specs.declared.rank_index.OwnedRange.{OwnedRange}
use Rattle.network_store.specs.declared.network.StoredNetwork.{StoredNetwork}

pub record StoreView : Type 0 where
  pub list : List StoredNetwork
  -- how many networks may be created without memory
  pub more : ℕ
  -- and how many interfaces, users' ranges and apps' ranges may come
  pub more_links : ℕ
  pub more_users : ℕ
  pub more_apps : ℕ

-- the networks, without the room that is kept for more
abbrev pub nets_of : StoreView → List Network
nets_of v = map net_of v.list

-- the first that passes the test changed, and no other
abbrev pub at_first : {X : Type 0} → (X → Bool) → (X → X) → List X → List X
at_first p change [] = []
at_first p change (x ∷ xs) = if p x then change x ∷ xs else x ∷ at_first p change xs

-- the network of this id changed, and no other
abbrev pub with_net : ℕ → (Network → Network) → List Network → List Network
with_net id change networks = at_first (λ n. id == n.id) change networks

-- a change of the network of this id takes no memory
abbrev pub HasRoomAt : ℕ → (StoredNetwork → Type 0) → StoreView → Type 0
HasRoomAt id HasRoom v = IfSome (find (λ n. id == n.id) v.list) HasRoom

abbrev pub StandAtIds : List (ℕ × StoredNetwork) → Type 0
StandAtIds entries = AllByRecursion (λ (e : ℕ × StoredNetwork). e.0 ≡ e.1.id) entries

abbrev pub nets_in : List (ℕ × StoredNetwork) → List Network
nets_in entries = map net_of (values_of entries)

-- the range is one of the network, which is of this class
abbrev pub has_range : ℕ → Network → Ranked → Bool
has_range class n range = (class_of n.kind == class) && has_ranked (ranges_of n.kind) range

-- each interface, each range of a VPN and each range of apps leads to its network
pub record FindOwners (by_link : List (ℕ × ℕ)) (users apps : List OwnedRange) (networks : List Network) : Type 0 where
  pub of_link : LeadsToOwner has_link (λ link. lookup (nat_eq link) by_link) networks
  pub of_users : LeadsToOwner (has_range 2) (owner_of users) networks
  pub of_apps : LeadsToOwner (has_range 1) (owner_of apps) networks

-- each network stands at its id, no two have one id, and the owners are found
pub record AreIndexed (entries : List (ℕ × StoredNetwork)) (by_link : List (ℕ × ℕ)) (users apps : List OwnedRange) : Type 0 where
  pub at_ids : StandAtIds entries
  pub keyed : AreKeyed (nets_in entries)
  pub owners : FindOwners by_link users apps (nets_in entries)

-- so many ranges more in the network of this id take no memory
abbrev pub HasRangesRoom : ℕ → ℕ → StoreView → Type 0
HasRangesRoom id more v = HasRoomAt id (HasRangeRoom more) v × (more ≤ v.more_users) × (more ≤ v.more_apps)
