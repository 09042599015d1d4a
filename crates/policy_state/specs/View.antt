-- What contracts see of a state.
pub use Rattle.networks.specs.declared.kind.Kind.{Kind}
pub use Rattle.networks.specs.declared.kind.Kind.TheVariants.{Local, Physical, Virtual}
pub use Rattle.networks.specs.declared.network.LinkRoute.{LinkRoute}
pub use Rattle.networks.specs.declared.network.Network.{Network}
pub use Rattle.link_table.specs.declared.link.Link.{Link}
pub use Rattle.policy_state.specs.declared.tether.TetherPair.{TetherPair}
pub use Rattle.policy_state.specs.declared.users.UserPermission.{UserPermission}
pub use Rattle.uid_ranges.specs.declared.ranked.Ranked.{Ranked}
use Rattle.std.specs.Prelude.{ℕ, ◌==◌, List, [], ◌∷◌, codes, Option, None}
use Rattle.std.specs.List.{find}
use Rattle.std.specs.Option.{option_map}
use Rattle.std.specs.Str.{bytes_eq}
use Rattle.networks.specs.Network.{local_network}
use Rattle.rule_match.specs.Packet.{lo}
use Rattle.uid_ranges.specs.declared.range.Uid.{Uid}
use Rattle.uid_ranges.specs.declared.range.UidRange.{UidRange}

-- each in the order of addition
pub record StateView : Type 0 where
  pub links : List Link
  pub networks : List Network
  -- of the users whose permission was set
  pub permissions : List UserPermission
  -- who may protect their sockets from VPNs
  pub protectable : List Uid
  -- whose apps are to use a VPN or nothing
  pub lockdown : List UidRange
  pub pairs : List TetherPair
  -- the id of the default network
  pub default : Option ℕ

-- `lo`, by which the device reaches itself
abbrev pub loopback_link : Link
loopback_link = record { name = codes "lo"; index = lo }

abbrev pub start : StateView
start = record {
  links = loopback_link ∷ [];
  networks = local_network ∷ [];
  permissions = [];
  protectable = [];
  lockdown = [];
  pairs = [];
  default = None;
}

-- the index of the link of this name
abbrev pub link_named : StateView → List ℕ → Option ℕ
link_named s name = option_map (λ l. l.index) (find (λ l. bytes_eq l.name name) s.links)

-- the name of the link of this index
abbrev pub name_of : StateView → ℕ → Option (List ℕ)
name_of s index = option_map (λ l. l.name) (find (λ l. l.index == index) s.links)
