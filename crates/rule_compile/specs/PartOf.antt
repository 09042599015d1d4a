-- The part of a state that a `Touched` stands for, and a `PartOfNetwork` of a network.
use Rattle.std.specs.Prelude.{◌==◌, List, [], filter, if◌then◌else◌}
use Rattle.std.specs.Option.{option_map}
use Rattle.network_store.specs.Store.{nets_of}
use Rattle.networks.specs.Kinds.{permission_of, ranges_of}
use Rattle.networks.specs.declared.network.Network.{Network}
use Rattle.policy_state.specs.declared.row.Item.{Item}
use Rattle.policy_state.specs.declared.row.NetworkPart.{NetworkPart}
use Rattle.policy_state.specs.declared.row.NetworkSet.{NetworkSet}
use Rattle.policy_state.specs.View.{StateView}
use Rattle.rule_compile.specs.Shapes.{shape_net, unrouted}
use Rattle.rule_compile.specs.Touched.{Part, no_part, gone_part, link_part, ranges_part, asks_other, asking_part, reaches, items_of}
use Rattle.rule_compile.specs.declared.part.PartOfNetwork.{PartOfNetwork}
use Rattle.rule_compile.specs.declared.part.PartOfNetwork.TheVariants as of
use Rattle.rule_compile.specs.declared.touched.Touched.{Touched}
use Rattle.uid_ranges.specs.Ranges.{has}
use Rattle.uid_ranges.specs.Ranks.{all_at}

abbrev pub part_of : Touched → Part
part_of t = record {
  extent = t.extent;
  net = option_map shape_net t.network;
  default = t.default;
  home = option_map shape_net t.home;
  others = option_map (λ networks. nets_of networks.now) t.others;
  lockdown = t.lockdown.now;
  pairs = t.pairs.now;
}

-- the same part without the routes of its networks
abbrev pub unrouted_part : Part → Part
unrouted_part p = record p { net = option_map unrouted p.net; home = option_map unrouted p.home }

-- a row's items for the network that is touched
abbrev pub own_items : NetworkSet → NetworkPart → Part → List Item
own_items set part p = if reaches p.extent set part then items_of set part p.default p.net else []

-- the part of a state that is touched with its network
abbrev pub net_part : PartOfNetwork → StateView → Network → Part
net_part of.Whole s n = gone_part s n
net_part (of.Link link) s n = link_part s n link
net_part (of.LinkAndPairs link) s n = record (link_part s n link) { pairs = filter (λ p. p.out == link) s.pairs }
net_part (of.RangesAt rank ranges) s n = ranges_part s n (all_at rank ranges.now)
net_part (of.RangesAmong ranges) s n = ranges_part s n (filter (λ r. has ranges.now r.users) (ranges_of n.kind))
net_part (of.PermissionLeft becomes) s n = if asks_other becomes n then asking_part s n (permission_of n.kind) else no_part
net_part (of.PermissionGot becomes) s n = if asks_other becomes n then asking_part s n becomes else no_part
