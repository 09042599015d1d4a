-- The part of a state that a change touches, and the rules that the rows of the table have for it.
use Rattle.std.specs.Prelude.{ℕ, ◌==◌, ◌&&◌, Bool, true, false, not, List, [], ◌∷◌, map, flat_map, filter, Option, Some, None, if◌then◌else◌}
use Rattle.fwmark.specs.declared.permission.Permission.{Permission}
use Rattle.fwmark.specs.Permission.{bits_of}
use Rattle.networks.specs.Kinds.{ranges_of, permission_of, is_physical}
use Rattle.networks.specs.Lists.{find_id}
use Rattle.networks.specs.Network.{has_link}
use Rattle.networks.specs.declared.kind.Kind.{Kind}
use Rattle.networks.specs.declared.kind.Kind.TheVariants as kind
use Rattle.network_store.specs.Stored.{bare_net}
use Rattle.policy_state.specs.Rows.{picks, default_of, default_among, items_at, range_item, pair_item}
use Rattle.policy_state.specs.declared.row.Item.{Item}
use Rattle.policy_state.specs.declared.row.NetworkSet.{NetworkSet}
use Rattle.policy_state.specs.declared.row.NetworkPart.{NetworkPart}
use Rattle.policy_state.specs.declared.row.OnePer.{OnePer}
use Rattle.policy_state.specs.declared.row.NetworkSet.TheVariants.{OfLocal, OfPhysical, OfFree, OfDefault, OfVirtual, OfSecure, OfBypass}
use Rattle.policy_state.specs.declared.row.NetworkPart.TheVariants.{Whole, EachInterface, EachRange, EachDefault}
use Rattle.policy_state.specs.declared.row.OnePer.TheVariants.{Once, EachLockdown, EachPair, EachOf}
use Rattle.policy_state.specs.Step.{is_pair, with_permission}
use Rattle.policy_state.specs.Table.{rule_of, rows}
use Rattle.networks.specs.declared.network.Network.{Network}
use Rattle.uid_ranges.specs.declared.ranked.Ranked.{Ranked}
use Rattle.policy_state.specs.declared.tether.TetherPair.{TetherPair}
use Rattle.policy_state.specs.View.{StateView}
use Rattle.policy_state.specs.declared.change.Change.{Change}
use Rattle.policy_state.specs.declared.change.Change.TheVariants as change
use Rattle.rule_match.specs.declared.rule.Rule.{Rule}
use Rattle.uid_ranges.specs.Ranges.{has}
use Rattle.uid_ranges.specs.Ranks.{all_at}
use Rattle.uid_ranges.specs.declared.range.UidRange.{UidRange}
use Rattle.rule_compile.specs.declared.part.Extent.{Extent}
use Rattle.rule_compile.specs.declared.part.Extent.TheVariants as extent

pub record Part : Type 0 where
  -- which rows' rules of the network
  pub extent : Extent
  -- the network, with those of its interfaces and ranges that are touched
  pub net : Option Network
  -- the id of the default network
  pub default : Option ℕ
  -- the default network, with those of its interfaces by which VPNs' split rules come or go
  pub home : Option Network
  -- whose split rules come or go, where that isn't the network alone
  pub others : Option (List Network)
  pub lockdown : List UidRange
  pub pairs : List TetherPair

abbrev pub no_part : Part
no_part = record { extent = extent.Whole; net = None; default = None; home = None; others = None; lockdown = []; pairs = [] }

-- the rows' rules for this part of a network are touched
abbrev pub reaches : Extent → NetworkSet → NetworkPart → Bool
reaches extent.Whole pick spread = true
reaches extent.Links pick Whole = false
reaches extent.Links pick EachInterface = true
reaches extent.Links pick EachRange = true
reaches extent.Links pick EachDefault = false
reaches extent.Ranges pick Whole = false
reaches extent.Ranges pick EachInterface = false
reaches extent.Ranges pick EachRange = true
reaches extent.Ranges pick EachDefault = false
reaches extent.Default OfLocal spread = false
reaches extent.Default OfPhysical spread = false
reaches extent.Default OfFree spread = false
reaches extent.Default OfDefault spread = true
reaches extent.Default OfVirtual spread = false
reaches extent.Default OfSecure spread = false
reaches extent.Default OfBypass spread = false

-- the items of a network, or none
abbrev pub items_of : NetworkSet → NetworkPart → Option ℕ → Option Network → List Item
items_of pick spread default net = elim net [ Some n ↦ items_at pick spread default None n | None ↦ [] ]

abbrev pub listed : Option Network → List Network
listed net = elim net [ Some n ↦ n ∷ [] | None ↦ [] ]

-- whose split rules are touched
abbrev pub splitting : Part → List Network
splitting p = elim p.others [ Some ns ↦ ns | None ↦ listed p.net ]

-- what a row has rules for in this part; what a row has once stays
abbrev pub part_items : OnePer → Part → List Item
part_items Once p = []
part_items EachLockdown p = map range_item p.lockdown
part_items EachPair p = map pair_item p.pairs
part_items (EachOf pick EachDefault) p = flat_map (items_at pick EachDefault p.default p.home) (splitting p)
part_items (EachOf pick Whole) p = if reaches p.extent pick Whole then items_of pick Whole p.default p.net else []
part_items (EachOf pick EachInterface) p = if reaches p.extent pick EachInterface then items_of pick EachInterface p.default p.net else []
part_items (EachOf pick EachRange) p = if reaches p.extent pick EachRange then items_of pick EachRange p.default p.net else []

abbrev pub part_rules : Part → List Rule
part_rules p = flat_map (λ row. map (rule_of row) (part_items row.per p)) rows

-- The parts that changes touch.

abbrev pub is_home : StateView → Network → Bool
is_home s n = picks OfDefault s.default n

-- a kind with these ranges in the place of its own
abbrev pub kind_having : List Ranked → Kind → Kind
kind_having ranges kind.Local = kind.Local
kind_having ranges (kind.Physical permission apps) = kind.Physical permission ranges
kind_having ranges (kind.Virtual secure users) = kind.Virtual secure ranges

abbrev pub with_link_alone : ℕ → Network → Network
with_link_alone link n = record n { interfaces = link ∷ [] }

abbrev pub with_ranges_alone : List Ranked → Network → Network
with_ranges_alone ranges n = record n { kind = kind_having ranges n.kind }

-- a whole network
abbrev pub new_part : StateView → Network → Part
new_part s n = record no_part { net = Some n; default = s.default; home = default_of s }

-- with the default network go the split rules of all VPNs, and with any network the pairs that go out by it
abbrev pub gone_part : StateView → Network → Part
gone_part s n = record (new_part s n) { others = if is_home s n then Some s.networks else None; pairs = filter (λ p. has_link n p.out) s.pairs }

-- one of its interfaces
abbrev pub link_part : StateView → Network → ℕ → Part
link_part s n link = record no_part {
  extent = extent.Links;
  net = Some (with_link_alone link n);
  default = s.default;
  home = if is_home s n then Some (with_link_alone link n) else None;
  others = Some s.networks;
}

-- ranges of it
abbrev pub ranges_part : StateView → Network → List Ranked → Part
ranges_part s n ranges = record no_part { extent = extent.Ranges; net = Some (with_ranges_alone ranges n); default = s.default }

-- a network whose permission is another before or after
abbrev pub asking_part : StateView → Network → Permission → Part
asking_part s n permission = record no_part {
  net = Some (with_permission permission n);
  default = s.default;
  home = if is_home s n then Some (with_permission permission n) else None;
  others = Some s.networks;
}

-- the rules of the default network, where this is its id
abbrev pub default_part : StateView → Option ℕ → Part
default_part s default = record no_part {
  extent = extent.Default;
  net = default_among s.networks default;
  default = default;
  home = default_among s.networks default;
  others = Some s.networks;
}

abbrev pub of_net : StateView → ℕ → (Network → Part) → Part
of_net s net part = elim (find_id net s.networks) [ Some n ↦ part n | None ↦ no_part ]

abbrev pub same_default : Option ℕ → Option ℕ → Bool
same_default None None = true
same_default None (Some e) = false
same_default (Some d) None = false
same_default (Some d) (Some e) = d == e

-- a physical network asks for another permission than this
abbrev pub asks_other : Permission → Network → Bool
asks_other permission n = is_physical n.kind && not (bits_of (permission_of n.kind) == bits_of permission)

-- what goes
abbrev pub go_part : StateView → Change → Part
go_part s (change.NetworkGoes net) = of_net s net (gone_part s)
go_part s (change.InterfaceGoes net link) = of_net s net (λ n. record (link_part s n link) { pairs = filter (λ p. p.out == link) s.pairs })
go_part s (change.RangesGo net ranges) = of_net s net (λ n. ranges_part s n (filter (λ r. has ranges.now r.users) (ranges_of n.kind)))
go_part s (change.DefaultBecomes default) = if same_default s.default default then no_part else default_part s s.default
go_part s (change.NetworkPermission net permission) = of_net s net (λ n. if asks_other permission n then asking_part s n (permission_of n.kind) else no_part)
go_part s (change.LockdownGoes range) = record no_part { lockdown = filter (has (range ∷ [])) s.lockdown }
go_part s (change.PairGoes pair) = record no_part { pairs = filter (is_pair pair) s.pairs }
go_part s _ = no_part

-- what comes
abbrev pub come_part : StateView → Change → Part
come_part s (change.PhysicalComes net permission) = new_part s (bare_net net (kind.Physical permission []))
come_part s (change.VirtualComes net secure) = new_part s (bare_net net (kind.Virtual secure []))
come_part s (change.InterfaceComes net link) = of_net s net (λ n. link_part s n link)
come_part s (change.RangesCome net rank ranges) = of_net s net (λ n. ranges_part s n (all_at rank ranges.now))
come_part s (change.DefaultBecomes default) = if same_default s.default default then no_part else default_part s default
come_part s (change.NetworkPermission net permission) = of_net s net (λ n. if asks_other permission n then asking_part s n permission else no_part)
come_part s (change.LockdownComes range) = record no_part { lockdown = range ∷ [] }
come_part s (change.PairComes pair) = record no_part { pairs = pair ∷ [] }
come_part s _ = no_part
