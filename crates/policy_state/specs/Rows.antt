-- The rows of the rule table, each as plain data: how its rules are numbered, what it has rules for, by what they select, and
-- where they lead.
pub use Rattle.policy_state.specs.declared.row.Item.{Item}
pub use Rattle.policy_state.specs.declared.row.NetworkSet.{NetworkSet}
pub use Rattle.policy_state.specs.declared.row.NetworkSet.TheVariants.{OfLocal, OfPhysical, OfFree, OfDefault, OfVirtual, OfSecure, OfBypass}
pub use Rattle.policy_state.specs.declared.row.NetworkPart.{NetworkPart}
pub use Rattle.policy_state.specs.declared.row.NetworkPart.TheVariants.{Whole, EachInterface, EachRange, EachDefault}
pub use Rattle.policy_state.specs.declared.row.OnePer.{OnePer}
pub use Rattle.policy_state.specs.declared.row.OnePer.TheVariants.{Once, EachLockdown, EachPair, EachOf}
pub use Rattle.policy_state.specs.declared.row.Selector.{Selector}
pub use Rattle.policy_state.specs.declared.row.Selector.TheVariants.{Unstated, OfItem, OfRow}
pub use Rattle.policy_state.specs.declared.row.OnlyUser.{OnlyUser}
pub use Rattle.policy_state.specs.declared.row.OnlyUser.TheVariants.{Root}
pub use Rattle.policy_state.specs.declared.row.Target.{Target}
pub use Rattle.policy_state.specs.declared.row.Target.TheVariants.{ToLink, ToLocal, Prohibits, Refuses}
pub use Rattle.policy_state.specs.declared.row.Row.{Row}
pub use Rattle.networks.specs.Kinds.{permission_of, ranges_of, class_of, is_free, is_secure, is_bypass}
use Rattle.std.specs.Prelude.{ℕ, zero, suc, ◌==◌, ◌&&◌, Bool, false, List, [], ◌∷◌, map, flat_map, Option, Some, None, find, if◌then◌else◌}
use Rattle.fwmark.specs.declared.permission.Permission.{Permission}
use Rattle.uid_ranges.specs.declared.range.UidRange.{UidRange}
use Rattle.policy_state.specs.View.{Ranked, Network, TetherPair, StateView}
use Rattle.fwmark.specs.declared.permission.Permission.TheVariants as needs

-- n numbers from the first one on
abbrev pub numbers_from : ℕ → ℕ → List ℕ
numbers_from low zero = []
numbers_from low (suc n) = low ∷ numbers_from (suc low) n

-- which networks and which links there are rules for

abbrev pub is_default : Option ℕ → ℕ → Bool
is_default None id = false
is_default (Some default) id = default == id

abbrev pub picks : NetworkSet → Option ℕ → Network → Bool
picks OfLocal default n = class_of n.kind == 0
picks OfPhysical default n = class_of n.kind == 1
picks OfFree default n = is_free n.kind
picks OfDefault default n = (class_of n.kind == 1) && is_default default n.id
picks OfVirtual default n = class_of n.kind == 2
picks OfSecure default n = is_secure n.kind
picks OfBypass default n = is_bypass n.kind

-- the physical network that is the default
abbrev pub default_among : List Network → Option ℕ → Option Network
default_among ns default = find (λ (n : Network). (class_of n.kind == 1) && is_default default n.id) ns

abbrev pub default_of : StateView → Option Network
default_of s = default_among s.networks s.default

abbrev pub links_of : Option Network → List ℕ
links_of home = elim home [ Some n ↦ n.interfaces | None ↦ [] ]

abbrev pub needs_of : Option Network → Permission
needs_of home = elim home [ Some n ↦ permission_of n.kind | None ↦ needs.Nothing ]

abbrev pub nothing : Item
nothing = record { net = 0; needs = needs.Nothing; incoming = 0; link = 0; users = None; rank = 0 }

abbrev pub net_item : Network → Item
net_item n = record { net = n.id; needs = permission_of n.kind; incoming = 0; link = 0; users = None; rank = 0 }

abbrev pub link_item : Network → ℕ → Item
link_item n link = record { net = n.id; needs = permission_of n.kind; incoming = link; link = link; users = None; rank = 0 }

abbrev pub user_item : Network → ℕ → Ranked → Item
user_item n link r = record { net = n.id; needs = permission_of n.kind; incoming = link; link = link; users = Some r.users; rank = r.rank }

abbrev pub split_item : Network → Permission → ℕ → Item
split_item n needs link = record { net = n.id; needs = needs; incoming = 0; link = link; users = None; rank = 0 }

abbrev pub range_item : UidRange → Item
range_item range = record nothing { users = Some range }

abbrev pub pair_item : TetherPair → Item
pair_item pair = record nothing { incoming = pair.input; link = pair.out }

abbrev pub items_in : NetworkPart → Option Network → Network → List Item
items_in Whole home n = net_item n ∷ []
items_in EachInterface home n = map (link_item n) n.interfaces
items_in EachRange home n = flat_map (λ link. map (user_item n link) (ranges_of n.kind)) n.interfaces
items_in EachDefault home n = map (split_item n (needs_of home)) (links_of home)

abbrev pub items_at : NetworkSet → NetworkPart → Option ℕ → Option Network → Network → List Item
items_at pick spread default home n = if picks pick default n then items_in spread home n else []

-- by network in the order of creation, then by interface, then by range
abbrev pub items : OnePer → StateView → List Item
items Once s = nothing ∷ []
items EachLockdown s = map range_item s.lockdown
items EachPair s = map pair_item s.pairs
items (EachOf pick spread) s = flat_map (items_at pick spread s.default (default_of s)) s.networks
