-- The rules and routes that a state stands for, after netd's RouteController: the rule of an item, and all rows.
use Rattle.std.specs.Prelude.{ℕ, ◌+◌, true, false, cond, nat_le, List, [], ◌∷◌, map, flat_map, Option, Some, None, if◌then◌else◌}
use Rattle.std.proofs.Common.{lit≤}
use Rattle.fwmark.specs.Selection.{Selection, mask_of, value_of}
use Rattle.fwmark.specs.declared.permission.Permission.{Permission}
use Rattle.rule_kinds.specs.Kind.{rule_kind}
use Rattle.rule_law.specs.Rules.{Kind as RuleKind}
use Rattle.rule_match.specs.declared.rule.Action.{Action}
use Rattle.rule_match.specs.declared.rule.Rule.{Rule}
use Rattle.uid_ranges.specs.declared.range.UidRange.{UidRange}
use Rattle.networks.specs.Network.{local_network}
use Rattle.networks.specs.declared.kind.Kind.{Kind}
use Rattle.policy_state.specs.View.{StateView, Local, Physical, Virtual, LinkRoute, Network}
use Rattle.policy_state.specs.Rows.{Item, Row, OfLocal, OfPhysical, OfFree, OfDefault, OfVirtual, OfSecure, OfBypass, Whole, EachInterface, EachRange, EachDefault, OnePer, Once, EachLockdown, EachPair, EachOf, Selector, Unstated, OfItem, OfRow, OnlyUser, Root, Target, ToLink, ToLocal, Prohibits, Refuses, items, net_item, nothing}
use Rattle.prefixes.specs.declared.route.Route.{Route}
use Rattle.fwmark.specs.declared.permission.Permission.TheVariants as needs
use Rattle.rule_match.specs.declared.rule.Action.TheVariants as action

-- what the item has, what the row states, or nothing
abbrev pub stated : {A : Type 0} → Selector A → A → Option A
stated Unstated own = None
stated OfItem own = Some own
stated (OfRow value) own = Some value

abbrev pub needed : Selector Permission → Permission → Permission
needed Unstated own = needs.Nothing
needed OfItem own = own
needed (OfRow permission) own = permission

-- UID 0
abbrev pub root_range : UidRange
root_range = record { first = record { number = 0; in_range = lit≤ tt }; last = record { number = 0; in_range = lit≤ tt }; ordered = lit≤ tt }

abbrev pub stated_users : Selector OnlyUser → Option UidRange → Option UidRange
stated_users Unstated own = None
stated_users OfItem own = own
stated_users (OfRow Root) own = Some root_range

abbrev pub link_table : ℕ → ℕ
link_table link = 1000 + link

-- that of the local network, for all of its interfaces
abbrev pub local_table : ℕ
local_table = 97

abbrev pub leads_to : Target → ℕ → Action
leads_to ToLink link = action.Table (link_table link)
leads_to ToLocal link = action.Table local_table
leads_to Prohibits link = action.Prohibit
leads_to Refuses link = action.Unreachable

-- the marks that a row's rule for the item selects
abbrev pub marks_of : Row → Item → Selection
marks_of row i = record { net = stated row.net i.net; explicit = row.explicit; guarded = row.guarded; permission = needed row.needs i.needs }

abbrev pub priority_at : Row → Item → ℕ
priority_at row i = row.base + (if row.ranked then i.rank else 0)

abbrev pub rule_of : Row → Item → Rule
rule_of row i = record {
  priority = priority_at row i;
  mark = value_of (marks_of row i);
  mask = mask_of (marks_of row i);
  incoming = stated row.incoming i.incoming;
  outgoing = if row.bound then Some i.link else None;
  uids = stated_users row.users i.users;
  action = leads_to row.target i.link;
}

-- the rows, in their order; packets that the device made come by link 1

abbrev pub every : ℕ → OnePer → Target → Row
every base per target = record { base = base; ranked = false; per = per; net = Unstated; explicit = None; guarded = None; needs = Unstated; incoming = Unstated; bound = false; users = Unstated; target = target }

abbrev pub made : ℕ → OnePer → Target → Row
made base per target = record (every base per target) { incoming = OfRow 1 }

-- RULE_PRIORITY_VPN_OVERRIDE_OIF: root's packets that are bound to an interface of a physical network, even under lockdown.
abbrev pub root_physical : Row
root_physical = record (made 10500 (EachOf OfPhysical EachInterface) ToLink) { needs = OfItem; bound = true; users = OfRow Root }

-- The same for an interface of the local network.
abbrev pub root_local : Row
root_local = record (made 10500 (EachOf OfLocal EachInterface) ToLocal) { bound = true; users = OfRow Root }

-- RULE_PRIORITY_VPN_OUTPUT_TO_LOCAL: what comes in by a VPN's interface goes to the local network.
abbrev pub virtual_to_local : Row
virtual_to_local = record (every 11000 (EachOf OfVirtual EachInterface) ToLocal) { incoming = OfItem }

-- What names a secure VPN and has system. netd has no level of its own for it.
abbrev pub secure_named : Row
secure_named = record (every 11900 (EachOf OfSecure EachInterface) ToLink) { net = OfItem; needs = OfRow needs.System }

-- RULE_PRIORITY_SECURE_VPN: unprotected packets of a secure VPN's users.
abbrev pub secure_users : Row
secure_users = record (made 12000 (EachOf OfSecure EachRange) ToLink) { ranked = true; guarded = Some false; users = OfItem }

-- RULE_PRIORITY_PROHIBIT_NON_VPN: unprotected packets of a range that is locked down.
abbrev pub locked_down : Row
locked_down = record (made 12500 EachLockdown Prohibits) { guarded = Some false; users = OfItem }

-- RULE_PRIORITY_EXPLICIT_NETWORK: packets that select the network explicitly and have its permission.
abbrev pub explicit_physical : Row
explicit_physical = record (made 13000 (EachOf OfPhysical EachInterface) ToLink) { net = OfItem; explicit = Some true; needs = OfItem }

-- The same for the local network, which asks for none.
abbrev pub explicit_local : Row
explicit_local = record (made 13000 (EachOf OfLocal Whole) ToLocal) { net = OfItem; explicit = Some true }

-- The same for a VPN's users.
abbrev pub explicit_virtual : Row
explicit_virtual = record (made 13000 (EachOf OfVirtual EachRange) ToLink) { net = OfItem; explicit = Some true; users = OfItem }

-- Root's packets that select a VPN explicitly and have system. netd has no level of its own for it.
abbrev pub explicit_root : Row
explicit_root = record (made 13100 (EachOf OfVirtual EachInterface) ToLink) { net = OfItem; explicit = Some true; needs = OfRow needs.System; users = OfRow Root }

-- RULE_PRIORITY_OUTPUT_INTERFACE: packets that are bound to the interface and have its network's permission.
abbrev pub bound_physical : Row
bound_physical = record (made 14000 (EachOf OfPhysical EachInterface) ToLink) { needs = OfItem; bound = true }

-- The same for the local network.
abbrev pub bound_local : Row
bound_local = record (made 14000 (EachOf OfLocal EachInterface) ToLocal) { bound = true }

-- The same for a VPN's users.
abbrev pub bound_virtual : Row
bound_virtual = record (made 14000 (EachOf OfVirtual EachRange) ToLink) { bound = true; users = OfItem }

-- RULE_PRIORITY_LOCAL_NETWORK: packets that select no network explicitly.
abbrev pub local_links : Row
local_links = record (every 17000 Once ToLocal) { explicit = Some false }

-- RULE_PRIORITY_TETHERING: what comes in by a pair's input goes by its output.
abbrev pub tethered : Row
tethered = record (every 18000 EachPair ToLink) { incoming = OfItem }

-- RULE_PRIORITY_IMPLICIT_NETWORK: packets that name the network without selecting it, where it asks for no permission.
abbrev pub implicit : Row
implicit = record (made 19000 (EachOf OfFree EachInterface) ToLink) { net = OfItem; explicit = Some false }

-- What names a bypassable VPN and has system. netd has no level of its own for it.
abbrev pub bypass_named : Row
bypass_named = record (every 19900 (EachOf OfBypass EachInterface) ToLink) { net = OfItem; needs = OfRow needs.System }

-- RULE_PRIORITY_BYPASSABLE_VPN: unprotected packets of a bypassable VPN's users that select no network explicitly.
abbrev pub bypass_users : Row
bypass_users = record (made 20000 (EachOf OfBypass EachRange) ToLink) { ranked = true; explicit = Some false; guarded = Some false; users = OfItem }

-- RULE_PRIORITY_VPN_FALLTHROUGH: what names a VPN without selecting it goes by the default network.
abbrev pub split : Row
split = record (every 21000 (EachOf OfVirtual EachDefault) ToLink) { net = OfItem; explicit = Some false; needs = OfItem }

-- Packets of the apps that prefer a physical network and name none. netd has no level of its own for it.
abbrev pub app_users : Row
app_users = record (made 21500 (EachOf OfPhysical EachRange) ToLink) { ranked = true; net = OfRow 0; needs = OfItem; users = OfItem }

-- RULE_PRIORITY_DEFAULT_NETWORK: packets that name no network go by the default one.
abbrev pub default_links : Row
default_links = record (made 22000 (EachOf OfDefault EachInterface) ToLink) { net = OfRow 0; needs = OfItem }

-- RULE_PRIORITY_UNREACHABLE: all packets.
abbrev pub last : Row
last = every 32000 Once Refuses

abbrev pub rows : List Row
rows =
    root_physical ∷ root_local ∷ virtual_to_local ∷ secure_named ∷ secure_users ∷ locked_down
    ∷ explicit_physical ∷ explicit_local ∷ explicit_virtual ∷ explicit_root ∷ bound_physical ∷ bound_local ∷ bound_virtual
    ∷ local_links ∷ tethered ∷ implicit ∷ bypass_named ∷ bypass_users ∷ split ∷ app_users ∷ default_links ∷ last ∷ []

-- the rules of a row, as its items come
abbrev pub rules_in : StateView → Row → List Rule
rules_in s row = map (rule_of row) (items row.per s)

-- canonical order: the rules put in order of priority, those of one priority as they come
abbrev pub put : {R : Type 0} → RuleKind R → R → List R → List R
put k x [] = x ∷ []
put k x (y ∷ ys) = cond (nat_le (k.priority x) (k.priority y)) (x ∷ y ∷ ys) (y ∷ put k x ys)

abbrev pub in_order : {R : Type 0} → RuleKind R → List R → List R
in_order k [] = []
in_order k (x ∷ xs) = put k x (in_order k xs)

abbrev pub table_by_rows : StateView → List Rule
table_by_rows s = in_order rule_kind (flat_map (rules_in s) rows)

-- the rules that the kernel has in each family for a state, beside its own, in order
unfoldable pub rule_table : StateView → List Rule
rule_table s = table_by_rows s

-- the rules that a kernel is asked for at the start, in this order
abbrev pub start_rules : List Rule
start_rules = rule_of explicit_local (net_item local_network) ∷ rule_of local_links nothing ∷ rule_of last nothing ∷ []

-- The routes that a state puts into the kernel's tables.

-- the table of a network's interface
abbrev pub table_of : Kind → ℕ → ℕ
table_of Local link = local_table
table_of (Physical permission apps) link = link_table link
table_of (Virtual secure users) link = link_table link

-- each with the number of its table
abbrev pub routes_of_net : Network → List (ℕ × Route)
routes_of_net n = map (λ (r : LinkRoute). (table_of n.kind r.link, r.route)) n.routes

-- those that the kernel has for a state, beside its own, in order
abbrev pub route_list : StateView → List (ℕ × Route)
route_list s = flat_map routes_of_net s.networks
