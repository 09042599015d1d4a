-- Which changes take routes in or out, and that such a change is the one that a command names.
use Rattle.std.specs.Prelude.{◌≡◌, ℕ, List, Bool, true, false, Some, None}
use Rattle.commands.specs.declared.command.Command.{Command}
use Rattle.commands.specs.declared.command.Command.TheVariants as command
use Rattle.policy_state.specs.declared.change.Change.{Change}
use Rattle.policy_state.specs.declared.change.Change.TheVariants as change
use Rattle.policy_state.specs.Step.{is_in, route_of, key_of}
use Rattle.policy_state.specs.View.{StateView, link_named}

-- routes come or go, one or those of an interface
abbrev pub is_routed : Change → Bool
is_routed (change.RouteComes net link route) = true
is_routed (change.RouteGoes net link key) = true
is_routed (change.InterfaceGoes net link) = true
is_routed (change.NetworkGoes net) = true
is_routed _ = false

-- the route, the interface or the network that a command names is the one that the change has
abbrev pub NamesRoutes : Change → StateView → Command → Type 0
NamesRoutes c s (command.RouteAdd net name prefix w) = elim (link_named s name) [ Some link ↦ c ≡ change.RouteComes net link (route_of link prefix w) | None ↦ is_routed c ≡ false ]
NamesRoutes c s (command.RouteRemove net name prefix special) = elim (link_named s name) [ Some link ↦ c ≡ change.RouteGoes net link (key_of link prefix special) | None ↦ is_routed c ≡ false ]
NamesRoutes c s (command.InterfaceRemove net name) = elim (link_named s name) [ Some link ↦ elim (is_in s net link) [ true ↦ c ≡ change.InterfaceGoes net link | false ↦ is_routed c ≡ false ] | None ↦ is_routed c ≡ false ]
NamesRoutes c s (command.Destroy net) = c ≡ change.NetworkGoes net
NamesRoutes c s _ = is_routed c ≡ false
