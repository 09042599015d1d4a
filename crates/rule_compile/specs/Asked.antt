-- What a kernel is asked in order to be brought from one state's rules to another's.
use Rattle.std.specs.Prelude.{◌≡◌, ◌==◌, ℕ, List, [], ◌∷◌, ◌++◌, map, filter, flat_map, None, Some, if◌then◌else◌}
use Rattle.networks.specs.Lists.{find_id}
use Rattle.networks.specs.Kinds.{is_local}
use Rattle.networks.specs.Network.{is_keyed_by, routes_by}
use Rattle.networks.specs.declared.network.Network.{Network}
use Rattle.prefixes.specs.declared.route.Route.{Route}
use Rattle.kernel_model.specs.PlanView.{PlanView}
use Rattle.kernel_model.specs.Stands.{Stands}
use Rattle.kernel_model.specs.State.{KernelState, start as kernel_start}
use Rattle.kernel_model.specs.Journal.{replay_from}
use Rattle.kernel_model.specs.Segment.{done}
use Rattle.kernel_model.specs.Switch.{additions, deletions, requests_of, switched}
use Rattle.kernel_model.specs.declared.request.Request.{Request}
use Rattle.policy_state.specs.Step.{FitsTypes, refusal, changed, route_of, key_of}
use Rattle.policy_state.specs.Good.{IsGood}
use Rattle.policy_state.specs.Rows.{numbers_from}
use Rattle.policy_state.specs.Table.{rule_table, route_list, table_of}
use Rattle.policy_state.specs.View.{StateView, start, link_named}
use Rattle.commands.specs.declared.command.Command.{Command}
use Rattle.commands.specs.declared.command.Command.TheVariants as command

-- what a network and its interface of this name give, where both are there
abbrev pub of_interface : StateView → ℕ → List ℕ → (Network → ℕ → List (ℕ × Route)) → List (ℕ × Route)
of_interface s net name routes = elim (link_named s name) [
  | Some link ↦ elim (find_id net s.networks) [ Some n ↦ routes n link | None ↦ [] ]
  | None ↦ []
]

-- the routes that belong to the link and have the key, with the number of their network's table
abbrev pub keyed_in : Network → ℕ → Route → List (ℕ × Route)
keyed_in n link key = map (λ r. (table_of n.kind link, r.route)) (filter (λ r. is_keyed_by link key r) n.routes)

-- the route that a command adds, with the number of its table
abbrev pub routes_come : StateView → Command → List (ℕ × Route)
routes_come s (command.RouteAdd net name prefix way) = of_interface s net name (λ n link. (table_of n.kind link, route_of link prefix way) ∷ [])
routes_come s _ = []

-- the routes with a prefix of this length
abbrev pub of_length : List Route → ℕ → List Route
of_length routes len = filter (λ r. r.prefix.len == len) routes

-- the shortest prefix first, those of one length in the order of their addition
unfoldable pub shortest_first : List Route → List Route
shortest_first routes = flat_map (of_length routes) (numbers_from 0 129)

-- the routes of a network's interface, with the number of their table
abbrev pub leaving_by : Network → ℕ → List (ℕ × Route)
leaving_by n link = map (λ r. (table_of n.kind link, r)) (shortest_first (routes_by link n.routes))

-- The routes that a command takes out after the rules: the one that it names, or those of the interfaces that leave their network,
-- interface by interface.
abbrev pub routes_gone : StateView → Command → List (ℕ × Route)
routes_gone s (command.RouteRemove net name prefix special) = of_interface s net name (λ n link. keyed_in n link (key_of link prefix special))
routes_gone s (command.InterfaceRemove net name) = of_interface s net name (λ n link. if is_local n.kind then [] else leaving_by n link)
routes_gone s (command.Destroy net) = elim (find_id net s.networks) [ Some n ↦ flat_map (leaving_by n) n.interfaces | None ↦ [] ]
routes_gone s _ = []

-- Those that it takes out before the rules: the local network's other interfaces have routes in the same table.
abbrev pub routes_first : StateView → Command → List (ℕ × Route)
routes_first s (command.InterfaceRemove net name) = of_interface s net name (λ n link. if is_local n.kind then leaving_by n link else [])
routes_first s _ = []

-- the rules that the new table has and the old one lacks, in the order of the new one, each for IPv4 and then for IPv6; or the route that comes
abbrev pub asked_adds : StateView → Command → List Request
asked_adds s c = additions (rule_table s) (rule_table (changed s c)) ++ requests_of (routes_come s c)

-- the rules that the old table has and the new one lacks, in the reverse order of the old one, each for IPv6 and then for IPv4; before
-- and after them the routes that go
abbrev pub asked_deletes : StateView → Command → List Request
asked_deletes s c = requests_of (routes_first s c) ++ deletions (rule_table s) (rule_table (changed s c)) (routes_gone s c)

abbrev pub asked : StateView → Command → PlanView
asked s c = record { adds = asked_adds s c; deletes = asked_deletes s c }

-- the kernel when all of this is done
abbrev pub carried : KernelState → StateView → Command → KernelState
carried k s c = replay_from k (done (asked_adds s c) (asked_deletes s c))

-- the starting kernel when it has been asked for the rules of the first state
abbrev pub started : KernelState
started = switched kernel_start [] (rule_table start) []

-- The kernel stands for the state, and the state accepts the command.
pub record MayStep (k : KernelState) (s : StateView) (c : Command) : Type 0 where
  pub good : IsGood s
  pub fits : FitsTypes c
  pub accepted : refusal s c ≡ None
  pub stands : Stands k (rule_table s) (route_list s)
