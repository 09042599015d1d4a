-- What a change asks of a kernel, by the part of the state that it touches.
use Rattle.std.specs.Prelude.{ℕ, List, [], ◌∷◌, ◌++◌, reverse, flat_map, Some, None, if◌then◌else◌}
use Rattle.kernel_model.specs.PlanView.{PlanView}
use Rattle.kernel_model.specs.Switch.{requests_of, twins}
use Rattle.networks.specs.Kinds.{is_local}
use Rattle.networks.specs.Lists.{find_id}
use Rattle.networks.specs.declared.network.Network.{Network}
use Rattle.policy_state.specs.Table.{in_order, table_of}
use Rattle.policy_state.specs.View.{StateView}
use Rattle.policy_state.specs.declared.change.Change.{Change}
use Rattle.policy_state.specs.declared.change.Change.TheVariants as change
use Rattle.prefixes.specs.declared.route.Route.{Route}
use Rattle.rule_kinds.specs.Kind.{rule_kind}
use Rattle.rule_match.specs.declared.rule.Rule.{Rule}
use Rattle.rule_compile.specs.Asked.{keyed_in, leaving_by}
use Rattle.rule_compile.specs.Touched.{part_rules, go_part, come_part}

abbrev pub routes_of_net : StateView → ℕ → (Network → List (ℕ × Route)) → List (ℕ × Route)
routes_of_net s net routes = elim (find_id net s.networks) [ Some n ↦ routes n | None ↦ [] ]

-- the route that comes
abbrev pub change_comes : StateView → Change → List (ℕ × Route)
change_comes s (change.RouteComes net link route) = routes_of_net s net (λ n. (table_of n.kind link, route) ∷ [])
change_comes s _ = []

-- the routes that go after the rules
abbrev pub change_goes : StateView → Change → List (ℕ × Route)
change_goes s (change.RouteGoes net link key) = routes_of_net s net (λ n. keyed_in n link key)
change_goes s (change.InterfaceGoes net link) = routes_of_net s net (λ n. if is_local n.kind then [] else leaving_by n link)
change_goes s (change.NetworkGoes net) = routes_of_net s net (λ n. flat_map (leaving_by n) n.interfaces)
change_goes s _ = []

-- and before them
abbrev pub change_goes_first : StateView → Change → List (ℕ × Route)
change_goes_first s (change.InterfaceGoes net link) = routes_of_net s net (λ n. if is_local n.kind then leaving_by n link else [])
change_goes_first s _ = []

-- the rules that come and the rules that go, in order of priority
abbrev pub rules_come : StateView → Change → List Rule
rules_come s c = in_order rule_kind (part_rules (come_part s c))

abbrev pub rules_go : StateView → Change → List Rule
rules_go s c = in_order rule_kind (part_rules (go_part s c))

abbrev pub planned : StateView → Change → PlanView
planned s c = record {
  adds = twins (rules_come s c) ++ requests_of (change_comes s c);
  deletes = requests_of (change_goes_first s c) ++ (reverse (twins (rules_go s c)) ++ requests_of (change_goes s c));
}
