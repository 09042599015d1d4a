-- When a kernel stands for a list of rules and a list of routes with the numbers of their tables.
use Rattle.std.specs.Prelude.{◌≡◌, ◌≢◌, ℕ, List, ◌∷◌}
use Rattle.fib_table.specs.Table.{routes_in}
use Rattle.prefixes.specs.declared.addr.Family.{Family}
use Rattle.prefixes.specs.declared.route.Route.{Route}
use Rattle.rule_law.specs.Rules as law
use Rattle.rule_match.specs.declared.rule.Rule.{Rule}
use Rattle.rule_kinds.specs.Kind.{rule_kind}
use Rattle.kernel_model.specs.State.{KernelState, rules_of, routes_of, own_rule, loopback, device_table}

-- In each family the kernel has its own rule and then each of these rules once, by rising priority, and rules of equal priority and equal selectors in this order. The device table has its two routes, each other table exactly the given routes of its number, in order, and so no further table has a route.
pub record Stands (k : KernelState) (rules : List Rule) (routes : List (ℕ × Route)) : Type 0 where
  pub in_family : (f : Family) → law.Stands rule_kind (rules_of k f) (own_rule ∷ rules)
  pub own_table : routes_of device_table k.tables ≡ loopback
  pub in_table : (n : ℕ) → n ≢ device_table → routes_of n k.tables ≡ routes_in n routes
