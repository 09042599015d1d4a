-- Bringing a kernel from an old list of rules to a new one, and taking routes out after the rules.
use Rattle.std.specs.Prelude.{◌≡◌, ℕ, Bool, false, not, List, [], ◌∷◌, ◌++◌, map, reverse, filter}
use Rattle.std.specs.List.{list_any, AllByRecursion}
use Rattle.prefixes.specs.declared.addr.Family.{Family}
use Rattle.prefixes.specs.declared.addr.Family.TheVariants as family
use Rattle.prefixes.specs.declared.route.Route.{Route}
use Rattle.fib_table.specs.Table.{has_route, routes_in}
use Rattle.rule_law.specs.Plans.{AreOldAndNew, beyond}
use Rattle.rule_law.specs.Rules as law
use Rattle.rule_match.specs.Rule.{same_action}
use Rattle.rule_match.specs.declared.packet.Packet.{Packet}
use Rattle.rule_match.specs.declared.rule.Action.TheVariants as action
use Rattle.rule_match.specs.declared.rule.Rule.{Rule}
use Rattle.rule_match.specs.declared.verdict.Verdict.{Verdict}
use Rattle.rule_kinds.specs.Kind.{rule_kind}
use Rattle.kernel_model.specs.Journal.{replay_from}
use Rattle.kernel_model.specs.Moments.{moment_from}
use Rattle.kernel_model.specs.Segment.{done}
use Rattle.kernel_model.specs.State.{KernelState, rules_of, own_rule}
use Rattle.kernel_model.specs.Walk.{rule_gives, walk}
use Rattle.kernel_model.specs.declared.request.Entry.{Entry}
use Rattle.kernel_model.specs.declared.request.Request.{Request}
use Rattle.kernel_model.specs.declared.request.Request.TheVariants as req

-- each rule for IPv4 and then for IPv6
abbrev pub twins : List Rule → List Request
twins [] = []
twins (rule ∷ rules) = req.Rule family.V4 rule ∷ req.Rule family.V6 rule ∷ twins rules

-- routes, each with the number of its table
abbrev pub requests_of : List (ℕ × Route) → List Request
requests_of routes = map (λ (r : ℕ × Route). req.Route r.0 r.1) routes

-- what the old list lacks, in the order of the new one
abbrev pub additions : List Rule → List Rule → List Request
additions old new = twins (beyond rule_kind old new)

-- what the new list lacks, in the reverse order of the old one, each rule for IPv6 and then for IPv4; and then the routes
abbrev pub deletions : List Rule → List Rule → List (ℕ × Route) → List Request
deletions old new gone = reverse (twins (beyond rule_kind new old)) ++ requests_of gone

-- the kernel when all of this is done
abbrev pub switched : KernelState → List Rule → List Rule → List (ℕ × Route) → KernelState
switched k old new gone = replay_from k (done (additions old new) (deletions old new gone))

abbrev pub looks_in : ℕ → Rule → Bool
looks_in n rule = same_action rule.action (action.Table n)

-- no rule of the list looks in a table that loses a route
abbrev pub AreUnused : List (ℕ × Route) → List Rule → Type 0
AreUnused gone rules = AllByRecursion (λ (r : ℕ × Route). list_any (looks_in r.0) rules ≡ false) gone

-- What is asked of the kernel, of both lists and of the routes: the kernel has the old rules after its own one, the lists are as the two-lists law asks, and when the routes go no rule looks in their tables any more.
pub record IsSwitch (k : KernelState) (old new : List Rule) (gone : List (ℕ × Route)) : Type 0 where
  pub in_family : (f : Family) → law.Stands rule_kind (rules_of k f) (own_rule ∷ old)
  pub old_and_new : AreOldAndNew rule_kind old new
  pub old_behind : law.NoneBelow rule_kind 1 old
  pub new_behind : law.NoneBelow rule_kind 1 new
  pub unused : AreUnused gone (own_rule ∷ new)

-- two rules of the list that have equal priority and give the packet something have equal selectors
abbrev pub GiveAlike : KernelState → Packet → List Rule → Type 0
GiveAlike k packet rules = law.GiversAreAlike rule_kind (rule_gives k.tables packet) rules

-- the walk of the packet at each moment of these entries
abbrev pub walk_along : KernelState → Packet → List Entry → ℕ → Verdict
walk_along k packet entries i = walk (moment_from k entries i) packet

-- each table loses exactly the routes that go
abbrev pub LosesRoutes : List (ℕ × Route) → List (ℕ × Route) → List (ℕ × Route) → Type 0
LosesRoutes routes gone left = (n : ℕ) → routes_in n left ≡ filter (λ r. not (has_route (routes_in n gone) r)) (routes_in n routes)
