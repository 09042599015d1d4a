-- A link leaves a table in which other links have routes too: its routes go first, the shortest prefix first, and then the rules that lead
-- there for it alone.
use Rattle.std.specs.Prelude.{◌≡◌, ℕ, ◌&&◌, not, nat_le, Bool, true, false, List, [], ◌∷◌, ◌++◌, map, Some}
use Rattle.std.specs.List.{AllByRecursion}
use Rattle.list_lemmas.specs.Pairwise.{pairwise}
use Rattle.prefixes.specs.Route.{link_of, same_key, suits}
use Rattle.prefixes.specs.declared.route.Route.{Route}
use Rattle.fib_table.specs.Table.{without_route}
use Rattle.rule_law.specs.Plans.{beyond}
use Rattle.rule_law.specs.Rules.{has}
use Rattle.rule_match.specs.declared.rule.Action.TheVariants as action
use Rattle.rule_match.specs.declared.rule.Rule.{Rule}
use Rattle.rule_kinds.specs.Kind.{rule_kind}
use Rattle.kernel_model.specs.Journal.{replay_from}
use Rattle.kernel_model.specs.Segment.{done}
use Rattle.kernel_model.specs.State.{KernelState, routes_of}
use Rattle.kernel_model.specs.Switch.{requests_of, deletions, IsSwitch}
use Rattle.kernel_model.specs.declared.request.Request.{Request}

-- the former may go before the latter: it is no longer, and has another key
abbrev pub may_precede : Route → Route → Bool
may_precede a b = nat_le a.prefix.len b.prefix.len && not (same_key a b)

-- the routes go out by the link, a shorter prefix comes before a longer one, and no two have one key
pub record LeaveInOrder (link : ℕ) (gone : List Route) : Type 0 where
  pub by_link : AllByRecursion (λ r. link_of r.out ≡ Some link) gone
  pub in_order : pairwise may_precede gone ≡ true

-- a list without these routes, one taken out after the other
abbrev pub taken_out : List Route → List Route → List Route
taken_out routes [] = routes
taken_out routes (r ∷ gone) = taken_out (without_route routes r) gone

-- routes of one table
abbrev pub in_table : ℕ → List Route → List (ℕ × Route)
in_table table routes = map (λ r. (table, r)) routes

-- the routes go, and then the rules that the new list lacks
abbrev pub leaving : List Rule → List Rule → ℕ → List Route → List Request
leaving old new table gone = requests_of (in_table table gone) ++ deletions old new []

-- the kernel when the routes have gone
abbrev pub without_routes : KernelState → ℕ → List Route → KernelState
without_routes k table gone = replay_from k (done [] (requests_of (in_table table gone)))

-- What is asked of the kernel, of both lists of rules and of the routes: no rule comes; what is left of the table isn't for packets that are
-- bound to the link; and a rule that goes is for such packets alone and looks in this table.
pub record IsLeaving (k : KernelState) (old new : List Rule) (table link : ℕ) (gone : List Route) : Type 0 where
  pub switch : IsSwitch k old new []
  pub nothing_comes : beyond rule_kind old new ≡ []
  pub order : LeaveInOrder link gone
  pub left : AllByRecursion (λ r. suits (link_of r.out) (Some link) ≡ false) (taken_out (routes_of table k.tables) gone)
  pub rules : (x : Rule) → has rule_kind old x ≡ true → has rule_kind new x ≡ false → (x.action ≡ action.Table table) × (x.outgoing ≡ Some link)
