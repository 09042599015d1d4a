-- What a kernel is, after the ip-rule manual: a list of rules for each family, and tables of routes.
use Rattle.std.specs.Prelude.{ℕ, Bool, true, false, not, ◌==◌, if◌then◌else◌, List, [], ◌∷◌, ◌++◌, None, refl}
use Rattle.std.proofs.Common.{lit≤}
use Rattle.rule_match.specs.Packet.{lo}
use Rattle.fib_table.specs.Table.{has_key, has_route, without_route}
use Rattle.prefixes.specs.declared.addr.Addr.TheVariants as addr
use Rattle.prefixes.specs.declared.addr.Family.{Family}
use Rattle.prefixes.specs.declared.addr.Family.TheVariants as family
use Rattle.prefixes.specs.declared.route.Out.TheVariants as out
use Rattle.prefixes.specs.declared.route.Route.{Route}
use Rattle.rule_law.specs.Rules.{has, placed, without}
use Rattle.rule_match.specs.declared.rule.Action.TheVariants as action
use Rattle.rule_match.specs.declared.rule.Rule.{Rule}
use Rattle.rule_kinds.specs.Kind.{rule_kind}
use Rattle.kernel_model.specs.declared.request.Request.{Request}
use Rattle.kernel_model.specs.declared.request.Request.TheVariants as req

pub record NumberedTable : Type 0 where
  pub number : ℕ
  -- in order of addition
  pub routes : List Route

pub record KernelState : Type 0 where
  pub rules4 : List Rule
  pub rules6 : List Rule
  pub tables : List NumberedTable

abbrev pub rules_of : KernelState → Family → List Rule
rules_of k family.V4 = k.rules4
rules_of k family.V6 = k.rules6

abbrev pub with_rules : KernelState → Family → List Rule → KernelState
with_rules k family.V4 rules = record k { rules4 = rules }
with_rules k family.V6 rules = record k { rules6 = rules }

-- a table that isn't there has no routes
abbrev pub routes_of : ℕ → List NumberedTable → List Route
routes_of n [] = []
routes_of n (t ∷ ts) = if t.number == n then t.routes else routes_of n ts

abbrev pub has_rule : Rule → List Rule → Bool
has_rule rule rules = has rule_kind rules rule

-- a route goes last in its table, and a table that isn't there goes last
abbrev pub put_route : ℕ → Route → List NumberedTable → List NumberedTable
put_route n route [] = record { number = n; routes = route ∷ [] } ∷ []
put_route n route (t ∷ ts) =
    if t.number == n then record { number = t.number; routes = t.routes ++ route ∷ [] } ∷ ts else t ∷ put_route n route ts

-- a route is taken out of its table, and an emptied table stays
abbrev pub cut_route : ℕ → Route → List NumberedTable → List NumberedTable
cut_route n route [] = []
cut_route n route (t ∷ ts) =
    if t.number == n then record { number = t.number; routes = without_route t.routes route } ∷ ts else t ∷ cut_route n route ts

-- the kernel after an addition
abbrev pub add : KernelState → Request → KernelState
add k (req.Rule f rule) = with_rules k f (placed rule_kind rule (rules_of k f))
add k (req.Route n route) = record k { tables = put_route n route k.tables }

-- the kernel after a deletion
abbrev pub delete : KernelState → Request → KernelState
delete k (req.Rule f rule) = with_rules k f (without rule_kind rule (rules_of k f))
delete k (req.Route n route) = record k { tables = cut_route n route k.tables }

-- the rule isn't in its family's list, or the route's key isn't in its table
abbrev pub is_absent : KernelState → Request → Bool
is_absent k (req.Rule f rule) = not (has_rule rule (rules_of k f))
is_absent k (req.Route n route) = not (has_key (routes_of n k.tables) route)

-- the rule is in its family's list, or the route is in its table
abbrev pub is_present : KernelState → Request → Bool
is_present k (req.Rule f rule) = has_rule rule (rules_of k f)
is_present k (req.Route n route) = has_route (routes_of n k.tables) route

abbrev pub is_route : Request → Bool
is_route (req.Rule f rule) = false
is_route (req.Route n route) = true

-- the table of the device's own addresses
abbrev pub device_table : ℕ
device_table = 255

-- the rule that each family has from the start: it selects nothing and looks in that table
abbrev pub own_rule : Rule
own_rule = record { priority = 0; mark = 0; mask = 0; incoming = None; outgoing = None; uids = None; action = action.Table device_table }

-- 127.0.0.0/8 and ::1/128, both out by `lo`
abbrev pub loopback4 : Route
loopback4 = record { prefix = record { base = addr.V4 2130706432; len = 8; is_prefix = (lit≤ tt, refl) }; out = out.Dev lo None }

abbrev pub loopback6 : Route
loopback6 = record { prefix = record { base = addr.V6 1; len = 128; is_prefix = (lit≤ tt, refl) }; out = out.Dev lo None }

abbrev pub loopback : List Route
loopback = loopback4 ∷ loopback6 ∷ []

-- the starting kernel
abbrev pub start : KernelState
start = record { rules4 = own_rule ∷ []; rules6 = own_rule ∷ []; tables = record { number = device_table; routes = loopback } ∷ [] }
