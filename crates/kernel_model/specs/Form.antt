-- Requests that have one text each, as the `ip` program writes rules and routes.
use Rattle.std.specs.Prelude.{◌≡◌, ◌≢◌, Some, None, List}
use Rattle.std.specs.List.{AllByRecursion}
use Rattle.prefixes.specs.Addr.{family_of}
use Rattle.prefixes.specs.declared.prefix.Prefix.{Prefix}
use Rattle.prefixes.specs.declared.route.Out.{Out}
use Rattle.prefixes.specs.declared.route.Out.TheVariants as out
use Rattle.prefixes.specs.declared.route.Route.{Route}
use Rattle.rule_match.specs.declared.rule.Rule.{Rule}
use Rattle.kernel_model.specs.declared.request.Entry.{Entry}
use Rattle.kernel_model.specs.declared.request.Request.{Request}
use Rattle.kernel_model.specs.declared.request.Request.TheVariants as req

-- The ip-rule manual has a value with its mask (`fwmark`), so without a mask there is none; the index 0 stands for no link
-- (if_nametoindex(3)).
pub record IsWellFormedRule (r : Rule) : Type 0 where
  pub value : r.mask ≡ 0 → r.mark ≡ 0
  pub incoming : r.incoming ≢ Some 0
  pub outgoing : r.outgoing ≢ Some 0

-- a gateway is of its prefix's family (`via ADDRESS` of the ip-route manual without a family before it), and no link is 0
abbrev pub LeadsWell : Prefix → Out → Type 0
LeadsWell prefix (out.Dev link None) = link ≢ 0
LeadsWell prefix (out.Dev link (Some gateway)) = (link ≢ 0) × (family_of gateway ≡ family_of prefix.base)
LeadsWell prefix out.Unreachable = Unit {0}
LeadsWell prefix out.Throw = Unit {0}

abbrev pub IsWellFormedRoute : Route → Type 0
IsWellFormedRoute r = LeadsWell r.prefix r.out

abbrev pub IsWellFormed : Request → Type 0
IsWellFormed (req.Rule family rule) = IsWellFormedRule rule
IsWellFormed (req.Route table route) = IsWellFormedRoute route

-- each request of a journal
abbrev pub AreWellFormed : List Entry → Type 0
AreWellFormed journal = AllByRecursion (λ e. IsWellFormed e.request) journal
