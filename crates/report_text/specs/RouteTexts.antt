-- Routes, as they are printed: after `ip route show`.
use Rattle.std.specs.Prelude.{ℕ, List, [], ◌∷◌, ◌++◌, codes, flat_map, length}
use Rattle.std.specs.Fmt.{decimal}
use Rattle.addr_text.specs.Canonical.{canonical_prefix}
use Rattle.policy_state.specs.View.{StateView}
use Rattle.prefixes.specs.declared.prefix.Prefix.{Prefix}
use Rattle.prefixes.specs.declared.route.Out.{Out}
use Rattle.prefixes.specs.declared.route.Out.TheVariants as out
use Rattle.prefixes.specs.declared.route.Route.{Route}
use Rattle.word_text.specs.Texts.{line_feed}
use Rattle.report_text.specs.Links.{link_text}
use Rattle.report_text.specs.Verdicts.{gateway_text}

-- where what the prefix covers goes
abbrev pub way_text : StateView → Prefix → Out → List ℕ
way_text state prefix (out.Dev link gateway) = canonical_prefix prefix ++ gateway_text gateway ++ codes " dev " ++ link_text state link
way_text state prefix out.Unreachable = codes "unreachable " ++ canonical_prefix prefix
way_text state prefix out.Throw = codes "throw " ++ canonical_prefix prefix

abbrev pub route_text : StateView → Route → List ℕ
route_text state route = way_text state route.prefix route.out

-- a line of a route
abbrev pub route_line : StateView → Route → List ℕ
route_line state route = codes "  " ++ route_text state route ++ line_feed ∷ []

-- how many routes there are, and each of them in its line
abbrev pub routes_text : StateView → List Route → List ℕ
routes_text state routes = decimal (length routes) ++ codes " routes" ++ line_feed ∷ [] ++ flat_map (route_line state) routes
