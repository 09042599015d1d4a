-- Routes: which packets they suit, their keys, and when two are equal.
use Rattle.std.specs.Prelude.{ℕ, Bool, true, false, ◌&&◌, ◌==◌, Option, Some, None}
use Rattle.std.specs.Option.{option_eq}
use Rattle.prefixes.specs.Addr.{same_addr}
use Rattle.prefixes.specs.Prefix.{covers, same_prefix}
use Rattle.prefixes.specs.declared.addr.Addr.{Addr}
use Rattle.prefixes.specs.declared.route.Out.{Out}
use Rattle.prefixes.specs.declared.route.Out.TheVariants as out
use Rattle.prefixes.specs.declared.route.Answer.{Answer}
use Rattle.prefixes.specs.declared.route.Answer.TheVariants as answer
use Rattle.prefixes.specs.declared.route.Route.{Route}

-- the link that a device route goes out by; a special route has none
abbrev pub link_of : Out → Option ℕ
link_of (out.Dev link gateway) = Some link
link_of out.Unreachable = None
link_of out.Throw = None

-- a packet that is bound to a link takes the routes by this link, and the special ones
abbrev pub suits : Option ℕ → Option ℕ → Bool
suits route_link None = true
suits None (Some bound) = true
suits (Some link) (Some bound) = link == bound

-- the route covers the destination and suits the binding
abbrev pub fits : Route → Addr → Option ℕ → Bool
fits r dest bound = covers r.prefix dest && suits (link_of r.out) bound

-- what a route answers as the best of its table; a throw lets the search go on
abbrev pub answer_of : Out → Option Answer
answer_of (out.Dev link gateway) = Some (answer.Out link gateway)
answer_of out.Unreachable = Some answer.Unreachable
answer_of out.Throw = None

abbrev pub same_out : Out → Out → Bool
same_out (out.Dev i g) (out.Dev j h) = (i == j) && option_eq same_addr g h
same_out out.Unreachable out.Unreachable = true
same_out out.Throw out.Throw = true
same_out (out.Dev i g) out.Unreachable = false
same_out (out.Dev i g) out.Throw = false
same_out out.Unreachable (out.Dev j h) = false
same_out out.Unreachable out.Throw = false
same_out out.Throw (out.Dev j h) = false
same_out out.Throw out.Unreachable = false

abbrev pub same_route : Route → Route → Bool
same_route a b = same_prefix a.prefix b.prefix && same_out a.out b.out

-- the key of a route is its prefix with the outgoing link, or the prefix alone for a special route
abbrev pub same_key : Route → Route → Bool
same_key a b = same_prefix a.prefix b.prefix && option_eq ◌==◌ (link_of a.out) (link_of b.out)
