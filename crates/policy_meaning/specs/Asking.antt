-- How networks are asked: the routes at an interface, the holders of a user, and one answer after another.
use Rattle.std.specs.Prelude.{ℕ, ◌==◌, ◌&&◌, Bool, true, List, [], ◌∷◌, map, filter, find, if◌then◌else◌, Option, Some, None}
use Rattle.std.specs.Option.{option_or}
use Rattle.networks.specs.Kinds.{is_physical, is_secure, is_bypass}
use Rattle.networks.specs.declared.kind.Kind.{Kind}
use Rattle.networks.specs.declared.network.LinkRoute.{LinkRoute}
use Rattle.networks.specs.declared.network.Network.{Network}
use Rattle.policy_meaning.specs.Policy.{holds_at, is_usable}
use Rattle.policy_meaning.specs.declared.holders.Holder.{Holder}
use Rattle.policy_meaning.specs.declared.holders.Holder.TheVariants as holder
use Rattle.prefixes.specs.Route.{fits}
use Rattle.prefixes.specs.declared.addr.Addr.{Addr}
use Rattle.prefixes.specs.declared.route.Route.{Route}
use Rattle.rule_match.specs.declared.packet.Packet.{Packet}
use Rattle.rule_match.specs.declared.verdict.Verdict.{Verdict}

-- the route belongs to this interface, where one is given
abbrev pub is_at : Option ℕ → LinkRoute → Bool
is_at None r = true
is_at (Some link) r = r.link == link

-- the route, where it belongs to the interface and fits
abbrev pub fitting : Option ℕ → Addr → Option ℕ → LinkRoute → Option Route
fitting link dest bound r = if is_at link r && fits r.route dest bound then Some r.route else None

abbrev pub routes_at : Option ℕ → List LinkRoute → List Route
routes_at link routes = map (λ r. r.route) (filter (is_at link) routes)

-- the first answer of a list, or none
abbrev pub first_of : List (Option Verdict) → Option Verdict
first_of [] = None
first_of (answer ∷ answers) = option_or answer (first_of answers)

-- networks of this kind are meant
abbrev pub is_meant : Holder → Packet → Kind → Bool
is_meant holder.Secure p kind = is_secure kind
is_meant holder.Bypass p kind = is_bypass kind
is_meant holder.Preferred p kind = is_usable p kind

-- networks of this kind hold users
abbrev pub is_holder : Holder → Kind → Bool
is_holder holder.Secure kind = is_secure kind
is_holder holder.Bypass kind = is_bypass kind
is_holder holder.Preferred kind = is_physical kind

-- the network of this kind that holds the UID at this rank
abbrev pub holder_at : Holder → ℕ → ℕ → List Network → Option Network
holder_at holder uid rank networks = find (λ n. is_holder holder n.kind && holds_at uid rank n) networks
