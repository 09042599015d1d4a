-- The keys of a network's routes: what `is_keyed_by` compares.
use Rattle.std.specs.Prelude.{◌≡◌, ℕ, ◌==◌, ◌&&◌, ◌++◌, Bool, true, not, List}
use Rattle.std.specs.Bool.{Decides}
use Rattle.std.specs.Hash as fed
use Rattle.std.specs.Option.{option_eq}
use Rattle.std.proofs.Common.{ap, ◌∙◌, sym}
use Rattle.std.proofs.lemmas.Bool.{and_parts, and_from, eqb-true}
use Rattle.list_lemmas.proofs.Numbers.{eqb-refl}
use Rattle.list_lemmas.proofs.Options.{option_eq-true, option_eq-refl}
use Rattle.list_lemmas.specs.Pairwise.{pairwise}
use Rattle.networks.specs.declared.network.LinkRoute.{LinkRoute}
use Rattle.prefixes.specs.Addr.{value_of}
use Rattle.prefixes.specs.Prefix.{same_prefix}
use Rattle.prefixes.specs.Route.{link_of}
use Rattle.prefixes.specs.declared.route.Route.{Route}
use Rattle.prefixes.proofs.Sames.{same_prefix-true, same_prefix-refl}
use Rattle.route_store.specs.declared.key.RouteKey.{RouteKey}

-- the key of such a route at the interface of this link
abbrev pub key_by : ℕ → Route → RouteKey
key_by link route = record { link = link; prefix = route.prefix; out = link_of route.out }

abbrev pub key_of : LinkRoute → RouteKey
key_of r = key_by r.link r.route

-- a route has the key `key_by link key` where and only where `is_keyed_by link key` holds of it
abbrev pub same_route_key : RouteKey → RouteKey → Bool
same_route_key a b = (a.link == b.link) && (same_prefix a.prefix b.prefix && option_eq ◌==◌ a.out b.out)

-- no two routes have one key
abbrev pub are_apart : List LinkRoute → Bool
are_apart routes = pairwise (λ a b. not (same_route_key (key_of a) (key_of b))) routes

-- what a key's hash is made of
abbrev pub fed_by : RouteKey → fed.HashWrites
fed_by k = fed.u16 k.link ++ (fed.u128 (value_of k.prefix.base) ++ (fed.u8 k.prefix.len ++ fed.option fed.u16 k.out))

pub same_route_key-Decides : (a b : RouteKey) → Decides (same_route_key a b) (a ≡ b)
same_route_key-Decides a b = (to, from)
  where
    to : same_route_key a b ≡ true → a ≡ b
    to h =
        let first = and_parts (a.link == b.link) (same_prefix a.prefix b.prefix && option_eq ◌==◌ a.out b.out) h in
        let rest = and_parts (same_prefix a.prefix b.prefix) (option_eq ◌==◌ a.out b.out) first.1 in
        λ i. record { link = eqb-true a.link b.link first.0 i; prefix = same_prefix-true a.prefix b.prefix rest.0 i; out = option_eq-true ◌==◌ eqb-true a.out b.out rest.1 i }

    from : a ≡ b → same_route_key a b ≡ true
    from e =
        ap (same_route_key a) (sym e)
        ∙ and_from (a.link == a.link) (same_prefix a.prefix a.prefix && option_eq ◌==◌ a.out a.out) (eqb-refl a.link) (and_from (same_prefix a.prefix a.prefix) (option_eq ◌==◌ a.out a.out) (same_prefix-refl a.prefix) (option_eq-refl ◌==◌ eqb-refl a.out))
