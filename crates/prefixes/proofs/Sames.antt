-- The tests of equality are true exactly where two values are equal.
use Rattle.std.proofs.Common.{◌≡◌, ℕ, ◌==◌, true, refl, sym, ◌∙◌, ap, subst}
use Rattle.std.specs.Option.{option_eq}
use Rattle.std.proofs.Props.{props}
use Rattle.std.proofs.lemmas.Bool.{and_parts, and_from, eqb-true, false≢true}
use Rattle.list_lemmas.proofs.Numbers.{eqb-refl}
use Rattle.list_lemmas.proofs.Options.{option_eq-true, option_eq-refl}
use Rattle.prefixes.specs.Addr.{IsPrefix, same_family, same_addr}
use Rattle.prefixes.specs.Prefix.{same_prefix}
use Rattle.prefixes.specs.Route.{link_of, same_out, same_route, same_key}
use Rattle.prefixes.specs.declared.addr.Family.{Family}
use Rattle.prefixes.specs.declared.addr.Family.TheVariants as family
use Rattle.prefixes.specs.declared.addr.Addr.{Addr}
use Rattle.prefixes.specs.declared.addr.Addr.TheVariants as addr
use Rattle.prefixes.specs.declared.prefix.Prefix.{Prefix}
use Rattle.prefixes.specs.declared.route.Out.{Out}
use Rattle.prefixes.specs.declared.route.Out.TheVariants as out
use Rattle.prefixes.specs.declared.route.Route.{Route}

pub same_family-true : (a b : Family) → same_family a b ≡ true → a ≡ b
same_family-true family.V4 family.V4 h = refl
same_family-true family.V6 family.V6 h = refl
same_family-true family.V4 family.V6 h = absurd (false≢true h)
same_family-true family.V6 family.V4 h = absurd (false≢true h)

pub same_family-refl : (a : Family) → same_family a a ≡ true
same_family-refl family.V4 = refl
same_family-refl family.V6 = refl

pub same_addr-true : (a b : Addr) → same_addr a b ≡ true → a ≡ b
same_addr-true (addr.V4 a) (addr.V4 b) h = ap addr.V4 (eqb-true a b h)
same_addr-true (addr.V6 a) (addr.V6 b) h = ap addr.V6 (eqb-true a b h)
same_addr-true (addr.V4 a) (addr.V6 b) h = absurd (false≢true h)
same_addr-true (addr.V6 a) (addr.V4 b) h = absurd (false≢true h)

pub same_addr-refl : (a : Addr) → same_addr a a ≡ true
same_addr-refl (addr.V4 a) = eqb-refl a
same_addr-refl (addr.V6 a) = eqb-refl a

abbrev prefix_from : (base : Addr) (len : ℕ) → IsPrefix base len → Prefix
prefix_from base len is_prefix = record { base = base; len = len; is_prefix = is_prefix }

IsPrefix-prop : (base : Addr) (len : ℕ) → IsProp (IsPrefix base len)
IsPrefix-prop base len = hlevel props

-- prefixes of one base and one length are equal
pub prefix_is : (p q : Prefix) → p.base ≡ q.base → p.len ≡ q.len → p ≡ q
prefix_is p q base len =
    subst (λ (b : Addr). (v : IsPrefix b q.len) → p ≡ prefix_from b q.len v) base
    (subst (λ (l : ℕ). (v : IsPrefix p.base l) → p ≡ prefix_from p.base l v) len (λ v. ap (prefix_from p.base p.len) (IsPrefix-prop p.base p.len p.is_prefix v)))
    q.is_prefix

pub same_prefix-true : (p q : Prefix) → same_prefix p q ≡ true → p ≡ q
same_prefix-true p q h =
    let parts = and_parts (same_addr p.base q.base) (p.len == q.len) h in
    prefix_is p q (same_addr-true p.base q.base parts.0) (eqb-true p.len q.len parts.1)

pub same_prefix-refl : (p : Prefix) → same_prefix p p ≡ true
same_prefix-refl p = and_from _ _ (same_addr-refl p.base) (eqb-refl p.len)

pub same_out-true : (a b : Out) → same_out a b ≡ true → a ≡ b
same_out-true (out.Dev i g) (out.Dev j h) same =
    let parts = and_parts (i == j) (option_eq same_addr g h) same in
    ap (λ x. out.Dev x g) (eqb-true i j parts.0) ∙ ap (out.Dev j) (option_eq-true same_addr same_addr-true g h parts.1)
same_out-true out.Unreachable out.Unreachable same = refl
same_out-true out.Throw out.Throw same = refl
same_out-true (out.Dev i g) out.Unreachable same = absurd (false≢true same)
same_out-true (out.Dev i g) out.Throw same = absurd (false≢true same)
same_out-true out.Unreachable (out.Dev j h) same = absurd (false≢true same)
same_out-true out.Unreachable out.Throw same = absurd (false≢true same)
same_out-true out.Throw (out.Dev j h) same = absurd (false≢true same)
same_out-true out.Throw out.Unreachable same = absurd (false≢true same)

pub same_out-refl : (a : Out) → same_out a a ≡ true
same_out-refl (out.Dev i g) = and_from _ _ (eqb-refl i) (option_eq-refl same_addr same_addr-refl g)
same_out-refl out.Unreachable = refl
same_out-refl out.Throw = refl

abbrev route_from : Prefix → Out → Route
route_from prefix way = record { prefix = prefix; out = way }

pub same_route-true : (a b : Route) → same_route a b ≡ true → a ≡ b
same_route-true a b h =
    let parts = and_parts (same_prefix a.prefix b.prefix) (same_out a.out b.out) h in
    ap (λ x. route_from x a.out) (same_prefix-true a.prefix b.prefix parts.0) ∙ ap (route_from b.prefix) (same_out-true a.out b.out parts.1)

pub same_route-refl : (a : Route) → same_route a a ≡ true
same_route-refl a = and_from _ _ (same_prefix-refl a.prefix) (same_out-refl a.out)

pub same_key-true : (a b : Route) → same_key a b ≡ true → (a.prefix ≡ b.prefix) × (link_of a.out ≡ link_of b.out)
same_key-true a b h =
    let parts = and_parts (same_prefix a.prefix b.prefix) (option_eq ◌==◌ (link_of a.out) (link_of b.out)) h in
    (same_prefix-true a.prefix b.prefix parts.0, option_eq-true ◌==◌ eqb-true (link_of a.out) (link_of b.out) parts.1)

pub same_key-from : (a b : Route) → a.prefix ≡ b.prefix → link_of a.out ≡ link_of b.out → same_key a b ≡ true
same_key-from a b prefix link =
    and_from _ _ (ap (same_prefix a.prefix) (sym prefix) ∙ same_prefix-refl a.prefix)
    (ap (option_eq ◌==◌ (link_of a.out)) (sym link) ∙ option_eq-refl ◌==◌ eqb-refl (link_of a.out))

pub same_key-refl : (a : Route) → same_key a a ≡ true
same_key-refl a = same_key-from a a refl refl

pub same_key-sym : (a b : Route) → same_key a b ≡ true → same_key b a ≡ true
same_key-sym a b h = let parts = same_key-true a b h in same_key-from b a (sym parts.0) (sym parts.1)
