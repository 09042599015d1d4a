-- Lockdown's promise: what a secure VPN says of a packet leads out by one of its own interfaces.
use Rattle.std.proofs.Common.{◌≡◌, ◌≢◌, ◌∙◌, ◌==◌, ℕ, Bool, true, false, Option, Some, None, unwrap_or, List, [], ◌∷◌, ◌++◌, refl, sym, ap, subst, inl, inr, filter}
use Rattle.std.specs.Prelude.{◌&&◌, ◌||◌, ⊤, if◌then◌else◌, not, nat_lt}
use Rattle.std.specs.List.{list_any}
use Rattle.std.specs.Option.{option_map, option_or, option_and_then}
use Rattle.std.proofs.lemmas.Bool.{and_parts, and_from, eqb-true, false_from_ne_true, false≢true}
use Rattle.fwmark.specs.Mark.{net_of, has_system, is_protected}
use Rattle.networks.specs.Kinds.{is_secure}
use Rattle.networks.specs.Lists.{find_id}
use Rattle.networks.specs.Network.{has_link, routes_by}
use Rattle.networks.specs.declared.kind.Kind.{Kind}
use Rattle.networks.specs.declared.network.LinkRoute.{LinkRoute}
use Rattle.networks.specs.declared.network.Network.{Network}
use Rattle.policy_state.specs.Good.{IsGood, IsNetwork, LeadsOut}
use Rattle.policy_state.specs.View.{StateView, Local, Physical, Virtual}
use Rattle.policy_state.specs.Rows.{numbers_from}
use Rattle.policy_state.proofs.GoodStates.{each-has}
use Rattle.policy_state.proofs.Owners.{Has, OfMap, of_map, OfFlat, of_flat, any-from, find-has}
use Rattle.policy_meaning.specs.Policy.{only_if, first_given, asks_link, asks, by_routes, asks_named, asks_holders, holds_at, holders, IsBarred, is_locked_down, is_to_device, policy}
use Rattle.policy_meaning.specs.Promise.{StaysIn}
use Rattle.policy_meaning.proofs.TwoWays.{of_filter, filter-passes}
use Rattle.prefixes.specs.Addr.{family_of}
use Rattle.prefixes.specs.Best.{best, longer_of}
use Rattle.prefixes.specs.Route.{answer_of, fits}
use Rattle.prefixes.specs.declared.addr.Addr.{Addr}
use Rattle.prefixes.specs.declared.route.Out.{Out}
use Rattle.prefixes.specs.declared.route.Out.TheVariants as out
use Rattle.prefixes.specs.declared.route.Route.{Route}
use Rattle.rule_match.specs.Packet.{is_made}
use Rattle.rule_match.specs.Verdict.{verdict_of}
use Rattle.rule_match.specs.declared.packet.Packet.{Packet}
use Rattle.rule_match.specs.declared.verdict.Verdict.{Verdict}
use Rattle.rule_match.specs.declared.verdict.Verdict.TheVariants as verdict

-- an answer, where there is one, stays in
abbrev Stays : List Network → Option Verdict → Type 0
Stays ns answer = elim answer [ Some v ↦ StaysIn ns v | None ↦ ⊤ ]

-- The best route of a list has what all of them have.

abbrev Holds : {A : Type 0} → (A → Type 0) → Option A → Type 0
Holds P o = elim o [ Some x ↦ P x | None ↦ ⊤ ]

longer-holds : (P : Route → Type 0) (a b : Option Route) → Holds P a → Holds P b → Holds P (longer_of a b)
longer-holds P None b h k = k
longer-holds P (Some r) None h k = h
longer-holds P (Some r) (Some q) h k = by (nat_lt r.prefix.len q.prefix.len)
  where
    by : (b : Bool) → Holds P (if b then Some q else Some r)
    by true = k
    by false = h

best-holds : (P : Route → Type 0) (rs : List Route) (dest : Addr) (bound : Option ℕ) → ((r : Route) → Has rs r → P r) → Holds P (best rs dest bound)
best-holds P [] dest bound h = tt
best-holds P (r ∷ rs) dest bound h =
    longer-holds P (if fits r dest bound then Some r else None) (best rs dest bound) (by (fits r dest bound)) (best-holds P rs dest bound (λ q there. h q (inr there)))
  where
    by : (b : Bool) → Holds P (if b then Some r else None)
    by true = h r (inl refl)
    by false = tt

-- What stays in.

or-stays : (ns : List Network) (a b : Option Verdict) → Stays ns a → Stays ns b → Stays ns (option_or a b)
or-stays ns None b h k = k
or-stays ns (Some v) b h k = h

unwrap-stays : (ns : List Network) (a : Option Verdict) (v : Verdict) → Stays ns a → StaysIn ns v → StaysIn ns (unwrap_or a v)
unwrap-stays ns None v h k = k
unwrap-stays ns (Some w) v h k = h

if-stays : (ns : List Network) (a : Option Verdict) (b : Bool) → (b ≡ true → Stays ns a) → Stays ns (only_if a b)
if-stays ns a true h = h refl
if-stays ns a false h = tt

given-stays : {N : Type 0} (ns : List Network) (g : N → Option Verdict) (xs : List N) → ((x : N) → Has xs x → Stays ns (g x)) → Stays ns (first_given g xs)
given-stays ns g [] h = tt
given-stays ns g (x ∷ xs) h = or-stays ns (g x) (first_given g xs) (h x (inl refl)) (given-stays ns g xs (λ y there. h y (inr there)))

then-stays : {N : Type 0} (ns : List Network) (g : N → Option Verdict) (o : Option N) → ((x : N) → o ≡ Some x → Stays ns (g x)) → Stays ns (option_and_then g o)
then-stays ns g None h = tt
then-stays ns g (Some x) h = h x refl

-- how a route of this interface leads out
abbrev Leads : LinkRoute → Out → Type 0
Leads r o = elim o [
  | out.Dev link (Some gateway) ↦ (link ≡ r.link) × (family_of gateway ≡ family_of r.route.prefix.base)
  | out.Dev link None ↦ link ≡ r.link
  | out.Unreachable ↦ Unit {0}
  | out.Throw ↦ Unit {0}
]

module _ (s : StateView) (p : Packet) (good : IsGood s) where
  -- a route of a secure VPN's interface
  route-stays : (n : Network) (r : LinkRoute) → Has s.networks n → is_secure n.kind ≡ true → has_link n r.link ≡ true → LeadsOut r → Stays s.networks (option_map verdict_of (answer_of r.route.out))
  route-stays n r there secure has leads = by r.route.out leads
    where
      by_link : (link : ℕ) → link ≡ r.link → list_any (λ m. is_secure m.kind && has_link m link) s.networks ≡ true
      by_link link is = any-from (λ m. is_secure m.kind && has_link m link) s.networks n there (and_from (is_secure n.kind) (has_link n link) secure (ap (has_link n) is ∙ has))

      by : (o : Out) → Leads r o → Stays s.networks (option_map verdict_of (answer_of o))
      by (out.Dev link None) is = by_link link is
      by (out.Dev link (Some gateway)) both = by_link link both.0
      by out.Unreachable h = tt
      by out.Throw h = tt

  link-stays : (n : Network) (link : ℕ) → Has s.networks n → is_secure n.kind ≡ true → Stays s.networks (asks_link n link p)
  link-stays n link there secure =
      answered (best (routes_by link n.routes) p.dest p.outgoing) (best-holds (λ q. Stays s.networks (option_map verdict_of (answer_of q.out))) (routes_by link n.routes) p.dest p.outgoing (λ q in_q.
      let it : OfMap (λ (r : LinkRoute). r.route) (filter (λ (r : LinkRoute). r.link == link) n.routes) q = of_map (λ (r : LinkRoute). r.route) (filter (λ (r : LinkRoute). r.link == link) n.routes) q in_q in
      let net : IsNetwork n = each-has IsNetwork s.networks n good.formed.networks.each there in
      let belongs : (has_link n it.one.link ≡ true) × LeadsOut it.one = each-has (λ r. (has_link n r.link ≡ true) × LeadsOut r) n.routes it.one net.routes_belong (of_filter (λ (r : LinkRoute). r.link == link) n.routes it.one it.there) in
      subst (λ (q : Route). Stays s.networks (option_map verdict_of (answer_of q.out))) (sym it.is) (route-stays n it.one there secure belongs.0 belongs.1)))
    where
      answered : (o : Option Route) → Holds (λ q. Stays s.networks (option_map verdict_of (answer_of q.out))) o → Stays s.networks (option_map verdict_of (option_and_then (λ r. answer_of r.out) o))
      answered None h = tt
      answered (Some r) h = h

  net-stays : (n : Network) → Has s.networks n → is_secure n.kind ≡ true → Stays s.networks (asks n p)
  net-stays n there secure = by n.kind refl
    where
      links : Stays s.networks (first_given (λ link. asks_link n link p) n.interfaces)
      links = given-stays s.networks (λ link. asks_link n link p) n.interfaces (λ link has. link-stays n link there secure)

      by : (k : Kind) → n.kind ≡ k → Stays s.networks (asks n p)
      by Local is = absurd (false≢true (rw is at secure))
      by (Physical permission apps) is = rw is links
      by (Virtual secure users) is = rw is links

  named-stays : Stays s.networks (asks_named (by_routes p) s p (λ n. is_secure n.kind))
  named-stays = then-stays s.networks (λ n. only_if (asks n p) (is_secure n.kind)) (find_id (net_of p.mark) s.networks) (λ n is.
      if-stays s.networks (asks n p) (is_secure n.kind) (λ secure. net-stays n (find-has (λ (n : Network). net_of p.mark == n.id) s.networks n is) secure))

  holders-stay : Stays s.networks (asks_holders (by_routes p) s p is_secure)
  unfolding holders
  holders-stay = given-stays s.networks (λ n. asks n p) (holders is_secure s p.uid.number) (λ n h.
      let it : OfFlat (λ rank. filter (λ (n : Network). is_secure n.kind && holds_at p.uid.number rank n) s.networks) (numbers_from 0 100) n = of_flat (λ rank. filter (λ (n : Network). is_secure n.kind && holds_at p.uid.number rank n) s.networks) (numbers_from 0 100) n h in
      net-stays n (of_filter (λ (n : Network). is_secure n.kind && holds_at p.uid.number it.one n) s.networks n it.has)
      (and_parts (is_secure n.kind) (holds_at p.uid.number it.one n) (filter-passes (λ (n : Network). is_secure n.kind && holds_at p.uid.number it.one n) s.networks n it.has)).0)

  pub barred_stays_in : IsBarred s p → p.uid.number ≢ 0 → StaysIn s.networks (policy s p)
  unfolding policy
  barred_stays_in barred not_root =
      let parts = and_parts (is_made p) (is_locked_down s p) barred in
      let no_root : (p.uid.number == 0) ≡ false = false_from_ne_true (p.uid.number == 0) (λ e. not_root (eqb-true p.uid.number 0 e)) in
      rw (parts.0, parts.1, no_root) (
      unwrap-stays s.networks (only_if (Some verdict.Local) (is_to_device p)) _ (if-stays s.networks (Some verdict.Local) (is_to_device p) (λ e. tt))
      (unwrap-stays s.networks (only_if (asks_named (by_routes p) s p (λ n. is_secure n.kind)) (has_system p.mark)) _ (if-stays s.networks (asks_named (by_routes p) s p (λ n. is_secure n.kind)) (has_system p.mark) (λ e. named-stays))
      (unwrap-stays s.networks (only_if (asks_holders (by_routes p) s p is_secure) (not (is_protected p.mark))) verdict.Prohibited (if-stays s.networks (asks_holders (by_routes p) s p is_secure) (not (is_protected p.mark)) (λ e. holders-stay)) tt)))

-- More networks take nothing away.

or-right : (b c : Bool) → c ≡ true → (b || c) ≡ true
or-right true c h = refl
or-right false c h = h

any-after : {N : Type 0} (t : N → Bool) (xs ys : List N) → list_any t xs ≡ true → list_any t (xs ++ ys) ≡ true
any-after t [] ys h = absurd (false≢true h)
any-after t (x ∷ xs) ys h = by (t x) (any-after t xs ys) h
  where
    by : (b : Bool) → (list_any t xs ≡ true → list_any t (xs ++ ys) ≡ true) → (b || list_any t xs) ≡ true → (b || list_any t (xs ++ ys)) ≡ true
    by true more g = refl
    by false more g = more g

any-before : {N : Type 0} (t : N → Bool) (xs ys : List N) → list_any t ys ≡ true → list_any t (xs ++ ys) ≡ true
any-before t [] ys h = h
any-before t (x ∷ xs) ys h = or-right (t x) (list_any t (xs ++ ys)) (any-before t xs ys h)

-- what stays in, stays in where more networks may be used, after these or before them
pub stays-with_more_after : (ns ms : List Network) (v : Verdict) → StaysIn ns v → StaysIn (ns ++ ms) v
stays-with_more_after ns ms verdict.Local h = tt
stays-with_more_after ns ms (verdict.Out link gateway) h = any-after (λ n. is_secure n.kind && has_link n link) ns ms h
stays-with_more_after ns ms verdict.Prohibited h = tt
stays-with_more_after ns ms verdict.Unreachable h = tt

pub stays-with_more_before : (ns ms : List Network) (v : Verdict) → StaysIn ns v → StaysIn (ms ++ ns) v
stays-with_more_before ns ms verdict.Local h = tt
stays-with_more_before ns ms (verdict.Out link gateway) h = any-before (λ n. is_secure n.kind && has_link n link) ms ns h
stays-with_more_before ns ms verdict.Prohibited h = tt
stays-with_more_before ns ms verdict.Unreachable h = tt
