-- The routes of each interface are counted, with one more and some fewer.
use Rattle.std.proofs.Common.{◌≡◌, ◌==◌, ℕ, suc, ◌+◌, ◌≤◌, Bool, true, false, cond, not, List, [], ◌∷◌, ◌++◌, filter, length, Option, Some, None, Result, Ok, Err, IsOk, OnErr, unwrap_or, nat_eq, refl, sym, ap, ◌∙◌, arith, inl, inr}
use Rattle.std.specs.List.{list_any, list_all}
use Rattle.std.specs.Map.{lookup}
use Rattle.std.proofs.lemmas.Bool.{cases_Bool, and_parts, eqb-true, false≢true}
use Rattle.std.proofs.lemmas.List.{length-map}
use Rattle.std.proofs.lemmas.Option.{none-some}
use Rattle.list_lemmas.proofs.Anys.{filter-others}
use Rattle.list_lemmas.proofs.Numbers.{eqb-refl}
use Rattle.networks.specs.Network.{routes_by}
use Rattle.networks.specs.declared.network.LinkRoute.{LinkRoute}
use Rattle.route_store.specs.Counts.{count_in, IsCounted}
use Rattle.route_store.specs.Keys.{same_route_key, same_route_key-Decides, key_of, are_apart}
use Rattle.route_store.specs.declared.key.RouteKey.{RouteKey}
use Rattle.route_store.proofs.Places.{apart-none}
use Rattle.route_store.proofs.Placed.{keyed}

abbrev pub count : ℕ → List LinkRoute → ℕ
count link routes = length (filter (λ r. r.link == link) routes)

count-by : (link : ℕ) (routes : List LinkRoute) → length (routes_by link routes) ≡ count link routes
count-by link routes = length-map (filter (λ r. r.link == link) routes) (λ r. r.route)

-- the count of one interface is written, and that of no other changes
pub counted-by : (routes routes' : List LinkRoute) (counts counts' : List (ℕ × ℕ)) (link : ℕ) (written : Option ℕ) → IsCounted routes counts
    → ((q : ℕ) → lookup (nat_eq q) counts' ≡ cond (nat_eq link q) written (lookup (nat_eq q) counts))
    → unwrap_or written 0 ≡ count link routes' → ((q : ℕ) → nat_eq link q ≡ false → count q routes' ≡ count q routes) → IsCounted routes' counts'
counted-by routes routes' counts counts' link written old put here others q =
    elim (cases_Bool (nat_eq link q)) as (λ _. count_in q counts' ≡ length (routes_by q routes')) [
      | inl same ↦
          let found : lookup (nat_eq q) counts' ≡ written = put q ∙ ap (λ b. cond b written (lookup (nat_eq q) counts)) same in
          ap (λ o. unwrap_or o 0) found ∙ here ∙ ap (λ l. count l routes') (eqb-true link q same) ∙ sym (count-by q routes')
      | inr other ↦
          let found : lookup (nat_eq q) counts' ≡ lookup (nat_eq q) counts = put q ∙ ap (λ b. cond b written (lookup (nat_eq q) counts)) other in
          ap (λ o. unwrap_or o 0) found ∙ old q ∙ count-by q routes ∙ sym (others q other) ∙ sym (count-by q routes')
    ]

pub count-is : (link n : ℕ) (routes : List LinkRoute) (counts : List (ℕ × ℕ)) → IsCounted routes counts → n ≡ count_in link counts → n ≡ count link routes
count-is link n routes counts counted is = is ∙ counted link ∙ count-by link routes

pub count-le : (link : ℕ) (routes : List LinkRoute) → count link routes ≤ length routes
count-le link [] = omega arith
count-le link (r ∷ rs) = by (r.link == link) (count-le link rs)
  where
    by : (b : Bool) → count link rs ≤ length rs → length (cond b (r ∷ filter (λ r. r.link == link) rs) (filter (λ r. r.link == link) rs)) ≤ length (r ∷ rs)
    by true rest = omega (arith, rest)
    by false rest = omega (arith, rest)

pub count-push : (link : ℕ) (routes : List LinkRoute) (r : LinkRoute) → count link (routes ++ r ∷ []) ≡ cond (r.link == link) (count link routes + 1) (count link routes)
count-push link [] r = elim (cases_Bool (r.link == link)) as (λ _. count link (r ∷ []) ≡ cond (r.link == link) (count link [] + 1) (count link [])) [ inl e ↦ rw e refl | inr e ↦ rw e refl ]
count-push link (x ∷ xs) r =
    let rest = count-push link xs r in
    elim (cases_Bool (x.link == link)) as (λ _. count link (x ∷ (xs ++ r ∷ [])) ≡ cond (r.link == link) (count link (x ∷ xs) + 1) (count link (x ∷ xs))) [
      | inl e ↦ by e rest
      | inr e ↦ rw e rest
    ]
  where
    by : (x.link == link) ≡ true → count link (xs ++ r ∷ []) ≡ cond (r.link == link) (count link xs + 1) (count link xs) → count link (x ∷ (xs ++ r ∷ [])) ≡ cond (r.link == link) (count link (x ∷ xs) + 1) (count link (x ∷ xs))
    by e rest = elim (cases_Bool (r.link == link)) as (λ _. count link (x ∷ (xs ++ r ∷ [])) ≡ cond (r.link == link) (count link (x ∷ xs) + 1) (count link (x ∷ xs))) [
      | inl same ↦ let more : count link (xs ++ r ∷ []) ≡ count link xs + 1 = rw same at rest in rw (e, same) (omega (arith, more))
      | inr other ↦ let more : count link (xs ++ r ∷ []) ≡ count link xs = rw other at rest in rw (e, other) (omega (arith, more))
    ]

-- the one route of a key taken out
pub count-remove : (key : RouteKey) (routes : List LinkRoute) → are_apart routes ≡ true → list_any (keyed key) routes ≡ true
    → count key.link (filter (λ r. not (keyed key r)) routes) + 1 ≡ count key.link routes
count-remove key [] apart there = absurd (false≢true there)
count-remove key (r ∷ rs) apart there =
    let parts = and_parts (list_all (λ x. not (same_route_key (key_of r) (key_of x))) rs) (are_apart rs) apart in
    elim (cases_Bool (keyed key r)) as (λ _. count key.link (filter (λ r. not (keyed key r)) (r ∷ rs)) + 1 ≡ count key.link (r ∷ rs)) [
      | inl e ↦
          let same : (r.link == key.link) ≡ true = ap (λ (k : RouteKey). k.link == key.link) ((same_route_key-Decides (key_of r) key).0 e) ∙ eqb-refl key.link in
          let others : filter (λ x. not (keyed key x)) rs ≡ rs = filter-others (keyed key) rs (apart-none same_route_key same_route_key-Decides key_of r rs parts.0 key e) in
          let less : count key.link (filter (λ x. not (keyed key x)) rs) ≡ count key.link rs = ap (count key.link) others in
          rw (e, same) (omega (arith, less))
      | inr e ↦
          let rest = count-remove key rs parts.1 (rw e at there) in
          elim (cases_Bool (r.link == key.link)) as (λ _. count key.link (filter (λ r. not (keyed key r)) (r ∷ rs)) + 1 ≡ count key.link (r ∷ rs)) [
            | inl same ↦ rw (e, same) (omega (arith, rest))
            | inr other ↦ rw (e, other) rest
          ]
    ]

-- what is taken out is of another interface
pub count-others : (gone : LinkRoute → Bool) (q : ℕ) → ((r : LinkRoute) → gone r ≡ true → (r.link == q) ≡ false) → (routes : List LinkRoute) → count q (filter (λ r. not (gone r)) routes) ≡ count q routes
count-others gone q apart [] = refl
count-others gone q apart (r ∷ rs) =
    let rest = count-others gone q apart rs in
    elim (cases_Bool (gone r)) as (λ _. count q (filter (λ r. not (gone r)) (r ∷ rs)) ≡ count q (r ∷ rs)) [
      | inl e ↦ rw (e, apart r e) rest
      | inr e ↦ elim (cases_Bool (r.link == q)) as (λ _. count q (filter (λ r. not (gone r)) (r ∷ rs)) ≡ count q (r ∷ rs)) [
        | inl same ↦ rw (e, same) (ap suc rest)
        | inr other ↦ rw (e, other) rest
      ]
    ]

pub keyed-other : (key : RouteKey) (q : ℕ) → nat_eq key.link q ≡ false → (r : LinkRoute) → keyed key r ≡ true → (r.link == q) ≡ false
keyed-other key q other r is = ap (λ (k : RouteKey). k.link == q) ((same_route_key-Decides (key_of r) key).0 is) ∙ other

pub linked-other : (link q : ℕ) → nat_eq link q ≡ false → (r : LinkRoute) → (r.link == link) ≡ true → (r.link == q) ≡ false
linked-other link q other r is = ap (λ l. l == q) (eqb-true r.link link is) ∙ other

-- all routes of an interface taken out
pub count-none : (link : ℕ) (routes : List LinkRoute) → 0 ≡ count link (filter (λ r. not (r.link == link)) routes)
count-none link [] = refl
count-none link (r ∷ rs) = elim (cases_Bool (r.link == link)) as (λ _. 0 ≡ count link (filter (λ r. not (r.link == link)) (r ∷ rs))) [
  | inl e ↦ rw e (count-none link rs)
  | inr e ↦ rw (e, e) (count-none link rs)
]

pub count-there : (key : RouteKey) (routes : List LinkRoute) → are_apart routes ≡ true → list_any (keyed key) routes ≡ true → 1 ≤ count key.link routes
count-there key routes apart there = let less = count-remove key routes apart there in omega (arith, less)

-- a write at a key that is there takes no memory
pub ok-there : {T E X : Type 0} (r : Result T E) (o : Option X) (x : X) → o ≡ Some x → OnErr r (o ≡ None) → IsOk r
ok-there (Ok t) o x there absent = refl
ok-there (Err e) o x there absent = absurd (none-some x (sym absent ∙ there))

pub there-some : (o : Option ℕ) (n : ℕ) → n ≡ unwrap_or o 0 → 1 ≤ n → (x : ℕ) × (o ≡ Some x)
there-some None n is some = absurd (omega (arith, is, some))
there-some (Some x) n is some = (x, refl)
