-- The best route on the way down.
use Rattle.std.proofs.Common.{◌≡◌, ℕ, ◌+◌, ◌<◌, ◌≤◌, ◌⊎◌, nat_lt, Bool, true, false, cond, List, [], ◌∷◌, Option, Some, None, refl, sym, ◌∙◌, ap, subst, arith, inl, inr}
use Rattle.std.specs.Bool.{IsTrue, if◌then◌else◌}
use Rattle.std.specs.List.{All, filter}
use Rattle.std.proofs.lemmas.Bool.{cases_Bool, ltb-true, lt-ltb, le-ltb, both_ways, and_parts, and_from, false_from_ne_true}
use Rattle.std.proofs.lemmas.Option.{none-some, same_Some}
use Rattle.std.proofs.lemmas.List.Elements.{All-head, All-tail, All-weaker, filter_passes}
use Rattle.prefixes.specs.Prefix.{covers, same_prefix}
use Rattle.prefixes.specs.Route.{link_of, suits, fits}
use Rattle.prefixes.specs.Best.{longer_of, best}
use Rattle.prefixes.proofs.Bests.{best_keeps}
use Rattle.prefixes.proofs.Sames.{same_prefix-true, same_prefix-refl}
use Rattle.prefixes.specs.declared.addr.Addr.{Addr}
use Rattle.prefixes.specs.declared.prefix.Prefix.{Prefix}
use Rattle.prefixes.specs.declared.route.Route.{Route}
use Rattle.fib_search.specs.Node.{first_of, or_else}

-- the routes whose prefix has fewer bits
abbrev pub shorter : ℕ → List Route → List Route
shorter n routes = filter (λ r. nat_lt r.prefix.len n) routes

longer_first : (r : Route) (o : Option Route) → ((s : Route) → o ≡ Some s → s.prefix.len ≤ r.prefix.len) → longer_of (Some r) o ≡ Some r
longer_first r None least = refl
longer_first r (Some s) least = rw (le-ltb r.prefix.len s.prefix.len (least s refl)) refl

module _ (addr : Addr) (bound : Option ℕ) where
  skipped : (b : Bool) (r : Route) (rs : List Route) → fits r addr bound ≡ false → best (cond b (r ∷ rs) rs) addr bound ≡ best rs addr bound
  skipped true r rs unfit = rw unfit refl
  skipped false r rs unfit = refl

  both_alike : (b : Bool) (r : Route) (xs ys : List Route) → best xs addr bound ≡ best ys addr bound → best (cond b (r ∷ xs) xs) addr bound ≡ best (cond b (r ∷ ys) ys) addr bound
  both_alike true r xs ys same = ap (longer_of (if fits r addr bound then Some r else None)) same
  both_alike false r xs ys same = same

  -- two tests that agree on what fits leave the same best route
  pub best-alike : (p q : Route → Bool) (xs : List Route) → All (λ r. IsTrue (fits r addr bound) → p r ≡ q r) xs → best (filter p xs) addr bound ≡ best (filter q xs) addr bound
  best-alike p q [] agree = refl
  best-alike p q (x ∷ xs) agree =
      let later = best-alike p q xs (All-tail (λ r. IsTrue (fits r addr bound) → p r ≡ q r) x xs agree) in
      elim (cases_Bool (fits x addr bound)) as (λ _. best (cond (p x) (x ∷ filter p xs) (filter p xs)) addr bound ≡ best (cond (q x) (x ∷ filter q xs) (filter q xs)) addr bound) [
        | inl fit ↦
            ap (λ b. best (cond b (x ∷ filter p xs) (filter p xs)) addr bound) (All-head (λ r. IsTrue (fits r addr bound) → p r ≡ q r) x xs agree fit)
            ∙ both_alike (q x) x (filter p xs) (filter q xs) later
        | inr unfit ↦ skipped (p x) x (filter p xs) unfit ∙ later ∙ sym (skipped (q x) x (filter q xs) unfit)
      ]

  pub filter-all : (xs : List Route) → filter (λ _. true) xs ≡ xs
  filter-all [] = refl
  filter-all (x ∷ xs) = ap (λ rs. x ∷ rs) (filter-all xs)

  module _ (p : Prefix) (covered : IsTrue (covers p addr)) where
    abbrev of_node : List Route → List Route
    of_node xs = filter (λ r. same_prefix r.prefix p) xs

    first_of-node : (xs : List Route) (s : Route) → first_of (of_node xs) bound ≡ Some s → s.prefix ≡ p
    first_of-node [] s is = absurd (none-some s is)
    first_of-node (x ∷ xs) s is = elim (cases_Bool (same_prefix x.prefix p)) as (λ _. s.prefix ≡ p) [
      | inl same ↦
          let kept : (if suits (link_of x.out) bound then Some x else first_of (of_node xs) bound) ≡ Some s = rw same at is in
          elim (cases_Bool (suits (link_of x.out) bound)) as (λ _. s.prefix ≡ p) [
            | inl suit ↦ subst (λ (r : Route). r.prefix ≡ p) (same_Some x s (rw suit at kept)) (same_prefix-true x.prefix p same)
            | inr unsuit ↦ first_of-node xs s (rw unsuit at kept)
          ]
      | inr other ↦ first_of-node xs s (rw other at is)
    ]

    -- a route that doesn't fit
    passed : (b : Bool) (x : Route) (rs : List Route) → fits x addr bound ≡ false → same_prefix x.prefix p ≡ b → first_of (cond b (x ∷ rs) rs) bound ≡ first_of rs bound
    passed true x rs unfit same =
        let unsuit : suits (link_of x.out) bound ≡ false =
        false_from_ne_true _ (λ suit. both_ways (fits x addr bound) unfit (and_from (covers x.prefix addr) _ (subst (λ q. covers q addr ≡ true) (sym (same_prefix-true x.prefix p same)) covered) suit)) in
        rw unsuit refl
    passed false x rs unfit same = refl

    or_else-longer : (x : Route) (first other : Option Route) → ((s : Route) → first ≡ Some s → x.prefix.len < s.prefix.len) → longer_of (Some x) (or_else first other) ≡ or_else first (longer_of (Some x) other)
    or_else-longer x None other less = refl
    or_else-longer x (Some s) other less = rw (lt-ltb x.prefix.len s.prefix.len (less s refl)) refl

    abbrev pub Apart : Route → Type 0
    Apart r = (r.prefix.len < p.len) ⊎ ((p ≡ r.prefix) ⊎ (p.len < r.prefix.len))

    -- one node more on the way: its first fitting route is better than what was met before
    pub best-node : (xs : List Route) → All (λ r. IsTrue (fits r addr bound) → Apart r) xs
        → best (shorter (p.len + 1) xs) addr bound ≡ or_else (first_of (of_node xs) bound) (best (shorter p.len xs) addr bound)
    best-node [] apart = refl
    best-node (x ∷ xs) apart =
        let later = best-node xs (All-tail (λ r. IsTrue (fits r addr bound) → Apart r) x xs apart) in
        let Goal : Bool → Bool → Bool → Type 0 = λ more same less. best (cond more (x ∷ shorter (p.len + 1) xs) (shorter (p.len + 1) xs)) addr bound
        ≡ or_else (first_of (cond same (x ∷ of_node xs) (of_node xs)) bound) (best (cond less (x ∷ shorter p.len xs) (shorter p.len xs)) addr bound) in
        elim (cases_Bool (fits x addr bound)) as (λ _. Goal (nat_lt x.prefix.len (p.len + 1)) (same_prefix x.prefix p) (nat_lt x.prefix.len p.len)) [
          | inl fit ↦ elim (All-head (λ r. IsTrue (fits r addr bound) → Apart r) x xs apart fit) as (λ _. Goal (nat_lt x.prefix.len (p.len + 1)) (same_prefix x.prefix p) (nat_lt x.prefix.len p.len)) [
            | inl less ↦
                rw (lt-ltb x.prefix.len (p.len + 1) (omega arith), unlike x (omega arith), lt-ltb x.prefix.len p.len less, fit)
                (ap (longer_of (Some x)) later ∙ or_else-longer x (first_of (of_node xs) bound) (best (shorter p.len xs) addr bound) (λ s is. let e = ap (λ (q : Prefix). q.len) (first_of-node xs s is) in omega (arith, e, less)))
            | inr rest ↦ elim rest as (λ _. Goal (nat_lt x.prefix.len (p.len + 1)) (same_prefix x.prefix p) (nat_lt x.prefix.len p.len)) [
              | inl same ↦
                  let e = ap (λ (q : Prefix). q.len) same in
                  rw (lt-ltb x.prefix.len (p.len + 1) (omega (arith, e)), subst (λ q. same_prefix q p ≡ true) same (same_prefix-refl p), le-ltb x.prefix.len p.len (omega (arith, e)), fit, (and_parts (covers x.prefix addr) _ fit).1)
                  (longer_first x (best (shorter (p.len + 1) xs) addr bound)
                  (best_keeps addr bound (λ r. r.prefix.len ≤ x.prefix.len) (shorter (p.len + 1) xs)
                  (All-weaker (λ r. nat_lt r.prefix.len (p.len + 1) ≡ true) (λ r. IsTrue (fits r addr bound) → r.prefix.len ≤ x.prefix.len)
                  (λ r less _. let below = ltb-true r.prefix.len (p.len + 1) less in omega (arith, below, e)) (shorter (p.len + 1) xs) (filter_passes (λ r. nat_lt r.prefix.len (p.len + 1)) xs))))
              | inr longer ↦ rw (le-ltb x.prefix.len (p.len + 1) (omega arith), unlike x (omega arith), le-ltb x.prefix.len p.len (omega arith)) later
            ]
          ]
          | inr unfit ↦
              skipped (nat_lt x.prefix.len (p.len + 1)) x (shorter (p.len + 1) xs) unfit ∙ later
              ∙ ap (λ o. or_else o (best (shorter p.len xs) addr bound)) (sym (passed (same_prefix x.prefix p) x (of_node xs) unfit refl))
              ∙ ap (or_else (first_of (cond (same_prefix x.prefix p) (x ∷ of_node xs) (of_node xs)) bound)) (sym (skipped (nat_lt x.prefix.len p.len) x (shorter p.len xs) unfit))
        ]
      where
        unlike : (r : Route) → (r.prefix.len ≡ p.len → ⊥) → same_prefix r.prefix p ≡ false
        unlike r differ = false_from_ne_true _ (λ same. differ (ap (λ (q : Prefix). q.len) (same_prefix-true r.prefix p same)))
