-- The best route as a function and as a relation.
use Rattle.std.proofs.Common.{◌≡◌, ◌≢◌, ℕ, ◌+◌, ◌≤◌, ◌<◌, nat_lt, true, false, List, [], ◌∷◌, ◌++◌, length, get_or, take, Option, Some, None, refl, sym, ◌∙◌, ap, subst, arith, inl, inr}
use Rattle.std.specs.Bool.{IsTrue, IsFalse, if◌then◌else◌}
use Rattle.std.specs.List.{All}
use Rattle.std.proofs.lemmas.Bool.{cases_Bool, ltb-true, ltb-false, lt-ltb, le-ltb, both_ways}
use Rattle.std.proofs.lemmas.Option.{none-some, same_Some, cond_some}
use Rattle.std.proofs.lemmas.List.{take_more}
use Rattle.std.proofs.lemmas.List.Elements.{All-nil, All-cons, All-head, All-tail, All-weaker}
use Rattle.prefixes.specs.Route.{fits}
use Rattle.prefixes.specs.Best.{IsBest, longer_of, best}
use Rattle.prefixes.specs.declared.addr.Addr.{Addr}
use Rattle.prefixes.specs.declared.route.Route.{Route}

-- no route after
pub longer_of-none : (o : Option Route) → longer_of o None ≡ o
longer_of-none None = refl
longer_of-none (Some r) = refl

longer_of-assoc : (a b c : Option Route) → longer_of (longer_of a b) c ≡ longer_of a (longer_of b c)
longer_of-assoc None b c = refl
longer_of-assoc (Some r) None c = refl
longer_of-assoc (Some r) (Some s) None = longer_of-none (longer_of (Some r) (Some s))
longer_of-assoc (Some r) (Some s) (Some t) =
    let Goal : Type 0 = longer_of (longer_of (Some r) (Some s)) (Some t) ≡ longer_of (Some r) (longer_of (Some s) (Some t)) in
    elim (cases_Bool (nat_lt r.prefix.len s.prefix.len)) as (λ _. Goal) [
      | inl rs ↦ elim (cases_Bool (nat_lt s.prefix.len t.prefix.len)) as (λ _. Goal) [
        | inl st ↦
            let rt : nat_lt r.prefix.len t.prefix.len ≡ true = lt-ltb _ _ (omega (arith, ltb-true r.prefix.len s.prefix.len rs, ltb-true s.prefix.len t.prefix.len st)) in
            rw (rs, st, rt) refl
        | inr st ↦ rw (rs, st, rs) refl
      ]
      | inr rs ↦ elim (cases_Bool (nat_lt s.prefix.len t.prefix.len)) as (λ _. Goal) [
        | inl st ↦ rw (rs, st) refl
        | inr st ↦
            let rt : nat_lt r.prefix.len t.prefix.len ≡ false = le-ltb _ _ (omega (arith, ltb-false r.prefix.len s.prefix.len rs, ltb-false s.prefix.len t.prefix.len st)) in
            rw (rs, st, rt, rs) refl
      ]
    ]

-- the best of two lists, one after the other
pub best-append : (xs ys : List Route) (dest : Addr) (bound : Option ℕ) → best (xs ++ ys) dest bound ≡ longer_of (best xs dest bound) (best ys dest bound)
best-append [] ys dest bound = refl
best-append (x ∷ xs) ys dest bound =
    let first = if fits x dest bound then Some x else None in
    ap (longer_of first) (best-append xs ys dest bound) ∙ sym (longer_of-assoc first (best xs dest bound) (best ys dest bound))

-- the best of one route
pub best-one : (r : Route) (dest : Addr) (bound : Option ℕ) → best (r ∷ []) dest bound ≡ (if fits r dest bound then Some r else None)
best-one r dest bound = longer_of-none (if fits r dest bound then Some r else None)

-- the best of one route more
pub best-more : (routes : List Route) (i : ℕ) (r : Route) (dest : Addr) (bound : Option ℕ) → i < length routes → r ≡ get_or routes i r
    → best (take (i + 1) routes) dest bound ≡ longer_of (best (take i routes) dest bound) (if fits r dest bound then Some r else None)
best-more routes i r dest bound within is =
    ap (λ rs. best rs dest bound) (take_more routes i r within ∙ ap (λ x. take i routes ++ x ∷ []) (sym is)) ∙ best-append (take i routes) (r ∷ []) dest bound
    ∙ ap (longer_of (best (take i routes) dest bound)) (best-one r dest bound)

longer_keeps : (P : Route → Type 0) (a b : Option Route) → ((s : Route) → a ≡ Some s → P s) → ((s : Route) → b ≡ Some s → P s) → (s : Route) → longer_of a b ≡ Some s → P s
longer_keeps P None b former latter s is = latter s is
longer_keeps P (Some r) None former latter s is = former s is
longer_keeps P (Some r) (Some t) former latter s is = elim (cases_Bool (nat_lt r.prefix.len t.prefix.len)) as (λ _. P s) [
  | inl less ↦ latter s (rw less at is)
  | inr more ↦ former s (rw more at is)
]

longer_none : (a b : Option Route) → longer_of a b ≡ None → (a ≡ None) × (b ≡ None)
longer_none None b none = (refl, none)
longer_none (Some r) None none = cc
longer_none (Some r) (Some t) none = elim (cases_Bool (nat_lt r.prefix.len t.prefix.len)) as (λ _. (Some r ≡ None) × (Some t ≡ None)) [
  | inl less ↦ absurd (none-some t (sym (rw less at none)))
  | inr more ↦ absurd (none-some r (sym (rw more at none)))
]

longer_first : (r : Route) (o : Option Route) → ((s : Route) → o ≡ Some s → s.prefix.len ≤ r.prefix.len) → longer_of (Some r) o ≡ Some r
longer_first r None least = refl
longer_first r (Some s) least = rw (le-ltb r.prefix.len s.prefix.len (least s refl)) refl

longer_last : (o : Option Route) (r : Route) → ((s : Route) → o ≡ Some s → s.prefix.len < r.prefix.len) → longer_of o (Some r) ≡ Some r
longer_last None r less = refl
longer_last (Some s) r less = rw (lt-ltb s.prefix.len r.prefix.len (less s refl)) refl

All-front : (P : Route → Type 0) (xs ys : List Route) → All P (xs ++ ys) → All P xs
All-front P [] ys each = All-nil P
All-front P (x ∷ xs) ys each = All-cons P x xs (All-head P x (xs ++ ys) each) (All-front P xs ys (All-tail P x (xs ++ ys) each))

All-back : (P : Route → Type 0) (xs ys : List Route) → All P (xs ++ ys) → All P ys
All-back P [] ys each = each
All-back P (x ∷ xs) ys each = All-back P xs ys (All-tail P x (xs ++ ys) each)

All-both : (P Q : Route → Type 0) (xs : List Route) → All P xs → All Q xs → All (λ r. P r × Q r) xs
All-both P Q xs p q = λ k d h. (p k d h, q k d h)

module _ (dest : Addr) (bound : Option ℕ) where
  -- what holds of each route that fits holds of the best
  pub best_keeps : (P : Route → Type 0) (xs : List Route) → All (λ r. IsTrue (fits r dest bound) → P r) xs → (s : Route) → best xs dest bound ≡ Some s → P s
  best_keeps P [] each s is = absurd (none-some s is)
  best_keeps P (x ∷ xs) each s is =
      longer_keeps P (if fits x dest bound then Some x else None) (best xs dest bound)
      (λ t e. let both = cond_some (fits x dest bound) x t e in subst P both.1 (All-head (λ r. IsTrue (fits r dest bound) → P r) x xs each both.0))
      (best_keeps P xs (All-tail (λ r. IsTrue (fits r dest bound) → P r) x xs each)) s is

  pub best_none : (xs : List Route) → best xs dest bound ≡ None → All (λ r. IsFalse (fits r dest bound)) xs
  best_none [] none = All-nil _
  best_none (x ∷ xs) none =
      let parts = longer_none (if fits x dest bound then Some x else None) (best xs dest bound) none in
      All-cons (λ r. IsFalse (fits r dest bound)) x xs
      (elim (cases_Bool (fits x dest bound)) as (λ _. IsFalse (fits x dest bound)) [
        | inl fit ↦ absurd (none-some x (sym (rw fit at parts.0)))
        | inr unfit ↦ unfit
      ])
      (best_none xs parts.1)

  pub none_best : (xs : List Route) → All (λ r. IsFalse (fits r dest bound)) xs → best xs dest bound ≡ None
  none_best [] each = refl
  none_best (x ∷ xs) each = rw (All-head (λ r. IsFalse (fits r dest bound)) x xs each) (none_best xs (All-tail (λ r. IsFalse (fits r dest bound)) x xs each))

  -- the relation gives what the function finds
  pub IsBest-best : (routes : List Route) (r : Route) → IsBest routes dest bound r → best routes dest bound ≡ Some r
  IsBest-best routes r is =
      let NotLonger : Route → Type 0 = λ other. IsTrue (fits other dest bound) → other.prefix.len ≤ r.prefix.len in
      let Other : Route → Type 0 = λ other. IsTrue (fits other dest bound) → other.prefix.len ≢ r.prefix.len in
      let longest : All NotLonger (is.before ++ r ∷ is.behind) = subst (All NotLonger) is.stands is.none_longer in
      let behind : All NotLonger is.behind = All-tail NotLonger r is.behind (All-back NotLonger is.before (r ∷ is.behind) longest) in
      let both = All-both NotLonger Other is.before (All-front NotLonger is.before (r ∷ is.behind) longest) is.first in
      let before : All (λ other. IsTrue (fits other dest bound) → other.prefix.len < r.prefix.len) is.before =
      All-weaker (λ other. NotLonger other × Other other) (λ other. IsTrue (fits other dest bound) → other.prefix.len < r.prefix.len)
      (λ other two fit. let le : other.prefix.len ≤ r.prefix.len = two.0 fit in let ne : other.prefix.len ≢ r.prefix.len = two.1 fit in omega arith) is.before both in
      let from_here : best (r ∷ is.behind) dest bound ≡ Some r =
      rw is.fitting (longer_first r (best is.behind dest bound) (best_keeps (λ other. other.prefix.len ≤ r.prefix.len) is.behind behind)) in
      ap (λ rs. best rs dest bound) is.stands ∙ best-append is.before (r ∷ is.behind) dest bound ∙ ap (longer_of (best is.before dest bound)) from_here
      ∙ longer_last (best is.before dest bound) r (best_keeps (λ other. other.prefix.len < r.prefix.len) is.before before)

  none_fits : (xs : List Route) (P : Route → Type 0) → All (λ r. IsFalse (fits r dest bound)) xs → All (λ r. IsTrue (fits r dest bound) → P r) xs
  none_fits xs P each = All-weaker (λ r. IsFalse (fits r dest bound)) (λ r. IsTrue (fits r dest bound) → P r) (λ r unfit fit. absurd (both_ways (fits r dest bound) unfit fit)) xs each

  -- one more route in front, which is the best
  front : (x : Route) (xs : List Route) → IsTrue (fits x dest bound) → All (λ other. IsTrue (fits other dest bound) → other.prefix.len ≤ x.prefix.len) xs → IsBest (x ∷ xs) dest bound x
  front x xs fit least = record {
    before = [];
    behind = xs;
    stands = refl;
    fitting = fit;
    none_longer = All-cons (λ other. IsTrue (fits other dest bound) → other.prefix.len ≤ x.prefix.len) x xs (λ _. omega arith) least;
    first = All-nil (λ other. IsTrue (fits other dest bound) → other.prefix.len ≢ x.prefix.len);
  }

  -- one more route in front, which isn't
  behind_one : (x : Route) (xs : List Route) (s : Route) → (IsTrue (fits x dest bound) → x.prefix.len < s.prefix.len) → IsBest xs dest bound s → IsBest (x ∷ xs) dest bound s
  behind_one x xs s less is = record {
    before = x ∷ is.before;
    behind = is.behind;
    stands = ap (λ l. x ∷ l) is.stands;
    fitting = is.fitting;
    none_longer = All-cons (λ other. IsTrue (fits other dest bound) → other.prefix.len ≤ s.prefix.len) x xs (λ fit. let lt = less fit in omega (arith, lt)) is.none_longer;
    first = All-cons (λ other. IsTrue (fits other dest bound) → other.prefix.len ≢ s.prefix.len) x is.before (λ fit same. let lt = less fit in omega (arith, lt, same)) is.first;
  }

  step : (x : Route) (xs : List Route) (r : Route) (o : Option Route) → best xs dest bound ≡ o → ((s : Route) → best xs dest bound ≡ Some s → IsBest xs dest bound s)
      → longer_of (if fits x dest bound then Some x else None) o ≡ Some r → IsBest (x ∷ xs) dest bound r
  step x xs r o rest later is = elim (cases_Bool (fits x dest bound)) as (λ _. IsBest (x ∷ xs) dest bound r) [
    | inl fit ↦ among o rest (rw fit at is) fit
    | inr unfit ↦ behind_one x xs r (λ fit. absurd (both_ways (fits x dest bound) unfit fit)) (later r (rest ∙ rw unfit at is))
  ]
    where
      among : (o : Option Route) → best xs dest bound ≡ o → longer_of (Some x) o ≡ Some r → IsTrue (fits x dest bound) → IsBest (x ∷ xs) dest bound r
      among None rest is fit =
          subst (IsBest (x ∷ xs) dest bound) (same_Some x r is) (front x xs fit (none_fits xs (λ other. other.prefix.len ≤ x.prefix.len) (best_none xs rest)))
      among (Some s) rest is fit = elim (cases_Bool (nat_lt x.prefix.len s.prefix.len)) as (λ _. IsBest (x ∷ xs) dest bound r) [
        | inl less ↦ subst (IsBest (x ∷ xs) dest bound) (same_Some s r (rw less at is)) (behind_one x xs s (λ _. ltb-true x.prefix.len s.prefix.len less) (later s rest))
        | inr more ↦
            let least = ltb-false x.prefix.len s.prefix.len more in
            subst (IsBest (x ∷ xs) dest bound) (same_Some x r (rw more at is))
            (front x xs fit
            (All-weaker (λ other. IsTrue (fits other dest bound) → other.prefix.len ≤ s.prefix.len) (λ other. IsTrue (fits other dest bound) → other.prefix.len ≤ x.prefix.len)
            (λ other le fit. let below = le fit in omega (arith, below, least)) xs (later s rest).none_longer))
      ]

  -- the function finds what the relation says
  pub best-IsBest : (routes : List Route) (r : Route) → best routes dest bound ≡ Some r → IsBest routes dest bound r
  best-IsBest [] r is = absurd (none-some r is)
  best-IsBest (x ∷ xs) r is = step x xs r (best xs dest bound) refl (best-IsBest xs) is

  -- there is at most one
  pub IsBest-one : (routes : List Route) (r s : Route) → IsBest routes dest bound r → IsBest routes dest bound s → r ≡ s
  IsBest-one routes r s first second = same_Some r s (sym (IsBest-best routes r first) ∙ IsBest-best routes s second)
