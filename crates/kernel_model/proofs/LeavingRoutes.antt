-- The law of routes: while the routes of a link leave a table, the shortest prefix first, what the table answers goes over at most once, from
-- the answer of all of its routes to the answer of those that are left.
use Rattle.std.proofs.Common.{◌≡◌, ℕ, zero, suc, ◌+◌, ◌*◌, ◌/◌, ◌%◌, ◌^◌, ◌-◌, ◌≤◌, ◌<◌, ◌≢◌, ◌++◌, ◌==◌, nat_le, Bool, true, false, not, cond, get_or, List, [], ◌∷◌, length, take, filter, Option, Some, None, refl, sym, ◌∙◌, ap, subst, arith, inl, inr}
use Rattle.std.specs.Bool.{IsTrue, if◌then◌else◌}
use Rattle.std.specs.List.{All, AllByRecursion, list_all}
use Rattle.std.specs.Option.{option_and_then}
use Rattle.std.proofs.Math.Nat.{div-add-mod'}
use Rattle.std.proofs.lemmas.Bool.{cases_Bool, cases_lt, and_parts, false≢true, false_from_ne_true, not-true, not-false, leb-true, eqb-true}
use Rattle.std.proofs.lemmas.List.Elements.{All-head, All-tail, All-filter, filter-append}
use Rattle.list_lemmas.specs.Pairwise.{pairwise}
use Rattle.list_lemmas.proofs.Alls.{all-take}
use Rattle.prefixes.specs.Addr.{family_of, first_bits, host_bits, same_family}
use Rattle.prefixes.specs.Best.{IsBest, longer_of, best, answer}
use Rattle.prefixes.specs.Prefix.{covers}
use Rattle.prefixes.specs.Route.{fits, link_of, same_key, same_route, suits, answer_of}
use Rattle.prefixes.specs.declared.addr.Addr.{Addr}
use Rattle.prefixes.specs.declared.addr.Addr.TheVariants as addr
use Rattle.prefixes.specs.declared.prefix.Prefix.{Prefix}
use Rattle.prefixes.specs.declared.route.Answer.{Answer}
use Rattle.prefixes.specs.declared.route.Route.{Route}
use Rattle.prefixes.proofs.Bests.{best-IsBest, IsBest-best, best_none}
use Rattle.prefixes.proofs.Sames.{prefix_is, same_family-true, same_key-from, same_route-true}
use Rattle.fib_table.specs.Table.{without_route}
use Rattle.rule_law.specs.Plans.{GoesOver}
use Rattle.kernel_model.specs.Leaving.{may_precede, LeaveInOrder, taken_out}

-- Two prefixes of one length that cover one address are the same prefix.

same-value : (x y d : ℕ) → x / d ≡ y / d → x % d ≡ 0 → y % d ≡ 0 → x ≡ y
same-value x y d quotient none none' = sym (div-add-mod' x d) ∙ ap (λ q. q * d + x % d) quotient ∙ ap (λ r. y / d * d + r) (none ∙ sym none') ∙ div-add-mod' y d

same-base : (a b : Addr) (len : ℕ) → family_of a ≡ family_of b → first_bits a len ≡ first_bits b len → host_bits a len ≡ 0 → host_bits b len ≡ 0 → a ≡ b
same-base (addr.V4 x) (addr.V4 y) len family bits none none' = ap addr.V4 (same-value x y (2 ^ (32 - len)) bits none none')
same-base (addr.V6 x) (addr.V6 y) len family bits none none' = ap addr.V6 (same-value x y (2 ^ (128 - len)) bits none none')
same-base (addr.V4 x) (addr.V6 y) len family bits none none' = absurd cc
same-base (addr.V6 x) (addr.V4 y) len family bits none none' = absurd cc

pub same-prefix : (p q : Prefix) (dest : Addr) → covers p dest ≡ true → covers q dest ≡ true → p.len ≡ q.len → p ≡ q
same-prefix p q dest first second len =
    let one = and_parts (same_family (family_of p.base) (family_of dest)) (first_bits dest p.len == first_bits p.base p.len) first in
    let other = and_parts (same_family (family_of q.base) (family_of dest)) (first_bits dest q.len == first_bits q.base q.len) second in
    prefix_is p q
    (same-base p.base q.base p.len (same_family-true _ _ one.0 ∙ sym (same_family-true _ _ other.0))
    (sym (eqb-true _ _ one.1) ∙ (ap (first_bits dest) len ∙ (eqb-true _ _ other.1 ∙ ap (first_bits q.base) (sym len))))
    p.is_prefix.1 (ap (host_bits q.base) len ∙ q.is_prefix.1)) len

module _ (dest : Addr) (bound : Option ℕ) where
  abbrev Fits : Route → Type 0
  Fits r = fits r dest bound ≡ true

  -- A list without some that don't fit has the same best route, and a list without some others than the best.

  best-unfit : (keeps : Route → Bool) (xs : List Route) → All (λ x. keeps x ≡ false → fits x dest bound ≡ false) xs → best (filter keeps xs) dest bound ≡ best xs dest bound
  best-unfit keeps [] h = refl
  best-unfit keeps (x ∷ xs) h =
      let rest = best-unfit keeps xs (All-tail (λ x. keeps x ≡ false → fits x dest bound ≡ false) x xs h) in
      elim (cases_Bool (keeps x)) [
        | inl stays ↦ rw stays (ap (longer_of (if fits x dest bound then Some x else None)) rest)
        | inr goes ↦ rw (goes, All-head (λ x. keeps x ≡ false → fits x dest bound ≡ false) x xs h goes) rest
      ]

  best-kept : (keeps : Route → Bool) (xs : List Route) (r : Route) → best xs dest bound ≡ Some r → keeps r ≡ true → best (filter keeps xs) dest bound ≡ Some r
  best-kept keeps xs r is stays =
      let it : IsBest xs dest bound r = best-IsBest dest bound xs r is in
      IsBest-best dest bound (filter keeps xs) r (record {
        before = filter keeps it.before;
        behind = filter keeps it.behind;
        stands = ap (filter keeps) it.stands ∙ (filter-append keeps it.before (r ∷ it.behind)
            ∙ ap (λ (b : Bool). filter keeps it.before ++ cond b (r ∷ filter keeps it.behind) (filter keeps it.behind)) stays);
        fitting = it.fitting;
        none_longer = All-filter keeps (λ other. IsTrue (fits other dest bound) → other.prefix.len ≤ r.prefix.len) xs it.none_longer;
        first = All-filter keeps (λ other. IsTrue (fits other dest bound) → other.prefix.len ≢ r.prefix.len) it.before it.first;
      })

  -- The best route has gone. What goes after it and fits is longer, so it isn't in the table, and the best route is the same from now on.

  module _ (len : ℕ) where
    abbrev NotLonger : Route → Type 0
    NotLonger other = IsTrue (fits other dest bound) → other.prefix.len ≤ len

    abbrev Longer : Route → Type 0
    Longer other = Fits other → len < other.prefix.len

    one-goes : (xs : List Route) (r : Route) → All NotLonger xs → Longer r → best (without_route xs r) dest bound ≡ best xs dest bound
    one-goes xs r least longer = best-unfit (λ x. not (same_route x r)) xs (λ place d within same.
        let x : Route = get_or xs place d in
        let is : x ≡ r = same_route-true x r (not-false (same_route x r) same) in
        false_from_ne_true (fits x dest bound) (λ fit.
        let below : x.prefix.len ≤ len = least place d within fit in
        let above : len < r.prefix.len = longer (ap (λ y. fits y dest bound) (sym is) ∙ fit) in
        omega (arith, below, above, ap (λ (y : Route). y.prefix.len) is)))

    past : (gone xs : List Route) → All NotLonger xs → AllByRecursion Longer gone → best (taken_out xs gone) dest bound ≡ best xs dest bound
    past [] xs least longer = refl
    past (r ∷ gone) xs least longer =
        past gone (without_route xs r) (All-filter (λ x. not (same_route x r)) NotLonger xs least) longer.1 ∙ one-goes xs r least longer.0

  -- what may go after a route of its link, and fits where that one does, is longer
  longer-follows : (link : ℕ) (r x : Route) → Fits r → link_of r.out ≡ Some link → link_of x.out ≡ Some link → may_precede r x ≡ true → Fits x → r.prefix.len < x.prefix.len
  longer-follows link r x fit by_link by_link' precedes fit' =
      let parts = and_parts (nat_le r.prefix.len x.prefix.len) (not (same_key r x)) precedes in
      let least : r.prefix.len ≤ x.prefix.len = leb-true r.prefix.len x.prefix.len parts.0 in
      let other : same_key r x ≡ false = not-true (same_key r x) parts.1 in
      let covering = and_parts (covers r.prefix dest) (suits (link_of r.out) bound) fit in
      let covering' = and_parts (covers x.prefix dest) (suits (link_of x.out) bound) fit' in
      elim (cases_lt r.prefix.len x.prefix.len) [
        | inl less ↦ less
        | inr more ↦ absurd (false≢true (sym other ∙ same_key-from r x (same-prefix r.prefix x.prefix dest covering.0 covering'.0 (omega (arith, least, more))) (by_link ∙ sym by_link')))
      ]

  longer-after : (link : ℕ) (r : Route) (gone : List Route) → Fits r → link_of r.out ≡ Some link → AllByRecursion (λ x. link_of x.out ≡ Some link) gone → list_all (may_precede r) gone ≡ true → AllByRecursion (Longer r.prefix.len) gone
  longer-after link r [] fit by_link by_links precede = tt
  longer-after link r (x ∷ gone) fit by_link by_links precede =
      let parts = and_parts (may_precede r x) (list_all (may_precede r) gone) precede in
      (longer-follows link r x fit by_link by_links.0 parts.0, longer-after link r gone fit by_link by_links.1 parts.1)

  abbrev answers : List Route → Option Answer
  answers routes = answer routes dest bound

  abbrev AnswersGoOver : List Route → List Route → Type 0
  AnswersGoOver routes gone = GoesOver (length gone) (λ i. answers (taken_out routes (take i gone))) (answers routes) (answers (taken_out routes gone))

  -- the first route isn't the best one
  stays-best : (routes : List Route) (r : Route) (gone : List Route) → answers (without_route routes r) ≡ answers routes → AnswersGoOver (without_route routes r) gone → AnswersGoOver routes (r ∷ gone)
  stays-best routes r gone same h = record {
    switch = suc h.switch;
    before = first;
    behind = second;
  }
    where
      first : (i : ℕ) → i ≤ suc (length gone) → i < suc h.switch → answers (taken_out routes (take i (r ∷ gone))) ≡ answers routes
      first zero l m = refl
      first (suc i) l m = h.before i (omega (arith, l)) (omega (arith, m)) ∙ same

      second : (i : ℕ) → i ≤ suc (length gone) → suc h.switch ≤ i → answers (taken_out routes (take i (r ∷ gone))) ≡ answers (taken_out (without_route routes r) gone)
      second zero l m = absurd (omega (arith, m))
      second (suc i) l m = h.behind i (omega (arith, l)) (omega (arith, m))

  -- it is
  goes-best : (routes : List Route) (r : Route) (gone : List Route) → ((i : ℕ) → answers (taken_out (without_route routes r) (take i gone)) ≡ answers (taken_out (without_route routes r) gone)) → AnswersGoOver routes (r ∷ gone)
  goes-best routes r gone same = record {
    switch = 1;
    before = first;
    behind = second;
  }
    where
      first : (i : ℕ) → i ≤ suc (length gone) → i < 1 → answers (taken_out routes (take i (r ∷ gone))) ≡ answers routes
      first zero l m = refl
      first (suc i) l m = absurd (omega (arith, m))

      second : (i : ℕ) → i ≤ suc (length gone) → 1 ≤ i → answers (taken_out routes (take i (r ∷ gone))) ≡ answers (taken_out (without_route routes r) gone)
      second zero l m = absurd (omega (arith, m))
      second (suc i) l m = same i

  none-goes : (routes : List Route) → AnswersGoOver routes []
  none-goes routes = record { switch = 0; before = λ i l m. absurd (omega (arith, m)); behind = each }
    where
      each : (i : ℕ) → i ≤ 0 → 0 ≤ i → answers (taken_out routes (take i [])) ≡ answers routes
      each zero l m = refl
      each (suc i) l m = refl

  abbrev answer_by : Option Route → Option Answer
  answer_by o = option_and_then (λ (r : Route). answer_of r.out) o

  pub routes_leave : (link : ℕ) (gone : List Route) → LeaveInOrder link gone → (routes : List Route) → AnswersGoOver routes gone
  routes_leave link [] order routes = none-goes routes
  routes_leave link (r ∷ gone) order routes =
      by (best routes dest bound) refl
      (routes_leave link gone (record { by_link = order.by_link.1; in_order = parts.1 }) (without_route routes r))
    where
      parts : (list_all (may_precede r) gone ≡ true) × (pairwise may_precede gone ≡ true)
      parts = and_parts (list_all (may_precede r) gone) (pairwise may_precede gone) order.in_order

      by : (o : Option Route) → best routes dest bound ≡ o → AnswersGoOver (without_route routes r) gone → AnswersGoOver routes (r ∷ gone)
      by None none rest =
          stays-best routes r gone (ap answer_by (none-stays none ∙ sym none)) rest
        where
          none-stays : best routes dest bound ≡ None → best (without_route routes r) dest bound ≡ None
          none-stays none = best-unfit (λ x. not (same_route x r)) routes (λ place d within _. best_none dest bound routes none place d within) ∙ none
      by (Some b) is rest = elim (cases_Bool (same_route b r)) [
        | inr other ↦ stays-best routes r gone (ap answer_by (best-kept (λ x. not (same_route x r)) routes b is (ap not other) ∙ sym is)) rest
        | inl same ↦
            let it : IsBest routes dest bound b = best-IsBest dest bound routes b is in
            let here : b ≡ r = same_route-true b r same in
            let fit : Fits r = ap (λ x. fits x dest bound) (sym here) ∙ it.fitting in
            let longer : AllByRecursion (Longer r.prefix.len) gone = longer-after link r gone fit order.by_link.0 order.by_link.1 parts.0 in
            let least : All (NotLonger r.prefix.len) (without_route routes r) =
            All-filter (λ x. not (same_route x r)) (NotLonger r.prefix.len) routes (subst (λ (x : Route). All (NotLonger x.prefix.len) routes) here it.none_longer) in
            let after : (some : List Route) → AllByRecursion (Longer r.prefix.len) some → answers (taken_out (without_route routes r) some) ≡ answers (without_route routes r) = λ some each.
            ap answer_by (past r.prefix.len some (without_route routes r) least each) in
            goes-best routes r gone (λ i. after (take i gone) (all-take (Longer r.prefix.len) i gone longer) ∙ sym (after gone longer))
      ]
