-- What stays absent or present when another request is carried out.
use Rattle.std.proofs.Common.{◌≡◌, ℕ, Bool, true, false, not, cond, ◌==◌, inl, inr, List, [], ◌∷◌, ◌++◌, refl, sym, ◌∙◌, ap}
use Rattle.std.specs.Bool.{if◌then◌else◌}
use Rattle.std.specs.Prelude.{◌⊎◌}
use Rattle.std.proofs.lemmas.Bool.{cases_Bool, both_ways, eqb-true, eq-eqb, or_left, or_right}
use Rattle.std.proofs.lemmas.List.Folds.{list_any-append}
use Rattle.prefixes.specs.Route.{same_route}
use Rattle.prefixes.specs.declared.addr.Family.TheVariants as family
use Rattle.prefixes.specs.declared.route.Route.{Route}
use Rattle.prefixes.proofs.Sames.{same_route-true, same_route-refl}
use Rattle.fib_table.specs.Table.{has_route, without_route}
use Rattle.rule_law.specs.Rules.{has, placed, without}
use Rattle.rule_law.proofs.Membership.{has_placed}
use Rattle.rule_match.specs.Rule.{same_rule}
use Rattle.rule_match.specs.declared.rule.Rule.{Rule}
use Rattle.rule_match.proofs.Sames.{same_rule-true, same_rule-refl}
use Rattle.rule_kinds.specs.Kind.{rule_kind}
use Rattle.kernel_model.specs.Same.{same_request}
use Rattle.kernel_model.specs.State.{KernelState, NumberedTable, routes_of, put_route, cut_route, add, delete, is_absent, is_present, is_route}
use Rattle.kernel_model.specs.declared.request.Request.{Request}
use Rattle.kernel_model.specs.declared.request.Request.TheVariants as req

same_rule-sym : (a b : Rule) → same_rule a b ≡ false → same_rule b a ≡ false
same_rule-sym a b h = elim (cases_Bool (same_rule b a)) as (λ _. same_rule b a ≡ false) [
  | inl same ↦ absurd (both_ways (same_rule a b) h (ap (same_rule a) (same_rule-true b a same) ∙ same_rule-refl a))
  | inr other ↦ other
]

-- another rule stays
pub has-without_other : (r x : Rule) (xs : List Rule) → same_rule r x ≡ false → has rule_kind xs x ≡ true → has rule_kind (without rule_kind r xs) x ≡ true
has-without_other r x [] apart h = h
has-without_other r x (y ∷ ys) apart h = step (has-without_other r x ys apart) (cases_Bool (same_rule r y)) (cases_Bool (same_rule x y))
  where
    step : (has rule_kind ys x ≡ true → has rule_kind (without rule_kind r ys) x ≡ true) → (same_rule r y ≡ true) ⊎ (same_rule r y ≡ false) → (same_rule x y ≡ true) ⊎ (same_rule x y ≡ false) → has rule_kind (cond (same_rule r y) ys (y ∷ without rule_kind r ys)) x ≡ true
    step rest (inl goes) (inl is) = absurd (both_ways (same_rule r x) apart (ap (same_rule r) (same_rule-true x y is) ∙ goes))
    step rest (inl goes) (inr other) = rw goes (rw other at h)
    step rest (inr stays) (inl is) = rw (stays, is) refl
    step rest (inr stays) (inr other) = rw (stays, other) (rest (rw other at h))

apart_from : (t m n : ℕ) → (t == m) ≡ false → (t == n) ≡ true → (m == n) ≡ false
apart_from t m n miss at = elim (cases_Bool (m == n)) as (λ _. (m == n) ≡ false) [
  | inl also ↦ absurd (both_ways (t == m) miss (eq-eqb t m (eqb-true t n at ∙ sym (eqb-true m n also))))
  | inr other ↦ other
]

pub routes-put : (m n : ℕ) (a : Route) (ts : List NumberedTable) → routes_of n (put_route m a ts) ≡ (if m == n then routes_of n ts ++ a ∷ [] else routes_of n ts)
routes-put m n a [] = refl
routes-put m n a (t ∷ ts) =
    let ih = routes-put m n a ts in
    elim (cases_Bool (t.number == m)) as (λ _. routes_of n (put_route m a (t ∷ ts)) ≡ (if m == n then routes_of n (t ∷ ts) ++ a ∷ [] else routes_of n (t ∷ ts))) [
      | inl hit ↦ rw hit (rw (sym (eqb-true t.number m hit)) (here (t.number == n)))
      | inr miss ↦ rw (miss, ih) (elim (cases_Bool (t.number == n)) as (λ _. (if t.number == n then t.routes else if m == n then routes_of n ts ++ a ∷ [] else routes_of n ts) ≡ (if m == n then (if t.number == n then t.routes else routes_of n ts) ++ a ∷ [] else if t.number == n then t.routes else routes_of n ts)) [
        | inl at ↦ let apart = apart_from t.number m n miss at in rw (at, apart) refl
        | inr past ↦ rw past refl
      ])
    ]
  where
    here : (b : Bool) → (if b then t.routes ++ a ∷ [] else routes_of n ts) ≡ (if b then (if b then t.routes else routes_of n ts) ++ a ∷ [] else if b then t.routes else routes_of n ts)
    here true = refl
    here false = refl

pub routes-cut : (m n : ℕ) (a : Route) (ts : List NumberedTable) → routes_of n (cut_route m a ts) ≡ (if m == n then without_route (routes_of n ts) a else routes_of n ts)
routes-cut m n a [] = none (m == n)
  where
    none : (b : Bool) → ◌≡◌ {A = List Route} [] (if b then [] else [])
    none true = refl
    none false = refl
routes-cut m n a (t ∷ ts) =
    let ih = routes-cut m n a ts in
    elim (cases_Bool (t.number == m)) as (λ _. routes_of n (cut_route m a (t ∷ ts)) ≡ (if m == n then without_route (routes_of n (t ∷ ts)) a else routes_of n (t ∷ ts))) [
      | inl hit ↦ rw hit (rw (sym (eqb-true t.number m hit)) (here (t.number == n)))
      | inr miss ↦ rw (miss, ih) (elim (cases_Bool (t.number == n)) as (λ _. (if t.number == n then t.routes else if m == n then without_route (routes_of n ts) a else routes_of n ts)
          ≡ (if m == n then without_route (if t.number == n then t.routes else routes_of n ts) a else if t.number == n then t.routes else routes_of n ts)) [
            | inl at ↦ let apart = apart_from t.number m n miss at in rw (at, apart) refl
            | inr past ↦ rw past refl
          ])
    ]
  where
    here : (b : Bool) → (if b then without_route t.routes a else routes_of n ts) ≡ (if b then without_route (if b then t.routes else routes_of n ts) a else if b then t.routes else routes_of n ts)
    here true = refl
    here false = refl

-- another route stays
has-without_route : (a b : Route) (xs : List Route) → same_route a b ≡ false → has_route xs b ≡ true → has_route (without_route xs a) b ≡ true
has-without_route a b [] apart h = h
has-without_route a b (x ∷ xs) apart h = step (has-without_route a b xs apart) (cases_Bool (same_route x a)) (cases_Bool (same_route x b))
  where
    step : (has_route xs b ≡ true → has_route (without_route xs a) b ≡ true) → (same_route x a ≡ true) ⊎ (same_route x a ≡ false) → (same_route x b ≡ true) ⊎ (same_route x b ≡ false) → has_route (cond (not (same_route x a)) (x ∷ without_route xs a) (without_route xs a)) b ≡ true
    step rest (inl goes) (inl is) = absurd (both_ways (same_route a b) apart (ap (λ y. same_route y b) (sym (same_route-true x a goes)) ∙ is))
    step rest (inl goes) (inr other) = rw goes (rest (rw other at h))
    step rest (inr stays) (inl is) = rw (stays, is) refl
    step rest (inr stays) (inr other) = rw (stays, other) (rest (rw other at h))

absent-placed : (a b : Rule) (rules : List Rule) → same_rule a b ≡ false → not (has rule_kind rules b) ≡ true → not (has rule_kind (placed rule_kind a rules) b) ≡ true
absent-placed a b rules apart h = rw (has_placed rule_kind a b rules, same_rule-sym a b apart) h

present-placed : (a b : Rule) (rules : List Rule) → has rule_kind rules b ≡ true → has rule_kind (placed rule_kind a rules) b ≡ true
present-placed a b rules h = has_placed rule_kind a b rules ∙ either (same_rule b a)
  where
    either : (c : Bool) → cond c true (has rule_kind rules b) ≡ true
    either true = refl
    either false = h

placed-present : (a : Rule) (rules : List Rule) → has rule_kind (placed rule_kind a rules) a ≡ true
placed-present a rules = has_placed rule_kind a a rules ∙ rw (same_rule-refl a) refl

-- an addition that is apart from what is absent leaves it absent
pub absent-after_add : (k : KernelState) (p q : Request) → same_request p q ≡ false → (is_route p ≡ true → is_route q ≡ true → ⊥) → is_absent k q ≡ true → is_absent (add k p) q ≡ true
absent-after_add k (req.Rule family.V4 a) (req.Rule family.V4 b) apart one h = absent-placed a b k.rules4 apart h
absent-after_add k (req.Rule family.V6 a) (req.Rule family.V6 b) apart one h = absent-placed a b k.rules6 apart h
absent-after_add k (req.Rule family.V4 a) (req.Rule family.V6 b) apart one h = h
absent-after_add k (req.Rule family.V6 a) (req.Rule family.V4 b) apart one h = h
absent-after_add k (req.Rule family.V4 a) (req.Route n b) apart one h = h
absent-after_add k (req.Rule family.V6 a) (req.Route n b) apart one h = h
absent-after_add k (req.Route m a) (req.Rule family.V4 b) apart one h = h
absent-after_add k (req.Route m a) (req.Rule family.V6 b) apart one h = h
absent-after_add k (req.Route m a) (req.Route n b) apart one h = absurd (one refl refl)

pub present-after_add : (k : KernelState) (p q : Request) → is_present k q ≡ true → is_present (add k p) q ≡ true
present-after_add k (req.Rule family.V4 a) (req.Rule family.V4 b) h = present-placed a b k.rules4 h
present-after_add k (req.Rule family.V6 a) (req.Rule family.V6 b) h = present-placed a b k.rules6 h
present-after_add k (req.Rule family.V4 a) (req.Rule family.V6 b) h = h
present-after_add k (req.Rule family.V6 a) (req.Rule family.V4 b) h = h
present-after_add k (req.Rule family.V4 a) (req.Route n b) h = h
present-after_add k (req.Rule family.V6 a) (req.Route n b) h = h
present-after_add k (req.Route m a) (req.Rule family.V4 b) h = h
present-after_add k (req.Route m a) (req.Rule family.V6 b) h = h
present-after_add k (req.Route m a) (req.Route n b) h = rw (routes-put m n a k.tables) (grown (m == n))
  where
    grown : (c : Bool) → has_route (if c then routes_of n k.tables ++ a ∷ [] else routes_of n k.tables) b ≡ true
    grown true = list_any-append (λ x. same_route x b) (routes_of n k.tables) (a ∷ []) ∙ or_left _ _ h
    grown false = h

pub present-of_added : (k : KernelState) (q : Request) → is_present (add k q) q ≡ true
present-of_added k (req.Rule family.V4 a) = placed-present a k.rules4
present-of_added k (req.Rule family.V6 a) = placed-present a k.rules6
present-of_added k (req.Route n a) =
    rw (routes-put n n a k.tables, eq-eqb n n refl) (list_any-append (λ x. same_route x a) (routes_of n k.tables) (a ∷ []) ∙ or_right _ _ (or_left _ _ (same_route-refl a)))

-- a deletion takes away nothing else
pub present-after_delete : (k : KernelState) (p q : Request) → same_request p q ≡ false → is_present k q ≡ true → is_present (delete k p) q ≡ true
present-after_delete k (req.Rule family.V4 a) (req.Rule family.V4 b) apart h = has-without_other a b k.rules4 apart h
present-after_delete k (req.Rule family.V6 a) (req.Rule family.V6 b) apart h = has-without_other a b k.rules6 apart h
present-after_delete k (req.Rule family.V4 a) (req.Rule family.V6 b) apart h = h
present-after_delete k (req.Rule family.V6 a) (req.Rule family.V4 b) apart h = h
present-after_delete k (req.Rule family.V4 a) (req.Route n b) apart h = h
present-after_delete k (req.Rule family.V6 a) (req.Route n b) apart h = h
present-after_delete k (req.Route m a) (req.Rule family.V4 b) apart h = h
present-after_delete k (req.Route m a) (req.Rule family.V6 b) apart h = h
present-after_delete k (req.Route m a) (req.Route n b) apart h = rw (routes-cut m n a k.tables) (shrunk (m == n) refl)
  where
    shrunk : (c : Bool) → (m == n) ≡ c → has_route (if c then without_route (routes_of n k.tables) a else routes_of n k.tables) b ≡ true
    shrunk true same = has-without_route a b (routes_of n k.tables) (rw same at apart) h
    shrunk false same = h
