-- Lists in which no two rules have equal priority and equal selectors.
use Rattle.std.proofs.Common.{◌≡◌, Bool, true, false, cond, not, List, [], ◌∷◌, refl, sym, ◌∙◌, ap, ap₂, inl, inr, arith, filter}
use Rattle.std.specs.Prelude.{◌⊎◌}
use Rattle.std.proofs.lemmas.Bool.{cases_Bool, false≢true, false_from_ne_true}
use Rattle.rule_law.specs.Rules.{Kind, has, class, HasEachOnce}
use Rattle.rule_law.specs.Plans.{common, beyond}
use Rattle.rule_law.specs.Parts.{TurnsInto, AreEachApart, AreEachUnlike}
use Rattle.rule_law.proofs.Membership.{filter-none, filter-same, filter-swap, has_filter, has_common, has_beyond}

module _ {R : Type 0} (k : Kind R) where
  -- a list whose rules are apart has each once
  pub apart-once : (test : R → R → Bool) → ((x : R) → test x x ≡ true) → (xs : List R) → AreEachApart k test xs → HasEachOnce k xs
  apart-once test self [] h = tt
  apart-once test self (x ∷ xs) h = (
    false_from_ne_true (has k xs x) (λ again. false≢true (sym (h.0 x again) ∙ self x)),
    apart-once test self xs h.1,
  )

  -- of such a list there is at most one rule of a priority and selectors
  class-unlike : (rule : R) (xs : List R) → AreEachUnlike k xs → (class k rule xs ≡ []) ⊎ ((x : R) × (class k rule xs ≡ x ∷ []))
  class-unlike rule [] h = inl refl
  class-unlike rule (x ∷ xs) h =
      elim (cases_Bool (k.alike rule x)) [
        | inl like ↦
            let none : class k rule xs ≡ [] = filter-none k (k.alike rule) xs (λ y there. k.alike_both rule x y like ∙ h.0 y there) in
            inr (x, rw like (ap (λ ys. x ∷ ys) none))
        | inr other ↦ rw other (class-unlike rule xs h.1)
      ]

  filter-both : (p q : R → Bool) (xs : List R) → filter p (filter q xs) ≡ filter (λ x. cond (q x) (p x) false) xs
  filter-both p q [] = refl
  filter-both p q (x ∷ xs) = grind (arith, filter-both p q xs)

  -- of a list that has each rule once those that are equal to one
  filter-one : (x : R) (xs : List R) → HasEachOnce k xs → filter (k.same x) xs ≡ cond (has k xs x) (x ∷ []) []
  filter-one x [] once = refl
  filter-one x (y ∷ ys) once =
      elim (cases_Bool (k.same x y)) [
        | inl same ↦
            let is : x ≡ y = k.same_is x y same in
            let none : has k ys x ≡ false = ap (has k ys) is ∙ once.0 in
            rw same (ap₂ (λ (z : R) (zs : List R). z ∷ zs) (sym is) (filter-one x ys once.1 ∙ rw none refl))
        | inr other ↦ rw other (filter-one x ys once.1)
      ]

  class-empty : (rule : R) (xs : List R) → class k rule xs ≡ [] → (y : R) → has k xs y ≡ true → k.alike rule y ≡ false
  class-empty rule xs none y there =
      let gone : has k (class k rule xs) y ≡ false = ap (λ zs. has k zs y) none in
      grind (arith, has_filter k (k.alike rule) y xs)

  same-turned : (x y : R) → k.same y x ≡ k.same x y
  same-turned x y =
      elim (cases_Bool (k.same x y)) [
        | inl t ↦ rw t (ap (λ z. k.same z x) (sym (k.same_is x y t)) ∙ k.same_self x)
        | inr t ↦ rw t (false_from_ne_true (k.same y x) (λ s. false≢true (sym t ∙ (ap (λ z. k.same x z) (k.same_is y x s) ∙ k.same_self x))))
      ]

  -- whatever the old list: no order is to be kept
  pub TurnsInto-unlike : (old new : List R) → HasEachOnce k old → AreEachUnlike k new → TurnsInto k old new
  TurnsInto-unlike old new once unlike rule =
      elim (class-unlike rule new unlike) [
        | inl none ↦
            let stays : class k rule (common k new old) ≡ [] =
            filter-none k (k.alike rule) (common k new old) (λ y there. class-empty rule new none y (grind (arith, has_common k new old y))) in
            let comes : class k rule (beyond k old new) ≡ [] =
            filter-none k (k.alike rule) (beyond k old new) (λ y there. class-empty rule new none y (grind (arith, has_beyond k old new y))) in
            none ∙ rw (stays, comes) refl
        | inr one ↦
            let x : R = one.0 in
            let comes : class k rule (beyond k old new) ≡ cond (not (has k old x)) (x ∷ []) [] =
            filter-swap k (k.alike rule) (λ y. not (has k old y)) new ∙ ap (filter (λ y. not (has k old y))) one.1 in
            let stays : class k rule (common k new old) ≡ cond (has k old x) (x ∷ []) [] =
            filter-both (k.alike rule) (has k new) old ∙ (filter-same k (λ y. cond (has k new y) (k.alike rule y) false) (k.same x) old (λ y there. is_one rule one.0 one.1 y) ∙ filter-one x old once) in
            one.1 ∙ elim (cases_Bool (has k old x)) [ inl t ↦ rw (stays, comes, t) refl | inr t ↦ rw (stays, comes, t) refl ]
      ]
    where
      is_one : (rule x : R) → class k rule new ≡ x ∷ [] → (y : R) → cond (has k new y) (k.alike rule y) false ≡ k.same x y
      is_one rule x one y =
          let told : has k (class k rule new) y ≡ cond (k.alike rule y) (has k new y) false = has_filter k (k.alike rule) y new in
          let only : has k (class k rule new) y ≡ has k (x ∷ []) y = ap (λ zs. has k zs y) one in
          let turned : k.same y x ≡ k.same x y = same-turned x y in
          grind arith
