-- What putting rules in order keeps.
use Rattle.std.proofs.Common.{◌≡◌, ℕ, ◌≤◌, ◌||◌, Bool, false, cond, not, List, [], ◌∷◌, ◌++◌, refl, sym, ◌∙◌, ap, inl, inr, arith, filter, leb}
use Rattle.std.proofs.lemmas.Bool.{cases_Bool, false_from_ne_true, leb-true, leb-false}
use Rattle.rule_law.specs.Rules.{Kind, has, class, HasEachOnce, Rises, NoneBelow, GiversAreAlike}
use Rattle.rule_law.specs.Plans.{common, beyond}
use Rattle.rule_law.specs.Parts.{TurnsInto}
use Rattle.rule_law.proofs.Membership.{filter-same, filter-swap}
use Rattle.rule_law.proofs.Orders.{NoneBelow-lower}
use Rattle.policy_state.specs.Table.{put, in_order}

module _ {R : Type 0} (k : Kind R) where
  has_put : (x y : R) (xs : List R) → has k (put k x xs) y ≡ has k (x ∷ xs) y
  has_put x y [] = refl
  has_put x y (z ∷ zs) = grind (arith, has_put x y zs)

  pub has_in_order : (y : R) (xs : List R) → has k (in_order k xs) y ≡ has k xs y
  has_in_order y [] = refl
  has_in_order y (x ∷ xs) = has_put x y (in_order k xs) ∙ ap (λ b. k.same y x || b) (has_in_order y xs)

  NoneBelow-put : (n : ℕ) (x : R) (xs : List R) → n ≤ k.priority x → NoneBelow k n xs → NoneBelow k n (put k x xs)
  NoneBelow-put n x [] l h = (l, tt)
  NoneBelow-put n x (y ∷ ys) l h = elim (cases_Bool (leb (k.priority x) (k.priority y))) [
    | inl e ↦ rw e (l, h)
    | inr e ↦ rw e (h.0, NoneBelow-put n x ys l h.1)
  ]

  Rises-put : (x : R) (xs : List R) → Rises k xs → Rises k (put k x xs)
  Rises-put x [] h = (tt, tt)
  Rises-put x (y ∷ ys) h = elim (cases_Bool (leb (k.priority x) (k.priority y))) [
    | inl e ↦ rw e ((leb-true _ _ e, NoneBelow-lower k (k.priority x) (k.priority y) ys (leb-true _ _ e) h.0), h)
    | inr e ↦ rw e (NoneBelow-put (k.priority y) x ys (omega (arith, leb-false _ _ e)) h.0, Rises-put x ys h.1)
  ]

  pub Rises-in_order : (xs : List R) → Rises k (in_order k xs)
  Rises-in_order [] = tt
  Rises-in_order (x ∷ xs) = Rises-put x (in_order k xs) (Rises-in_order xs)

  once-put : (x : R) (xs : List R) → has k xs x ≡ false → HasEachOnce k xs → HasEachOnce k (put k x xs)
  once-put x [] none h = (refl, tt)
  once-put x (y ∷ ys) none h = elim (cases_Bool (leb (k.priority x) (k.priority y))) [
    | inl e ↦ rw e (none, h)
    | inr e ↦ rw e (has_put x y ys ∙ grind (arith, h.0, k.same_is y x, k.same_self y), once-put x ys (grind arith) h.1)
  ]

  pub once-in_order : (xs : List R) → HasEachOnce k xs → HasEachOnce k (in_order k xs)
  once-in_order [] h = tt
  once-in_order (x ∷ xs) h = once-put x (in_order k xs) (has_in_order x xs ∙ h.0) (once-in_order xs h.1)

  pub givers-in_order : {V : Type 0} (gives : R → _) (xs : List R) → GiversAreAlike {V = V} k gives xs → GiversAreAlike k gives (in_order k xs)
  givers-in_order gives xs h x y in_x in_y = h x y (sym (has_in_order x xs) ∙ in_x) (sym (has_in_order y xs) ∙ in_y)

  class-put : (rule x : R) (xs : List R) → class k rule (put k x xs) ≡ class k rule (x ∷ xs)
  class-put rule x [] = refl
  class-put rule x (y ∷ ys) = elim (cases_Bool (leb (k.priority x) (k.priority y))) [
    | inl e ↦ rw e refl
    | inr e ↦
        let ih : class k rule (put k x ys) ≡ class k rule (x ∷ ys) = class-put rule x ys in
        rw e (elim (cases_Bool (k.alike rule x)) [
          | inl like ↦
              let other : k.alike rule y ≡ false = false_from_ne_true (k.alike rule y) (λ also.
              let one : k.priority rule ≡ k.priority x = k.alike_priority rule x like in
              let two : k.priority rule ≡ k.priority y = k.alike_priority rule y also in
              omega (arith, leb-false _ _ e)) in
              rw (like, other) (ih ∙ rw like refl)
          | inr unlike ↦ elim (cases_Bool (k.alike rule y)) [
            | inl t ↦ rw (unlike, t) (ap (λ zs. y ∷ zs) (ih ∙ rw unlike refl))
            | inr t ↦ rw (unlike, t) (ih ∙ rw unlike refl)
          ]
        ])
  ]

  class-in_order : (rule : R) (xs : List R) → class k rule (in_order k xs) ≡ class k rule xs
  class-in_order rule [] = refl
  class-in_order rule (x ∷ xs) = class-put rule x (in_order k xs) ∙ ap (λ zs. cond (k.alike rule x) (x ∷ zs) zs) (class-in_order rule xs)

  class-part : (rule : R) (test other : R → Bool) (xs : List R) → ((x : R) → test x ≡ other x) → class k rule (filter test (in_order k xs)) ≡ class k rule (filter other xs)
  class-part rule test other xs same =
      filter-swap k (k.alike rule) test (in_order k xs)
      ∙ (ap (filter test) (class-in_order rule xs)
      ∙ (filter-same k test other (class k rule xs) (λ x h. same x) ∙ sym (filter-swap k (k.alike rule) other xs)))

  pub turns-in_order : (old new : List R) → TurnsInto k old new → TurnsInto k (in_order k old) (in_order k new)
  turns-in_order old new h rule =
      class-in_order rule new
      ∙ (h rule
      ∙ (ap (λ zs. zs ++ class k rule (beyond k old new)) (sym (class-part rule (has k (in_order k new)) (has k new) old (λ x. has_in_order x new)))
      ∙ ap (λ zs. class k rule (common k (in_order k new) (in_order k old)) ++ zs)
      (sym (class-part rule (λ x. not (has k (in_order k old) x)) (λ x. not (has k old x)) new (λ x. ap not (has_in_order x old))))))
