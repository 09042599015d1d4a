-- Which rule of a list leads: the first one that speaks, where `s` tells whether a rule speaks, that is, gives the packet something.
use Rattle.std.proofs.Common.{◌≡◌, ◌<◌, ◌≤◌, Bool, true, false, List, [], ◌∷◌, ◌++◌, refl, inl, inr, arith, filter, leb, Some, None}
use Rattle.std.specs.Prelude.{◌⊎◌}
use Rattle.std.proofs.lemmas.Bool.{cases_Bool, leb-false, false≢true}
use Rattle.std.specs.List.{find}
use Rattle.rule_law.specs.Rules.{Kind, placed, without, has, Rises}
use Rattle.rule_law.proofs.Orders.{NoneBelow-has, same_sym}

-- each rule of the list that speaks has a greater priority than this one
abbrev pub Beats : {R : Type 0} → Kind R → (R → Bool) → R → List R → Type 0
Beats {R = R} k s r xs = (y : R) → has k xs y ≡ true → s y ≡ true → k.priority r < k.priority y

module _ {R : Type 0} (k : Kind R) (s : R → Bool) where
  pub find-has : (x : R) (xs : List R) → find s xs ≡ Some x → has k xs x ≡ true
  find-has x [] e = cc
  find-has x (y ∷ ys) e = grind (arith, find-has x ys, k.same_self x)

  pub find-speaks : (x : R) (xs : List R) → find s xs ≡ Some x → s x ≡ true
  find-speaks x [] e = cc
  find-speaks x (y ∷ ys) e = grind (arith, find-speaks x ys)

  pub find-silent : (x : R) (xs : List R) → find s xs ≡ None → has k xs x ≡ true → s x ≡ false
  find-silent x [] e h = absurd (false≢true h)
  find-silent x (y ∷ ys) e h = grind (arith, find-silent x ys, k.same_is x y)

  pub find-least : (x y : R) (xs : List R) → Rises k xs → find s xs ≡ Some x → has k xs y ≡ true → s y ≡ true → k.priority x ≤ k.priority y
  find-least x y [] o e h t = absurd (false≢true h)
  find-least x y (z ∷ zs) o e h t = grind (arith, find-least x y zs o.1, k.same_is y z, NoneBelow-has k (k.priority z) zs y o.0)

  pub find-filter : (p : R → Bool) (x : R) (xs : List R) → find s xs ≡ Some x → p x ≡ true → find s (filter p xs) ≡ Some x
  find-filter p x [] e h = e
  find-filter p x (y ∷ ys) e h = grind (arith, find-filter p x ys)

  pub find-append : (x : R) (xs ys : List R) → find s xs ≡ Some x → find s (xs ++ ys) ≡ Some x
  find-append x [] ys e = cc
  find-append x (y ∷ xs) ys e = grind (arith, find-append x xs ys)

  pub find-append_none : (xs ys : List R) → find s xs ≡ None → find s (xs ++ ys) ≡ find s ys
  find-append_none [] ys e = refl
  find-append_none (y ∷ xs) ys e = grind (arith, find-append_none xs ys)

  pub find-without_other : (d x : R) (xs : List R) → find s xs ≡ Some x → k.same x d ≡ false → find s (without k d xs) ≡ Some x
  find-without_other d x [] e h = e
  find-without_other d x (y ∷ ys) e h = grind (arith, find-without_other d x ys, same_sym k x d)

  pub find-without_silent : (d : R) (xs : List R) → s d ≡ false → find s (without k d xs) ≡ find s xs
  find-without_silent d [] h = refl
  find-without_silent d (y ∷ ys) h = grind (arith, find-without_silent d ys, k.same_is d y)

  pub find-without_none : (d : R) (xs : List R) → find s xs ≡ None → find s (without k d xs) ≡ None
  find-without_none d [] h = refl
  find-without_none d (y ∷ ys) h = grind (arith, find-without_none d ys)

  Beats-more : (r x : R) (xs : List R) → s x ≡ false → Beats k s r xs → Beats k s r (x ∷ xs)
  Beats-more r x xs e b = λ y h t. grind (arith, b y, k.same_is y x)

  Beats-all : (r x : R) (xs : List R) → k.priority r < k.priority x → Rises k (x ∷ xs) → Beats k s r (x ∷ xs)
  Beats-all r x xs l o = λ y h t. grind (arith, NoneBelow-has k (k.priority x) xs y o.0, k.same_is y x)

  -- where a rule has been added, the first one is what it was, or the new one, which then beats all others
  pub find-placed : (r : R) (xs : List R) → Rises k xs
      → (find s (placed k r xs) ≡ find s xs) ⊎ ((find s (placed k r xs) ≡ Some r) × (s r ≡ true) × Beats k s r xs)
  find-placed r [] o =
      elim (cases_Bool (s r)) [ inl e ↦ inr (rw e refl, e, λ y h t. absurd (false≢true h)) | inr e ↦ inl (rw e refl) ]
  find-placed r (x ∷ xs) o =
      elim (cases_Bool (leb (k.priority x) (k.priority r))) [
        | inl e ↦ rw e (elim (cases_Bool (s x)) [
          | inl t ↦ rw t (inl refl)
          | inr t ↦ rw t (elim (find-placed r xs o.1) [
            | inl q ↦ inl q
            | inr q ↦ inr (q.0, q.1, Beats-more r x xs t q.2)
          ])
        ])
        | inr e ↦ rw e (elim (cases_Bool (s r)) [
          | inl t ↦ rw t (inr (refl, refl, Beats-all r x xs (leb-false _ _ e) o))
          | inr t ↦ rw t (inl refl)
        ])
      ]
