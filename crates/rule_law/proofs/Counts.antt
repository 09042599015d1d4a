-- How often a rule stands in a list, and so what is left of one by deletions.
use Rattle.std.proofs.Common.{◌≡◌, ℕ, ◌+◌, ◌-◌, ◌≤◌, Bool, true, false, cond, not, List, [], ◌∷◌, ◌++◌, refl, sym, ◌∙◌, ap, arith, inl, inr, filter, map, reverse}
use Rattle.std.specs.Prelude.{◌⊎◌}
use Rattle.std.proofs.lemmas.Bool.{cases_Bool, false≢true}
use Rattle.rule_law.specs.Rules.{Kind, has, placed, without, class}
use Rattle.rule_law.specs.Plans.{Add, Delete, after}
use Rattle.rule_law.proofs.Membership.{filter-all, reverse-more}

-- how often the rule stands in the list
abbrev pub count : {R : Type 0} → Kind R → R → List R → ℕ
count k y [] = 0
count k y (x ∷ xs) = cond (k.same y x) 1 0 + count k y xs

module _ {R : Type 0} (k : Kind R) where
  pub count-placed : (y r : R) (xs : List R) → count k y (placed k r xs) ≡ count k y (r ∷ xs)
  count-placed y r [] = refl
  count-placed y r (x ∷ xs) = grind (arith, count-placed y r xs)

  pub count-added : (y : R) (rs xs : List R) → count k y (after k (map Add rs) xs) ≡ count k y rs + count k y xs
  count-added y [] xs = omega arith
  count-added y (r ∷ rs) xs =
      let e : count k y (after k (map Add rs) (placed k r xs)) ≡ count k y rs + count k y (placed k r xs) = count-added y rs (placed k r xs) in
      let d : count k y (placed k r xs) ≡ cond (k.same y r) 1 0 + count k y xs = count-placed y r xs in
      omega (arith, e, d)

  pub count-without : (y d : R) (xs : List R) → count k y (without k d xs) ≡ count k y xs - cond (k.same y d) 1 0
  count-without y d [] = omega arith
  count-without y d (x ∷ xs) = grind (arith, count-without y d xs, k.same_is d x, k.same_is y d)

  pub count-deleted : (y : R) (ds xs : List R) → count k y (after k (map Delete ds) xs) ≡ count k y xs - count k y ds
  count-deleted y [] xs = omega arith
  count-deleted y (d ∷ ds) xs =
      let e : count k y (after k (map Delete ds) (without k d xs)) ≡ count k y (without k d xs) - count k y ds = count-deleted y ds (without k d xs) in
      let c : count k y (without k d xs) ≡ count k y xs - cond (k.same y d) 1 0 = count-without y d xs in
      omega (arith, e, c)

  pub count-append : (y : R) (xs ys : List R) → count k y (xs ++ ys) ≡ count k y xs + count k y ys
  count-append y [] ys = omega arith
  count-append y (x ∷ xs) ys = let e : count k y (xs ++ ys) ≡ count k y xs + count k y ys = count-append y xs ys in omega (arith, e)

  pub count-reverse : (y : R) (xs : List R) → count k y (reverse xs) ≡ count k y xs
  count-reverse y [] = refl
  count-reverse y (x ∷ xs) =
      let e : count k y (reverse (x ∷ xs)) ≡ count k y (reverse xs) + count k y (x ∷ []) = ap (λ zs. count k y zs) (reverse-more k x xs) ∙ count-append y (reverse xs) (x ∷ []) in
      let h : count k y (reverse xs) ≡ count k y xs = count-reverse y xs in
      omega (arith, e, h)

  pub count-filter : (y : R) (p : R → Bool) (xs : List R) → count k y (filter p xs) ≡ cond (p y) (count k y xs) 0
  count-filter y p [] = grind arith
  count-filter y p (x ∷ xs) = grind (arith, count-filter y p xs, k.same_is y x)

  pub count-part : (y : R) (p : R → Bool) (xs : List R) → count k y (filter p xs) ≤ count k y xs
  count-part y p xs = elim (cases_Bool (p y)) [
    | inl t ↦ let e : count k y (filter p xs) ≡ count k y xs = count-filter y p xs ∙ rw t refl in omega (arith, e)
    | inr t ↦ let e : count k y (filter p xs) ≡ 0 = count-filter y p xs ∙ rw t refl in omega (arith, e)
  ]

  pub count-class : (y : R) (xs : List R) → count k y (class k y xs) ≡ count k y xs
  count-class y xs = count-filter y (k.alike y) xs ∙ rw (k.alike_self y) refl

  pub count-absent : (y : R) (xs : List R) → has k xs y ≡ false → count k y xs ≡ 0
  count-absent y [] h = refl
  count-absent y (x ∷ xs) h = grind (arith, count-absent y xs)

  pub has-counted : (y : R) (xs : List R) → 0 ≡ count k y xs → has k xs y ≡ false
  has-counted y [] h = refl
  has-counted y (x ∷ xs) h = grind (arith, has-counted y xs)

  -- what a test that these rules don't pass leaves of a list

  pub unseen-added : (p : R → Bool) (rs xs : List R) → ((y : R) → has k rs y ≡ true → p y ≡ false) → filter p (after k (map Add rs) xs) ≡ filter p xs
  unseen-added p [] xs h = refl
  unseen-added p (r ∷ rs) xs h = unseen-added p rs (placed k r xs) (λ y t. h y (grind arith)) ∙ one_less r xs (h r (rw (k.same_self r) refl))
    where
      one_less : (r : R) (xs : List R) → p r ≡ false → filter p (placed k r xs) ≡ filter p xs
      one_less r [] e = rw e refl
      one_less r (x ∷ xs) e = grind (arith, one_less r xs)

  pub unseen-deleted : (p : R → Bool) (ds xs : List R) → ((y : R) → has k ds y ≡ true → p y ≡ false) → filter p (after k (map Delete ds) xs) ≡ filter p xs
  unseen-deleted p [] xs h = refl
  unseen-deleted p (d ∷ ds) xs h = unseen-deleted p ds (without k d xs) (λ y t. h y (grind arith)) ∙ one_less d xs (h d (rw (k.same_self d) refl))
    where
      one_less : (d : R) (xs : List R) → p d ≡ false → filter p (without k d xs) ≡ filter p xs
      one_less d [] e = refl
      one_less d (x ∷ xs) e = grind (arith, one_less d xs, k.same_is d x)

  -- where each deleted rule stands no more often than it is deleted, none of them is left, and all else is
  pub deleted : (ds xs : List R) → ((y : R) → has k ds y ≡ true → count k y xs ≤ count k y ds) → after k (map Delete ds) xs ≡ filter (λ x. not (has k ds x)) xs
  deleted ds xs h =
      let p : R → Bool = λ x. not (has k ds x) in
      let left : List R = after k (map Delete ds) xs in
      sym (filter-all k p left (λ x t. stays x t (cases_Bool (has k ds x)))) ∙ unseen-deleted p ds xs (λ y t. rw t refl)
    where
      stays : (x : R) → has k (after k (map Delete ds) xs) x ≡ true → (has k ds x ≡ true) ⊎ (has k ds x ≡ false) → not (has k ds x) ≡ true
      stays x t (inl d) =
          let e : count k x (after k (map Delete ds) xs) ≡ count k x xs - count k x ds = count-deleted x ds xs in
          let none : 0 ≡ count k x (after k (map Delete ds) xs) = omega (arith, e, h x d) in
          absurd (false≢true (sym (has-counted x (after k (map Delete ds) xs) none) ∙ t))
      stays x t (inr d) = rw d refl
