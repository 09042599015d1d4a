-- Which rules stand in a list, and what a filter leaves of one.
use Rattle.std.proofs.Common.{◌≡◌, Bool, true, false, cond, not, List, [], ◌∷◌, ◌++◌, refl, ap, ◌∙◌, arith, filter, reverse}
use Rattle.std.proofs.lemmas.List.{reverse-append}
use Rattle.rule_law.specs.Rules.{Kind, placed, has}
use Rattle.rule_law.specs.Plans.{common, beyond}

module _ {R : Type 0} (k : Kind R) where
  pub has_filter : (p : R → Bool) (x : R) (xs : List R) → has k (filter p xs) x ≡ cond (p x) (has k xs x) false
  has_filter p x [] = elim (p x) as (λ b. false ≡ cond b false false) [ true ↦ refl | false ↦ refl ]
  has_filter p x (y ∷ ys) = grind (arith, has_filter p x ys, k.same_is x y)

  pub has_append : (x : R) (xs ys : List R) → has k (xs ++ ys) x ≡ cond (has k xs x) true (has k ys x)
  has_append x [] ys = refl
  has_append x (y ∷ xs) ys = grind (arith, has_append x xs ys)

  pub has_placed : (r x : R) (xs : List R) → has k (placed k r xs) x ≡ cond (k.same x r) true (has k xs x)
  has_placed r x [] = grind arith
  has_placed r x (y ∷ ys) = grind (arith, has_placed r x ys)

  pub reverse-more : (x : R) (xs : List R) → reverse (x ∷ xs) ≡ reverse xs ++ x ∷ []
  reverse-more x xs = reverse-append (x ∷ []) xs

  pub has_reverse : (x : R) (xs : List R) → has k (reverse xs) x ≡ has k xs x
  has_reverse x [] = refl
  has_reverse x (y ∷ ys) = rw (reverse-more y ys) (has_append x (reverse ys) (y ∷ []) ∙ rw (has_reverse x ys) grind arith)

  pub filter-same : (p q : R → Bool) (xs : List R) → ((x : R) → has k xs x ≡ true → p x ≡ q x) → filter p xs ≡ filter q xs
  filter-same p q [] h = refl
  filter-same p q (x ∷ xs) h =
      let here : p x ≡ q x = h x (rw (k.same_self x) refl) in
      let rest : filter p xs ≡ filter q xs = filter-same p q xs (λ y t. h y (grind arith)) in
      grind arith

  pub filter-all : (p : R → Bool) (xs : List R) → ((x : R) → has k xs x ≡ true → p x ≡ true) → filter p xs ≡ xs
  filter-all p [] h = refl
  filter-all p (x ∷ xs) h =
      let here : p x ≡ true = h x (rw (k.same_self x) refl) in
      rw here (ap (λ ys. x ∷ ys) (filter-all p xs (λ y t. h y (grind arith))))

  pub filter-swap : (p q : R → Bool) (xs : List R) → filter p (filter q xs) ≡ filter q (filter p xs)
  filter-swap p q [] = refl
  filter-swap p q (x ∷ xs) = grind (arith, filter-swap p q xs)

  pub filter-none : (p : R → Bool) (xs : List R) → ((x : R) → has k xs x ≡ true → p x ≡ false) → filter p xs ≡ []
  filter-none p [] h = refl
  filter-none p (x ∷ xs) h =
      let here : p x ≡ false = h x (rw (k.same_self x) refl) in
      rw here (filter-none p xs (λ y t. h y (grind arith)))

  pub has_common : (ys xs : List R) (x : R) → has k (common k ys xs) x ≡ cond (has k ys x) (has k xs x) false
  has_common ys xs x = has_filter (has k ys) x xs

  pub has_beyond : (ys xs : List R) (x : R) → has k (beyond k ys xs) x ≡ cond (not (has k ys x)) (has k xs x) false
  has_beyond ys xs x = has_filter (λ z. not (has k ys z)) x xs
