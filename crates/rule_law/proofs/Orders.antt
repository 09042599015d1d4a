-- Lists that rise, and lists that have each rule once.
use Rattle.std.proofs.Common.{◌≡◌, ℕ, ◌≤◌, Bool, true, false, cond, List, [], ◌∷◌, ◌++◌, refl, ◌∙◌, inl, inr, arith, filter, leb}
use Rattle.std.proofs.lemmas.Bool.{cases_Bool, leb-true, leb-false, false≢true}
use Rattle.rule_law.specs.Rules.{Kind, placed, without, has, NoneBelow, Rises, HasEachOnce}
use Rattle.rule_law.proofs.Membership.{has_append, has_filter}

module _ {R : Type 0} (k : Kind R) where
  pub same_sym : (x y : R) → k.same x y ≡ k.same y x
  same_sym x y = grind (arith, k.same_is x y, k.same_is y x, k.same_self x)

  pub NoneBelow-has : (n : ℕ) (xs : List R) (y : R) → NoneBelow k n xs → has k xs y ≡ true → n ≤ k.priority y
  NoneBelow-has n [] y f h = absurd (false≢true h)
  NoneBelow-has n (x ∷ xs) y f h = grind (arith, NoneBelow-has n xs y f.1, k.same_is y x, f.0)

  pub NoneBelow-lower : (m n : ℕ) (xs : List R) → m ≤ n → NoneBelow k n xs → NoneBelow k m xs
  NoneBelow-lower m n [] l f = tt
  NoneBelow-lower m n (x ∷ xs) l f = (omega (arith, f.0), NoneBelow-lower m n xs l f.1)

  pub NoneBelow-filter : (n : ℕ) (p : R → Bool) (xs : List R) → NoneBelow k n xs → NoneBelow k n (filter p xs)
  NoneBelow-filter n p [] f = tt
  NoneBelow-filter n p (x ∷ xs) f =
      elim (p x) as (λ b. NoneBelow k n (cond b (x ∷ filter p xs) (filter p xs))) [ true ↦ (f.0, NoneBelow-filter n p xs f.1) | false ↦ NoneBelow-filter n p xs f.1 ]

  pub NoneBelow-placed : (n : ℕ) (r : R) (xs : List R) → n ≤ k.priority r → NoneBelow k n xs → NoneBelow k n (placed k r xs)
  NoneBelow-placed n r [] l f = (l, tt)
  NoneBelow-placed n r (x ∷ xs) l f =
      elim (leb (k.priority x) (k.priority r)) as (λ b. NoneBelow k n (cond b (x ∷ placed k r xs) (r ∷ x ∷ xs))) [ true ↦ (f.0, NoneBelow-placed n r xs l f.1) | false ↦ (l, f) ]

  pub NoneBelow-without : (n : ℕ) (r : R) (xs : List R) → NoneBelow k n xs → NoneBelow k n (without k r xs)
  NoneBelow-without n r [] f = tt
  NoneBelow-without n r (x ∷ xs) f =
      elim (k.same r x) as (λ b. NoneBelow k n (cond b xs (x ∷ without k r xs))) [ true ↦ f.1 | false ↦ (f.0, NoneBelow-without n r xs f.1) ]

  pub Rises-filter : (p : R → Bool) (xs : List R) → Rises k xs → Rises k (filter p xs)
  Rises-filter p [] h = tt
  Rises-filter p (x ∷ xs) h =
      elim (p x) as (λ b. Rises k (cond b (x ∷ filter p xs) (filter p xs))) [ true ↦ (NoneBelow-filter (k.priority x) p xs h.0, Rises-filter p xs h.1) | false ↦ Rises-filter p xs h.1 ]

  pub Rises-placed : (r : R) (xs : List R) → Rises k xs → Rises k (placed k r xs)
  Rises-placed r [] h = (tt, tt)
  Rises-placed r (x ∷ xs) h =
      elim (cases_Bool (leb (k.priority x) (k.priority r))) [
        | inl e ↦ rw e (NoneBelow-placed (k.priority x) r xs (leb-true _ _ e) h.0, Rises-placed r xs h.1)
        | inr e ↦ rw e (let l : k.priority r ≤ k.priority x = omega (arith, leb-false _ _ e) in ((l, NoneBelow-lower (k.priority r) (k.priority x) xs l h.0), h))
      ]

  pub Rises-without : (r : R) (xs : List R) → Rises k xs → Rises k (without k r xs)
  Rises-without r [] h = tt
  Rises-without r (x ∷ xs) h =
      elim (k.same r x) as (λ b. Rises k (cond b xs (x ∷ without k r xs))) [ true ↦ h.1 | false ↦ (NoneBelow-without (k.priority x) r xs h.0, Rises-without r xs h.1) ]

  pub HasEachOnce-filter : (p : R → Bool) (xs : List R) → HasEachOnce k xs → HasEachOnce k (filter p xs)
  HasEachOnce-filter p [] h = tt
  HasEachOnce-filter p (x ∷ xs) h =
      elim (p x) as (λ b. HasEachOnce k (cond b (x ∷ filter p xs) (filter p xs))) [ true ↦ (grind (arith, has_filter k p x xs, h.0), HasEachOnce-filter p xs h.1) | false ↦ HasEachOnce-filter p xs h.1 ]

  NoneBelow-front : (n : ℕ) (xs ys : List R) → NoneBelow k n (xs ++ ys) → NoneBelow k n xs
  NoneBelow-front n [] ys h = tt
  NoneBelow-front n (x ∷ xs) ys h = (h.0, NoneBelow-front n xs ys h.1)

  pub Rises-front : (xs ys : List R) → Rises k (xs ++ ys) → Rises k xs
  Rises-front [] ys h = tt
  Rises-front (x ∷ xs) ys h = (NoneBelow-front (k.priority x) xs ys h.0, Rises-front xs ys h.1)

  pub HasEachOnce-front : (xs ys : List R) → HasEachOnce k (xs ++ ys) → HasEachOnce k xs
  HasEachOnce-front [] ys h = tt
  HasEachOnce-front (x ∷ xs) ys h = (grind (arith, has_append k x xs ys, h.0), HasEachOnce-front xs ys h.1)

  pub NoneBelow-from : (n : ℕ) (xs : List R) → ((x : R) → has k xs x ≡ true → n ≤ k.priority x) → NoneBelow k n xs
  NoneBelow-from n [] h = tt
  NoneBelow-from n (x ∷ xs) h = (h x (rw (k.same_self x) refl), NoneBelow-from n xs (λ y t. h y (grind arith)))

  pub Rises-append : (n : ℕ) (xs ys : List R) → Rises k xs → Rises k ys → ((x : R) → has k xs x ≡ true → k.priority x ≤ n) → ((y : R) → has k ys y ≡ true → n ≤ k.priority y) → Rises k (xs ++ ys)
  Rises-append n [] ys a b h g = b
  Rises-append n (x ∷ xs) ys a b h g =
      let low : k.priority x ≤ n = h x (rw (k.same_self x) refl) in (
        NoneBelow-from (k.priority x) (xs ++ ys) (λ y t. grind (arith, has_append k y xs ys, NoneBelow-has (k.priority x) xs y a.0, g y)),
        Rises-append n xs ys a.1 b (λ y t. h y (grind arith)) g,
      )

  pub HasEachOnce-append : (xs ys : List R) → HasEachOnce k xs → HasEachOnce k ys → ((x : R) → has k xs x ≡ true → has k ys x ≡ false) → HasEachOnce k (xs ++ ys)
  HasEachOnce-append [] ys a b h = b
  HasEachOnce-append (x ∷ xs) ys a b h =
      let here : has k ys x ≡ false = h x (rw (k.same_self x) refl) in
      (has_append k x xs ys ∙ rw (a.0, here) refl, HasEachOnce-append xs ys a.1 b (λ y t. h y (grind arith)))
