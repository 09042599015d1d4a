-- A stable sort by a key keeps the items of each key, in their order.
use Rattle.std.proofs.Common.{◌≡◌, ◌∙◌, ◌==◌, ℕ, Bool, cond, List, [], ◌∷◌, ◌++◌, filter, nat_cmp, is_lt, refl, sym, ap, ap₂, subst, inl, inr, arith}
use Rattle.std.specs.Prelude.{flat_map}
use Rattle.std.specs.List.Sorted.{ties, IsStableByKey}
use Rattle.std.proofs.lemmas.Bool.{cases_Bool, eqb-true}
use Rattle.std.proofs.lemmas.Bool.Decides.{nat_tests}

same-test : (m n : ℕ) → ties (λ x y. is_lt (nat_cmp x y)) m n ≡ (n == m)
same-test m n = grind (arith, nat_tests)

module _ {A : Type 0} (key : A → ℕ) where
  abbrev pub with_key : List A → ℕ → List A
  with_key xs n = filter (λ x. key x == n) xs

  -- what ties with an item has its key
  ties-with : (x : A) (xs : List A) → filter (ties (λ a b. is_lt (nat_cmp (key a) (key b))) x) xs ≡ with_key xs (key x)
  ties-with x [] = refl
  ties-with x (y ∷ xs) = ap₂ (λ (b : Bool) (ys : List A). cond b (y ∷ ys) ys) (same-test (key x) (key y)) (ties-with x xs)

  first-with : (n : ℕ) (xs : List A) (y : A) (ys : List A) → with_key xs n ≡ y ∷ ys → key y ≡ n
  first-with n [] y ys is = cc
  first-with n (x ∷ xs) y ys is = elim (cases_Bool (key x == n)) [
    | inl same ↦ let shown : x ∷ with_key xs n ≡ y ∷ ys = rw same at is in let first : x ≡ y = cc in sym (ap key first) ∙ eqb-true (key x) n same
    | inr other ↦ first-with n xs y ys (rw other at is)
  ]

  same-with : (xs ys : List A) → IsStableByKey key nat_cmp xs ys → (n : ℕ) → with_key ys n ≡ with_key xs n
  same-with xs ys stable n = by (with_key xs n) (with_key ys n) refl refl
    where
      like : (x : A) → key x ≡ n → with_key ys n ≡ with_key xs n
      like x is = subst (λ m. with_key ys m ≡ with_key xs m) is (sym (ties-with x ys) ∙ (stable x ∙ ties-with x xs))

      by : (ps qs : List A) → with_key xs n ≡ ps → with_key ys n ≡ qs → with_key ys n ≡ with_key xs n
      by [] [] one other = other ∙ sym one
      by (x ∷ ps) qs one other = like x (first-with n xs x ps one)
      by [] (x ∷ qs) one other = like x (first-with n ys x qs other)

  pub same-keyed : (xs ys : List A) → IsStableByKey key nat_cmp xs ys → (numbers : List ℕ) → flat_map (with_key ys) numbers ≡ flat_map (with_key xs) numbers
  same-keyed xs ys stable [] = refl
  same-keyed xs ys stable (n ∷ numbers) = ap₂ (λ (one others : List A). one ++ others) (same-with xs ys stable n) (same-keyed xs ys stable numbers)
