-- Lists of which each two pass a test.
use Rattle.std.proofs.Common.{◌≡◌, Bool, true, false, cond, not, List, [], ◌∷◌, ◌++◌, filter, refl}
use Rattle.std.specs.List.{list_all, list_any}
use Rattle.std.proofs.lemmas.Bool.{and_parts, and_from, or_parts, or_from, not_from_false, not-true}
use Rattle.std.proofs.lemmas.List.Folds.{list_all-append}
use Rattle.list_lemmas.specs.Pairwise.{pairwise}

module _ {A : Type 0} where
  pub list_all-filter : (p q : A → Bool) (xs : List A) → list_all p xs ≡ true → list_all p (filter q xs) ≡ true
  list_all-filter p q [] all = refl
  list_all-filter p q (x ∷ xs) all =
      let parts = and_parts (p x) (list_all p xs) all in
      kept (q x) parts.0 (list_all-filter p q xs parts.1)
    where
      kept : (b : Bool) → p x ≡ true → list_all p (filter q xs) ≡ true → list_all p (cond b (x ∷ filter q xs) (filter q xs)) ≡ true
      kept true here rest = and_from (p x) (list_all p (filter q xs)) here rest
      kept false here rest = rest

  pub pairwise-filter : (t : A → A → Bool) (q : A → Bool) (xs : List A) → pairwise t xs ≡ true → pairwise t (filter q xs) ≡ true
  pairwise-filter t q [] all = refl
  pairwise-filter t q (x ∷ xs) all =
      let parts = and_parts (list_all (t x) xs) (pairwise t xs) all in
      kept (q x) (list_all-filter (t x) q xs parts.0) (pairwise-filter t q xs parts.1)
    where
      kept : (b : Bool) → list_all (t x) (filter q xs) ≡ true → pairwise t (filter q xs) ≡ true → pairwise t (cond b (x ∷ filter q xs) (filter q xs)) ≡ true
      kept true here rest = and_from (list_all (t x) (filter q xs)) (pairwise t (filter q xs)) here rest
      kept false here rest = rest

  -- two such lists joined, where each of the first passes with each of the second
  pub pairwise-append : (t : A → A → Bool) (xs ys : List A) → pairwise t xs ≡ true → pairwise t ys ≡ true → list_all (λ x. list_all (t x) ys) xs ≡ true → pairwise t (xs ++ ys) ≡ true
  pairwise-append t [] ys first second across = second
  pairwise-append t (x ∷ xs) ys first second across =
      let parts = and_parts (list_all (t x) xs) (pairwise t xs) first in
      let far = and_parts (list_all (t x) ys) (list_all (λ z. list_all (t z) ys) xs) across in
      let here : list_all (t x) (xs ++ ys) ≡ true = rw (list_all-append (t x) xs ys) (and_from (list_all (t x) xs) (list_all (t x) ys) parts.0 far.0) in
      and_from (list_all (t x) (xs ++ ys)) (pairwise t (xs ++ ys)) here (pairwise-append t xs ys parts.1 second far.1)

  -- one more, which clashes with none
  pub pairwise-push : (clash : A → A → Bool) (xs : List A) (x : A) → pairwise (λ a b. not (clash a b)) xs ≡ true → list_any (λ y. clash y x) xs ≡ false → pairwise (λ a b. not (clash a b)) (xs ++ x ∷ []) ≡ true
  pairwise-push clash xs x all none = pairwise-append (λ a b. not (clash a b)) xs (x ∷ []) all refl (across xs none)
    where
      across : (ys : List A) → list_any (λ y. clash y x) ys ≡ false → list_all (λ y. list_all (λ z. not (clash y z)) (x ∷ [])) ys ≡ true
      across [] fresh = refl
      across (y ∷ ys) fresh =
          let parts = or_parts (clash y x) (list_any (λ z. clash z x) ys) fresh in
          and_from _ _ (and_from (not (clash y x)) true (not_from_false _ parts.0) refl) (across ys parts.1)

  -- one of the list clashes with none before it
  pub pairwise-before : (clash : A → A → Bool) (xs ys : List A) (x : A) → pairwise (λ a b. not (clash a b)) (xs ++ x ∷ ys) ≡ true → list_any (λ y. clash y x) xs ≡ false
  pairwise-before clash [] ys x all = refl
  pairwise-before clash (z ∷ zs) ys x all =
      let parts = and_parts (list_all (λ b. not (clash z b)) (zs ++ x ∷ ys)) (pairwise (λ a b. not (clash a b)) (zs ++ x ∷ ys)) all in
      or_from (clash z x) (list_any (λ y. clash y x) zs) (not-true _ (last zs parts.0)) (pairwise-before clash zs ys x parts.1)
    where
      last : (bs : List A) → list_all (λ b. not (clash z b)) (bs ++ x ∷ ys) ≡ true → not (clash z x) ≡ true
      last [] h = (and_parts (not (clash z x)) (list_all (λ b. not (clash z b)) ys) h).0
      last (b ∷ bs) h = last bs (and_parts (not (clash z b)) (list_all (λ b. not (clash z b)) (bs ++ x ∷ ys)) h).1
