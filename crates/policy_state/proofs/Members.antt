-- Tests of lists, by what stands in them.
use Rattle.std.proofs.Common.{◌≡◌, ◌∙◌, Bool, true, false, cond, List, [], ◌∷◌, ◌++◌, map, filter, Some, None, refl, sym, ap, inl, inr}
use Rattle.std.specs.Prelude.{find}
use Rattle.std.specs.List.{list_all, list_any, AllByRecursion}
use Rattle.std.proofs.lemmas.Bool.{cases_Bool, false≢true, and_parts, and_from, false_from_ne_true}
use Rattle.std.proofs.lemmas.List.Folds.{list_all-map}
use Rattle.std.proofs.lemmas.Option.{none-some, same_Some}
use Rattle.list_lemmas.specs.Pairwise.{pairwise}
use Rattle.policy_state.proofs.AlikeRules.{all-has}
use Rattle.policy_state.proofs.Owners.{Has, any-from, Passing, of_any}

module _ {A : Type 0} where
  pub all-from : (t : A → Bool) (xs : List A) → ((x : A) → Has xs x → t x ≡ true) → list_all t xs ≡ true
  all-from t [] each = refl
  all-from t (x ∷ xs) each = and_from (t x) (list_all t xs) (each x (inl refl)) (all-from t xs (λ y h. each y (inr h)))

  pub all-implied : (p q : A → Bool) (xs : List A) → ((x : A) → Has xs x → p x ≡ true → q x ≡ true) → list_all p xs ≡ true → list_all q xs ≡ true
  all-implied p q xs more all = all-from q xs (λ x there. more x there (all-has p xs x all there))

  pub any-implied : (p q : A → Bool) (xs : List A) → ((x : A) → Has xs x → p x ≡ true → q x ≡ true) → list_any p xs ≡ true → list_any q xs ≡ true
  any-implied p q xs more any = let it : Passing p xs = of_any p xs any in any-from q xs it.one it.there (more it.one it.there it.passes)

  pub none-has : (t : A → Bool) (xs : List A) (x : A) → list_any t xs ≡ false → Has xs x → t x ≡ false
  none-has t xs x none there = false_from_ne_true (t x) (λ passes. false≢true (sym none ∙ any-from t xs x there passes))

  -- nothing is found where no member passes
  pub find-none : (t : A → Bool) (xs : List A) (x : A) → find t xs ≡ None → Has xs x → t x ≡ false
  find-none t [] x none there = absurd there
  find-none t (y ∷ ys) x none there = elim (cases_Bool (t y)) [
    | inl e ↦ absurd (none-some y (sym (rw e at none)))
    | inr e ↦ by there e (find-none t ys x (rw e at none))
  ]
    where
      by : Has (y ∷ ys) x → t y ≡ false → (Has ys x → t x ≡ false) → t x ≡ false
      by (inl same) e rest = ap t (sym same) ∙ e
      by (inr h) e rest = rest h

  -- what is found passes
  pub find-passes : (t : A → Bool) (xs : List A) (x : A) → find t xs ≡ Some x → t x ≡ true
  find-passes t [] x found = absurd (none-some x found)
  find-passes t (y ∷ ys) x found = elim (cases_Bool (t y)) as (λ _. t x ≡ true) [
    | inl e ↦ let is : Some y ≡ Some x = rw e at found in ap t (sym (same_Some y x is)) ∙ e
    | inr e ↦ find-passes t ys x (rw e at found)
  ]

  pub in_append : (xs ys : List A) (x : A) → Has xs x → Has (xs ++ ys) x
  in_append [] ys x there = absurd there
  in_append (z ∷ zs) ys x (inl same) = inl same
  in_append (z ∷ zs) ys x (inr there) = inr (in_append zs ys x there)

  pub in_filter : (q : A → Bool) (xs : List A) (x : A) → Has xs x → q x ≡ true → Has (filter q xs) x
  in_filter q [] x there passes = absurd there
  in_filter q (y ∷ ys) x there passes = by (q y) refl there (λ h. in_filter q ys x h passes)
    where
      by : (b : Bool) → q y ≡ b → Has (y ∷ ys) x → (Has ys x → Has (filter q ys) x) → Has (cond b (y ∷ filter q ys) (filter q ys)) x
      by true is (inl same) rest = inl same
      by true is (inr h) rest = inr (rest h)
      by false is (inl same) rest = absurd (false≢true (sym is ∙ (ap q same ∙ passes)))
      by false is (inr h) rest = rest h

  pub of_filter : (q : A → Bool) (xs : List A) (x : A) → Has (filter q xs) x → Has xs x × (q x ≡ true)
  of_filter q [] x h = absurd h
  of_filter q (y ∷ ys) x h = by (q y) refl h (of_filter q ys x)
    where
      by : (b : Bool) → q y ≡ b → Has (cond b (y ∷ filter q ys) (filter q ys)) x → (Has (filter q ys) x → Has ys x × (q x ≡ true)) → Has (y ∷ ys) x × (q x ≡ true)
      by true is (inl same) rest = (inl same, sym (ap q same) ∙ is)
      by true is (inr h) rest = let it = rest h in (inr it.0, it.1)
      by false is h rest = let it = rest h in (inr it.0, it.1)

  pub pairwise-map : (t : A → A → Bool) (f : A → A) (xs : List A) → ((x y : A) → Has xs x → Has xs y → t x y ≡ true → t (f x) (f y) ≡ true) → pairwise t xs ≡ true → pairwise t (map f xs) ≡ true
  pairwise-map t f [] kept all = refl
  pairwise-map t f (x ∷ xs) kept all =
      let parts = and_parts (list_all (t x) xs) (pairwise t xs) all in
      let first : list_all (t (f x)) (map f xs) ≡ true =
      rw (list_all-map (t (f x)) f xs) (all-implied (t x) (λ y. t (f x) (f y)) xs (λ y h. kept x y (inl refl) (inr h)) parts.0) in
      and_from (list_all (t (f x)) (map f xs)) (pairwise t (map f xs)) first (pairwise-map t f xs (λ y z g h. kept y z (inr g) (inr h)) parts.1)

pub each-map : {A B : Type 0} (P : B → Type 0) (f : A → B) (xs : List A) → ((x : A) → Has xs x → P (f x)) → AllByRecursion P (map f xs)
each-map P f [] each = tt
each-map P f (x ∷ xs) each = (each x (inl refl), each-map P f xs (λ y h. each y (inr h)))

-- of a list filtered, what each member shows that passes
pub each-filter : {A : Type 0} (P Q : A → Type 0) (q : A → Bool) (xs : List A) → AllByRecursion P xs → ((x : A) → q x ≡ true → P x → Q x) → AllByRecursion Q (filter q xs)
each-filter P Q q [] all so = tt
each-filter P Q q (x ∷ xs) all so = by (q x) refl (each-filter P Q q xs all.1 so)
  where
    by : (b : Bool) → q x ≡ b → AllByRecursion Q (filter q xs) → AllByRecursion Q (cond b (x ∷ filter q xs) (filter q xs))
    by true is rest = (so x is all.0, rest)
    by false is rest = rest

-- each of the one list passes with each of the other, in whichever order
pub all-turned : {A B : Type 0} (t : A → B → Bool) (u : B → A → Bool) (xs : List A) (ys : List B) → ((x : A) (y : B) → t x y ≡ true → u y x ≡ true)
    → list_all (λ x. list_all (t x) ys) xs ≡ true → list_all (λ y. list_all (u y) xs) ys ≡ true
all-turned t u xs ys turn all =
    all-from (λ y. list_all (u y) xs) ys (λ y in_y. all-from (u y) xs (λ x in_x. turn x y (all-has (t x) ys y (all-has (λ z. list_all (t z) ys) xs x all in_x) in_y)))
