-- Lists of numbers of which none stands twice: one more, some fewer, and the parts of one.
use Rattle.std.proofs.Common.{◌≡◌, ℕ, zero, suc, ◌==◌, Bool, true, false, cond, not, List, [], ◌∷◌, ◌++◌, map, filter, slice_get, Some, refl, sym, ap, ◌∙◌, inl, inr}
use Rattle.std.specs.List.{list_any}
use Rattle.std.proofs.lemmas.Bool.{cases_Bool, and_from, and_parts, or_parts, or_right, not-true, not_from_false, eqb-true, false≢true}
use Rattle.std.proofs.lemmas.List.Folds.{list_any-append}
use Rattle.list_lemmas.proofs.Anys.{none-insert, none-push, none-filter, any-map}
use Rattle.list_lemmas.proofs.Numbers.{unlike-sym, is_there}
use Rattle.networks.specs.Lists.{are_distinct}

pub are_distinct-filter : {X : Type 0} (f : X → ℕ) (q : X → Bool) (xs : List X) → are_distinct (map f xs) ≡ true → are_distinct (map f (filter q xs)) ≡ true
are_distinct-filter f q [] distinct = refl
are_distinct-filter f q (x ∷ xs) distinct =
    let parts = and_parts (not (list_any (λ m. m == f x) (map f xs))) (are_distinct (map f xs)) distinct in
    let absent : list_any (λ y. f y == f x) xs ≡ false = sym (any-map f (λ m. m == f x) xs) ∙ not-true _ parts.0 in
    kept (q x) (are_distinct-filter f q xs parts.1) (any-map f (λ m. m == f x) (filter q xs) ∙ none-filter (λ y. f y == f x) q xs absent)
  where
    kept : (b : Bool) → are_distinct (map f (filter q xs)) ≡ true → list_any (λ m. m == f x) (map f (filter q xs)) ≡ false
        → are_distinct (map f (cond b (x ∷ filter q xs) (filter q xs))) ≡ true
    kept true rest absent = and_from _ _ (not_from_false _ absent) rest
    kept false rest absent = rest

-- a number that isn't there is put between
pub are_distinct-insert : (xs ys : List ℕ) (n : ℕ) → are_distinct (xs ++ ys) ≡ true → list_any (λ m. m == n) (xs ++ ys) ≡ false → are_distinct (xs ++ n ∷ ys) ≡ true
are_distinct-insert [] ys n distinct absent = and_from _ _ (not_from_false _ absent) distinct
are_distinct-insert (x ∷ xs) ys n distinct absent =
    let parts = and_parts (not (list_any (λ m. m == x) (xs ++ ys))) (are_distinct (xs ++ ys)) distinct in
    let others = or_parts (x == n) (list_any (λ m. m == n) (xs ++ ys)) absent in
    and_from _ _ (not_from_false _ (none-insert (λ m. m == x) xs ys n (not-true _ parts.0) (unlike-sym x n others.0))) (are_distinct-insert xs ys n parts.1 others.1)

pub are_distinct-push : (xs : List ℕ) (n : ℕ) → are_distinct xs ≡ true → list_any (λ m. m == n) xs ≡ false → are_distinct (xs ++ n ∷ []) ≡ true
are_distinct-push [] n distinct absent = refl
are_distinct-push (x ∷ xs) n distinct absent =
    let parts = and_parts (not (list_any (λ m. m == x) xs)) (are_distinct xs) distinct in
    let others = or_parts (x == n) (list_any (λ m. m == n) xs) absent in
    and_from _ _ (not_from_false _ (none-push (λ m. m == x) xs n (not-true _ parts.0) (unlike-sym x n others.0))) (are_distinct-push xs n parts.1 others.1)

-- the second of two lists that are distinct together
pub distinct_behind : (xs ys : List ℕ) → are_distinct (xs ++ ys) ≡ true → are_distinct ys ≡ true
distinct_behind [] ys distinct = distinct
distinct_behind (x ∷ xs) ys distinct = distinct_behind xs ys (and_parts (not (list_any (λ m. m == x) (xs ++ ys))) (are_distinct (xs ++ ys)) distinct).1

-- no number stands in both
pub apart_front : (xs ys : List ℕ) (i : ℕ) → are_distinct (xs ++ ys) ≡ true → list_any (λ m. m == i) ys ≡ true → list_any (λ m. m == i) xs ≡ false
apart_front [] ys i distinct there = refl
apart_front (x ∷ xs) ys i distinct there =
    let parts = and_parts (not (list_any (λ m. m == x) (xs ++ ys))) (are_distinct (xs ++ ys)) distinct in
    elim (cases_Bool (x == i)) [
      | inl same ↦
          let is : x ≡ i = eqb-true x i same in
          let again : list_any (λ m. m == x) (xs ++ ys) ≡ true =
          list_any-append (λ m. m == x) xs ys ∙ or_right (list_any (λ m. m == x) xs) (list_any (λ m. m == x) ys) (ap (λ j. list_any (λ m. m == j) ys) is ∙ there) in
          absurd (false≢true (rw again at parts.0))
      | inr other ↦ rw other (apart_front xs ys i parts.1 there)
    ]

pub apart_behind : (xs ys : List ℕ) (i : ℕ) → are_distinct (xs ++ ys) ≡ true → list_any (λ m. m == i) xs ≡ true → list_any (λ m. m == i) ys ≡ false
apart_behind xs ys i distinct there = elim (cases_Bool (list_any (λ m. m == i) ys)) as (λ _. list_any (λ m. m == i) ys ≡ false) [
  | inl also ↦ absurd (false≢true (sym (apart_front xs ys i distinct also) ∙ there))
  | inr none ↦ none
]

no_second : (m : ℕ) (ms : List ℕ) (j n : ℕ) → are_distinct (m ∷ ms) ≡ true → Some m ≡ Some n → slice_get ms j ≡ Some n → ⊥
no_second m ms j n distinct first second =
    let there : list_any (λ k. k == m) ms ≡ true = is_there ms j m (second ∙ sym first) in
    false≢true (rw there at (and_parts (not (list_any (λ k. k == m) ms)) (are_distinct ms) distinct).0)

-- each number stands at one place
pub one_number : (ns : List ℕ) (i j n : ℕ) → are_distinct ns ≡ true → slice_get ns i ≡ Some n → slice_get ns j ≡ Some n → i ≡ j
one_number [] i j n distinct at_i at_j = absurd cc
one_number (m ∷ ms) zero zero n distinct at_i at_j = refl
one_number (m ∷ ms) zero (suc j) n distinct at_i at_j = absurd (no_second m ms j n distinct at_i at_j)
one_number (m ∷ ms) (suc i) zero n distinct at_i at_j = absurd (no_second m ms i n distinct at_j at_i)
one_number (m ∷ ms) (suc i) (suc j) n distinct at_i at_j =
    ap suc (one_number ms i j n (and_parts (not (list_any (λ k. k == m) ms)) (are_distinct ms) distinct).1 at_i at_j)
