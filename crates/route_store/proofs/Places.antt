-- Slots with one route more and one fewer: what stands in them, and where.
use Rattle.std.proofs.Common.{◌≡◌, ◌==◌, map, ℕ, zero, suc, ◌≤◌, Bool, true, false, cond, not, List, [], ◌∷◌, ◌++◌, filter, length, Option, Some, None, is_some, slice_get, slice_set, refl, sym, ap, subst, ◌∙◌, arith, inl, inr}
use Rattle.std.specs.Bool.{Decides}
use Rattle.std.specs.List.{list_any, list_all, find}
use Rattle.std.specs.Option.{option_map}
use Rattle.std.proofs.lemmas.Bool.{cases_Bool, and_parts, or_parts, not-true, both_ways, false_from_ne_true}
use Rattle.std.proofs.lemmas.Option.{none-some, same_Some}
use Rattle.list_lemmas.proofs.Anys.{filter-others}
use Rattle.list_lemmas.specs.Pairwise.{pairwise}
use Rattle.networks.specs.declared.network.LinkRoute.{LinkRoute}
use Rattle.route_store.specs.Slots.{present, place_of, unlinked}

is-some-map : (o : Option ℕ) → is_some (option_map suc o) ≡ is_some o
is-some-map None = refl
is-some-map (Some n) = refl

pushed : (b : Bool) (n : ℕ) (o : Option ℕ) → option_map suc (cond b (Some n) o) ≡ cond b (Some (suc n)) (option_map suc o)
pushed true n o = refl
pushed false n o = refl

cleared : (b : Bool) (o : Option ℕ) → option_map suc (cond b None o) ≡ cond b None (option_map suc o)
cleared true o = refl
cleared false o = refl

module _ {X : Type 0} where
  pub present-append : (xs ys : List (Option X)) → present (xs ++ ys) ≡ present xs ++ present ys
  present-append [] ys = refl
  present-append (None ∷ xs) ys = present-append xs ys
  present-append (Some x ∷ xs) ys = ap (λ l. x ∷ l) (present-append xs ys)

  pub length-present : (xs : List (Option X)) → length (present xs) ≤ length xs
  length-present [] = omega arith
  length-present (None ∷ xs) = let rest = length-present xs in omega (arith, rest)
  length-present (Some x ∷ xs) = let rest = length-present xs in omega (arith, rest)

  pub place-any : (p : X → Bool) (xs : List (Option X)) → is_some (place_of p xs) ≡ list_any p (present xs)
  place-any p [] = refl
  place-any p (None ∷ xs) = is-some-map (place_of p xs) ∙ place-any p xs
  place-any p (Some x ∷ xs) = elim (cases_Bool (p x)) as (λ _. is_some (place_of p (Some x ∷ xs)) ≡ list_any p (present (Some x ∷ xs))) [
    | inl e ↦ rw e refl
    | inr e ↦ rw e (is-some-map (place_of p xs) ∙ place-any p xs)
  ]

  -- what a search finds stands at this place
  pub record IsFoundAt (p : X → Bool) (xs : List (Option X)) (i : ℕ) : Type 0 where
    pub item : X
    pub stands : slice_get xs i ≡ Some (Some item)
    pub found : find p (present xs) ≡ Some item
    pub passes : p item ≡ true

  pub place-found : (p : X → Bool) (xs : List (Option X)) (i : ℕ) → place_of p xs ≡ Some i → IsFoundAt p xs i
  place-found p [] i is = absurd (none-some i is)
  place-found p (None ∷ xs) i is = later (place_of p xs) (λ j found. place-found p xs j found) is
    where
      later : (o : Option ℕ) → ((j : ℕ) → o ≡ Some j → IsFoundAt p xs j) → option_map suc o ≡ Some i → IsFoundAt p (None ∷ xs) i
      later None rest is = absurd (none-some i is)
      later (Some j) rest is =
          let r = rest j refl in
          record { item = r.item; stands = ap (slice_get (None ∷ xs)) (sym (same_Some (suc j) i is)) ∙ r.stands; found = r.found; passes = r.passes }
  place-found p (Some x ∷ xs) i is = elim (cases_Bool (p x)) as (λ _. IsFoundAt p (Some x ∷ xs) i) [
    | inl e ↦ record { item = x; stands = ap (slice_get (Some x ∷ xs)) (sym (same_Some 0 i (rw e at is))); found = rw e refl; passes = e }
    | inr e ↦ later e (place_of p xs) (λ j found. place-found p xs j found) (rw e at is)
  ]
    where
      later : p x ≡ false → (o : Option ℕ) → ((j : ℕ) → o ≡ Some j → IsFoundAt p xs j) → option_map suc o ≡ Some i → IsFoundAt p (Some x ∷ xs) i
      later e None rest is = absurd (none-some i is)
      later e (Some j) rest is =
          let r = rest j refl in
          record { item = r.item; stands = ap (slice_get (Some x ∷ xs)) (sym (same_Some (suc j) i is)) ∙ r.stands; found = rw e r.found; passes = r.passes }

  pub place-none : (p : X → Bool) (xs : List (Option X)) → list_any p (present xs) ≡ false → place_of p xs ≡ None
  place-none p [] none = refl
  place-none p (None ∷ xs) none = ap (option_map suc) (place-none p xs none)
  place-none p (Some x ∷ xs) none =
      let parts = or_parts (p x) (list_any p (present xs)) none in
      rw parts.0 (ap (option_map suc) (place-none p xs parts.1))

-- items that a key tells apart
module _ {K X : Type 0} (eq : K → K → Bool) (same : (a b : K) → Decides (eq a b) (a ≡ b)) (key : X → K) where
  abbrev pub AreApart : List X → Type 0
  AreApart xs = pairwise (λ a b. not (eq (key a) (key b))) xs ≡ true

  turned : (a b : K) → eq a b ≡ false → eq b a ≡ false
  turned a b unlike = false_from_ne_true (eq b a) (λ h. both_ways (eq a b) unlike ((same a b).1 (sym ((same b a).0 h))))

  -- none of those that are apart from one item has its key
  pub apart-none : (x : X) (xs : List X) → list_all (λ y. not (eq (key x) (key y))) xs ≡ true → (k : K) → eq (key x) k ≡ true → list_any (λ y. eq (key y) k) xs ≡ false
  apart-none x [] apart k is = refl
  apart-none x (y ∷ ys) apart k is =
      let parts = and_parts (not (eq (key x) (key y))) (list_all (λ z. not (eq (key x) (key z))) ys) apart in
      let unlike : eq (key x) (key y) ≡ false = not-true _ parts.0 in
      let here : eq (key y) k ≡ false = false_from_ne_true (eq (key y) k) (λ h. both_ways (eq (key x) (key y)) unlike ((same (key x) (key y)).1 ((same (key x) k).0 is ∙ sym ((same (key y) k).0 h)))) in
      rw here (apart-none x ys parts.1 k is)

  pub place-push : (k : K) (xs : List (Option X)) (x : X) → list_any (λ y. eq (key y) (key x)) (present xs) ≡ false
      → place_of (λ y. eq (key y) k) (xs ++ Some x ∷ []) ≡ cond (eq (key x) k) (Some (length xs)) (place_of (λ y. eq (key y) k) xs)
  place-push k [] x none = elim (cases_Bool (eq (key x) k)) as (λ _. place_of (λ y. eq (key y) k) (Some x ∷ []) ≡ cond (eq (key x) k) (Some 0) (place_of (λ y. eq (key y) k) [])) [ inl e ↦ rw e refl | inr e ↦ rw e refl ]
  place-push k (None ∷ xs) x none = ap (option_map suc) (place-push k xs x none) ∙ pushed (eq (key x) k) (length xs) (place_of (λ y. eq (key y) k) xs)
  place-push k (Some y ∷ xs) x none =
      let parts = or_parts (eq (key y) (key x)) (list_any (λ z. eq (key z) (key x)) (present xs)) none in
      let Goal : Type 0 = place_of (λ z. eq (key z) k) (Some y ∷ (xs ++ Some x ∷ [])) ≡ cond (eq (key x) k) (Some (suc (length xs))) (place_of (λ z. eq (key z) k) (Some y ∷ xs)) in
      elim (cases_Bool (eq (key y) k)) as (λ _. Goal) [
        | inl e ↦
            let other : eq (key x) k ≡ false = false_from_ne_true (eq (key x) k) (λ h. both_ways (eq (key y) (key x)) parts.0 ((same (key y) (key x)).1 ((same (key y) k).0 e ∙ sym ((same (key x) k).0 h)))) in
            rw (e, other) refl
        | inr e ↦ rw e (ap (option_map suc) (place-push k xs x parts.1) ∙ pushed (eq (key x) k) (length xs) (place_of (λ z. eq (key z) k) xs))
      ]

  there : (xs : List (Option X)) (i : ℕ) (x : X) → slice_get xs i ≡ Some (Some x) → list_all (λ y. not (eq (key x) (key y))) (present xs) ≡ true → ⊥
  there [] i x is apart = none-some (Some x) is
  there (None ∷ xs) zero x is apart = absurd cc
  there (None ∷ xs) (suc i) x is apart = there xs i x is apart
  there (Some y ∷ xs) zero x is apart =
      let parts = and_parts (not (eq (key x) (key y))) (list_all (λ z. not (eq (key x) (key z))) (present xs)) apart in
      let one : y ≡ x = same_Some y x (same_Some (Some y) (Some x) is) in
      both_ways (eq (key x) (key y)) (not-true _ parts.0) ((same (key x) (key y)).1 (ap key (sym one)))
  there (Some y ∷ xs) (suc i) x is apart =
      there xs i x is (and_parts (not (eq (key x) (key y))) (list_all (λ z. not (eq (key x) (key z))) (present xs)) apart).1

  -- an item after one that is apart from the rest has another key
  pub unlike-later : (y : X) (xs : List (Option X)) (i : ℕ) (x : X) → slice_get xs i ≡ Some (Some x) → list_all (λ z. not (eq (key y) (key z))) (present xs) ≡ true → eq (key y) (key x) ≡ false
  unlike-later y [] i x is apart = absurd (none-some (Some x) is)
  unlike-later y (None ∷ xs) zero x is apart = absurd cc
  unlike-later y (None ∷ xs) (suc i) x is apart = unlike-later y xs i x is apart
  unlike-later y (Some z ∷ xs) zero x is apart =
      let parts = and_parts (not (eq (key y) (key z))) (list_all (λ w. not (eq (key y) (key w))) (present xs)) apart in
      let one : z ≡ x = same_Some z x (same_Some (Some z) (Some x) is) in
      ap (λ w. eq (key y) (key w)) (sym one) ∙ not-true _ parts.0
  unlike-later y (Some z ∷ xs) (suc i) x is apart =
      unlike-later y xs i x is (and_parts (not (eq (key y) (key z))) (list_all (λ w. not (eq (key y) (key w))) (present xs)) apart).1

  -- the slot of an item emptied
  pub present-clear : (xs : List (Option X)) (i : ℕ) (x : X) → slice_get xs i ≡ Some (Some x) → AreApart (present xs)
      → present (slice_set xs i None) ≡ filter (λ y. not (eq (key y) (key x))) (present xs)
  present-clear [] i x is apart = absurd (none-some (Some x) is)
  present-clear (None ∷ xs) zero x is apart = absurd cc
  present-clear (None ∷ xs) (suc i) x is apart = present-clear xs i x is apart
  present-clear (Some y ∷ xs) zero x is apart =
      let parts = and_parts (list_all (λ z. not (eq (key y) (key z))) (present xs)) (pairwise (λ a b. not (eq (key a) (key b))) (present xs)) apart in
      let one : y ≡ x = same_Some y x (same_Some (Some y) (Some x) is) in
      let here : eq (key y) (key x) ≡ true = (same (key y) (key x)).1 (ap key one) in
      rw here (sym (filter-others (λ z. eq (key z) (key x)) (present xs) (apart-none y (present xs) parts.0 (key x) here)))
  present-clear (Some y ∷ xs) (suc i) x is apart =
      let parts = and_parts (list_all (λ z. not (eq (key y) (key z))) (present xs)) (pairwise (λ a b. not (eq (key a) (key b))) (present xs)) apart in
      rw (unlike-later y xs i x is parts.0) (ap (λ l. y ∷ l) (present-clear xs i x is parts.1))

  pub place-clear : (k : K) (xs : List (Option X)) (i : ℕ) (x : X) → slice_get xs i ≡ Some (Some x) → AreApart (present xs)
      → place_of (λ y. eq (key y) k) (slice_set xs i None) ≡ cond (eq (key x) k) None (place_of (λ y. eq (key y) k) xs)
  place-clear k [] i x is apart = absurd (none-some (Some x) is)
  place-clear k (None ∷ xs) zero x is apart = absurd cc
  place-clear k (None ∷ xs) (suc i) x is apart = ap (option_map suc) (place-clear k xs i x is apart) ∙ cleared (eq (key x) k) (place_of (λ y. eq (key y) k) xs)
  place-clear k (Some y ∷ xs) zero x is apart =
      let parts = and_parts (list_all (λ z. not (eq (key y) (key z))) (present xs)) (pairwise (λ a b. not (eq (key a) (key b))) (present xs)) apart in
      let one : y ≡ x = same_Some y x (same_Some (Some y) (Some x) is) in
      subst (λ z. option_map suc (place_of (λ y. eq (key y) k) xs) ≡ cond (eq (key z) k) None (place_of (λ y. eq (key y) k) (Some y ∷ xs))) one
      (elim (cases_Bool (eq (key y) k)) as (λ _. option_map suc (place_of (λ y. eq (key y) k) xs) ≡ cond (eq (key y) k) None (place_of (λ y. eq (key y) k) (Some y ∷ xs))) [
        | inl e ↦ rw e (ap (option_map suc) (place-none (λ z. eq (key z) k) xs (apart-none y (present xs) parts.0 k e)))
        | inr e ↦ rw e refl
      ])
  place-clear k (Some y ∷ xs) (suc i) x is apart =
      let parts = and_parts (list_all (λ z. not (eq (key y) (key z))) (present xs)) (pairwise (λ a b. not (eq (key a) (key b))) (present xs)) apart in
      let unlike = unlike-later y xs i x is parts.0 in
      let Goal : Type 0 = place_of (λ y. eq (key y) k) (slice_set (Some y ∷ xs) (suc i) None) ≡ cond (eq (key x) k) None (place_of (λ y. eq (key y) k) (Some y ∷ xs)) in
      elim (cases_Bool (eq (key y) k)) as (λ _. Goal) [
        | inl e ↦
            let other : eq (key x) k ≡ false = false_from_ne_true (eq (key x) k) (λ h. both_ways (eq (key y) (key x)) unlike ((same (key y) (key x)).1 ((same (key y) k).0 e ∙ sym ((same (key x) k).0 h)))) in
            rw (e, other) refl
        | inr e ↦ rw e (ap (option_map suc) (place-clear k xs i x is parts.1) ∙ cleared (eq (key x) k) (place_of (λ y. eq (key y) k) xs))
      ]

-- the slots of one link emptied
pub present-unlinked : (link : ℕ) (slots : List (Option LinkRoute)) → present (map (unlinked link) slots) ≡ filter (λ r. not (r.link == link)) (present slots)
present-unlinked link [] = refl
present-unlinked link (None ∷ slots) = present-unlinked link slots
present-unlinked link (Some r ∷ slots) = elim (cases_Bool (r.link == link)) as (λ _. present (map (unlinked link) (Some r ∷ slots)) ≡ filter (λ r. not (r.link == link)) (present (Some r ∷ slots))) [
  | inl e ↦ rw e (present-unlinked link slots)
  | inr e ↦ rw e (ap (λ l. r ∷ l) (present-unlinked link slots))
]
