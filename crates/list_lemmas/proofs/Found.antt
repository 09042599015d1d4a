-- What a search by key finds in a list of distinct keys, with one item more and without some.
use Rattle.std.proofs.Common.{Bor, ◌≡◌, ℕ, ◌||◌, Bool, true, false, cond, not, List, [], ◌∷◌, ◌++◌, filter, Option, Some, None, Result, Ok, Err, IsOk, OnOk, is_ok, is_some, if◌then◌else◌, true≢false, refl, sym, ap, ◌∙◌, inl, inr, nat_eq}
use Rattle.std.specs.Bool.{Decides}
use Rattle.std.specs.List.{list_any, find}
use Rattle.std.specs.Option.{option_map, option_copied}
use Rattle.std.proofs.lemmas.Bool.{cases_Bool, both_ways, or_parts, false_from_ne_true, eq-eqb, eqb-true}

module _ {K X V : Type 0} (eq : K → K → Bool) (same : (a b : K) → Decides (eq a b) (a ≡ b)) (key : X → K) (val : X → V) where
  abbrev pub found : K → List X → Option V
  found k xs = option_map val (find (λ x. eq (key x) k) xs)

  pub found-push : (k : K) (xs : List X) (x : X) → list_any (λ y. eq (key y) (key x)) xs ≡ false → found k (xs ++ x ∷ []) ≡ cond (eq (key x) k) (Some (val x)) (found k xs)
  found-push k [] x none = elim (cases_Bool (eq (key x) k)) as (λ _. found k (x ∷ []) ≡ cond (eq (key x) k) (Some (val x)) None) [ inl e ↦ rw e refl | inr e ↦ rw e refl ]
  found-push k (y ∷ ys) x none =
      let parts = or_parts (eq (key y) (key x)) (list_any (λ z. eq (key z) (key x)) ys) none in
      let rest = found-push k ys x parts.1 in
      elim (cases_Bool (eq (key y) k)) as (λ _. found k (y ∷ (ys ++ x ∷ [])) ≡ cond (eq (key x) k) (Some (val x)) (found k (y ∷ ys))) [
        | inl e ↦
            let other : eq (key x) k ≡ false = false_from_ne_true (eq (key x) k) (λ h. both_ways (eq (key y) (key x)) parts.0 ((same (key y) (key x)).1 ((same (key y) k).0 e ∙ sym ((same (key x) k).0 h)))) in
            rw (e, other) refl
        | inr e ↦ rw e rest
      ]

  -- the items of one key taken out
  pub found-filter : (k gone : K) (xs : List X) → found k (filter (λ x. not (eq (key x) gone)) xs) ≡ cond (eq gone k) None (found k xs)
  found-filter k gone [] = elim (cases_Bool (eq gone k)) as (λ _. found k [] ≡ cond (eq gone k) None (found k [])) [ inl e ↦ rw e refl | inr e ↦ rw e refl ]
  found-filter k gone (x ∷ xs) =
      let rest = found-filter k gone xs in
      elim (cases_Bool (eq (key x) gone)) as (λ _. found k (filter (λ y. not (eq (key y) gone)) (x ∷ xs)) ≡ cond (eq gone k) None (found k (x ∷ xs))) [
        | inl drops ↦
            elim (cases_Bool (eq (key x) k)) as (λ _. found k (filter (λ y. not (eq (key y) gone)) (x ∷ xs)) ≡ cond (eq gone k) None (found k (x ∷ xs))) [
              | inl e ↦
                  let is : eq gone k ≡ true = (same gone k).1 (sym ((same (key x) gone).0 drops) ∙ (same (key x) k).0 e) in
                  rw (drops, is) (rw is at rest)
              | inr e ↦ rw (drops, e) rest
            ]
        | inr stays ↦
            elim (cases_Bool (eq (key x) k)) as (λ _. found k (filter (λ y. not (eq (key y) gone)) (x ∷ xs)) ≡ cond (eq gone k) None (found k (x ∷ xs))) [
              | inl e ↦
                  let other : eq gone k ≡ false = false_from_ne_true (eq gone k) (λ h. both_ways (eq (key x) gone) stays ((same (key x) gone).1 ((same (key x) k).0 e ∙ sym ((same gone k).0 h)))) in
                  rw (stays, e, other) refl
              | inr e ↦ rw (stays, e) rest
            ]
      ]

-- what a result that is `Ok` ensures
pub on-ok : {T E : Type 0} (r : Result T E) (P : Type 0) → IsOk r → OnOk r P → P
on-ok (Ok x) P ok on = on
on-ok (Err e) P ok on = absurd (true≢false (sym ok))

pub nat-Decides : (a b : ℕ) → Decides (nat_eq a b) (a ≡ b)
nat-Decides a b = (eqb-true a b, eq-eqb a b)

pub then-at_ok : {T E X : Type 0} (r : Result T E) (a b : X) → IsOk r → (if is_ok r then a else b) ≡ a
then-at_ok r a b ok = rw ok refl

pub copied-map : {X Y : Type 0} (f : X → Y) (o : Option (Bor X)) → option_map (λ (b : Bor X). f b.now) o ≡ option_map f (option_copied o)
copied-map f None = refl
copied-map f (Some b) = refl

pub some-any : {X V : Type 0} (p : X → Bool) (val : X → V) (xs : List X) → is_some (option_map val (find p xs)) ≡ list_any p xs
some-any p val [] = refl
some-any p val (x ∷ xs) = elim (cases_Bool (p x)) as (λ _. is_some (option_map val (find p (x ∷ xs))) ≡ list_any p (x ∷ xs)) [ inl e ↦ rw e refl | inr e ↦ rw e (some-any p val xs) ]

or-four : (a b c d : Bool) → ((a || b) || (c || d)) ≡ ((a || c) || (b || d))
or-four true b c d = refl
or-four false true true d = refl
or-four false true false d = refl
or-four false false c d = refl

pub any-or : {X : Type 0} (p q : X → Bool) (xs : List X) → (list_any p xs || list_any q xs) ≡ list_any (λ x. p x || q x) xs
any-or p q [] = refl
any-or p q (x ∷ xs) = or-four (p x) (list_any p xs) (q x) (list_any q xs) ∙ ap (λ b. (p x || q x) || b) (any-or p q xs)

pub find-none-any : {X : Type 0} (p : X → Bool) (xs : List X) → list_any p xs ≡ false → find p xs ≡ None
find-none-any p [] none = refl
find-none-any p (x ∷ xs) none = let parts = or_parts (p x) (list_any p xs) none in rw parts.0 (find-none-any p xs parts.1)
