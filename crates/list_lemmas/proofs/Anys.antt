-- Lists of which no element passes a test, and of which one does.
use Rattle.std.proofs.Common.{◌≡◌, ◌≤◌, ◌||◌, Bool, true, false, cond, not, List, [], ◌∷◌, ◌++◌, length, map, filter, refl, ap, arith}
use Rattle.std.specs.List.{list_any}
use Rattle.std.proofs.lemmas.Bool.{or_from, or_parts}

module _ {X : Type 0} where
  pub none-insert : (p : X → Bool) (xs ys : List X) (x : X) → list_any p (xs ++ ys) ≡ false → p x ≡ false → list_any p (xs ++ x ∷ ys) ≡ false
  none-insert p [] ys x none unlike = or_from (p x) (list_any p ys) unlike none
  none-insert p (y ∷ xs) ys x none unlike =
      let parts = or_parts (p y) (list_any p (xs ++ ys)) none in
      or_from (p y) (list_any p (xs ++ x ∷ ys)) parts.0 (none-insert p xs ys x parts.1 unlike)

  pub none-push : (p : X → Bool) (xs : List X) (x : X) → list_any p xs ≡ false → p x ≡ false → list_any p (xs ++ x ∷ []) ≡ false
  none-push p [] x none unlike = or_from (p x) false unlike refl
  none-push p (y ∷ xs) x none unlike =
      let parts = or_parts (p y) (list_any p xs) none in
      or_from (p y) (list_any p (xs ++ x ∷ [])) parts.0 (none-push p xs x parts.1 unlike)

  pub none-filter : (p q : X → Bool) (xs : List X) → list_any p xs ≡ false → list_any p (filter q xs) ≡ false
  none-filter p q [] none = refl
  none-filter p q (x ∷ xs) none =
      let parts = or_parts (p x) (list_any p xs) none in
      kept (q x) (none-filter p q xs parts.1) parts.0
    where
      kept : (b : Bool) → list_any p (filter q xs) ≡ false → p x ≡ false → list_any p (cond b (x ∷ filter q xs) (filter q xs)) ≡ false
      kept true rest here = or_from (p x) (list_any p (filter q xs)) here rest
      kept false rest here = rest

  -- a test that fewer pass
  pub none-weaker : (p q : X → Bool) → ((x : X) → q x ≡ false → p x ≡ false) → (xs : List X) → list_any q xs ≡ false → list_any p xs ≡ false
  none-weaker p q less [] none = refl
  none-weaker p q less (x ∷ xs) none = let parts = or_parts (q x) (list_any q xs) none in rw (less x parts.0) (none-weaker p q less xs parts.1)

  -- what a filter makes of such a list
  pub filter-none : (p : X → Bool) (xs : List X) → list_any p xs ≡ false → filter p xs ≡ []
  filter-none p [] none = refl
  filter-none p (x ∷ xs) none = let parts = or_parts (p x) (list_any p xs) none in rw parts.0 (filter-none p xs parts.1)

  pub filter-others : (p : X → Bool) (xs : List X) → list_any p xs ≡ false → filter (λ x. not (p x)) xs ≡ xs
  filter-others p [] none = refl
  filter-others p (x ∷ xs) none = let parts = or_parts (p x) (list_any p xs) none in rw parts.0 (ap (λ rest. x ∷ rest) (filter-others p xs parts.1))

  pub any-map : {Y : Type 0} (f : X → Y) (p : Y → Bool) (xs : List X) → list_any p (map f xs) ≡ list_any (λ x. p (f x)) xs
  any-map f p [] = refl
  any-map f p (x ∷ xs) = ap (λ b. p (f x) || b) (any-map f p xs)

  pub length-filter-le : (p : X → Bool) (xs : List X) → length (filter p xs) ≤ length xs
  length-filter-le p [] = omega arith
  length-filter-le p (x ∷ xs) = kept (p x) (length-filter-le p xs)
    where
      kept : (b : Bool) → length (filter p xs) ≤ length xs → length (cond b (x ∷ filter p xs) (filter p xs)) ≤ length (x ∷ xs)
      kept true rest = omega arith
      kept false rest = omega arith
