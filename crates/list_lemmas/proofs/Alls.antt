-- What holds of each element of a list.
use Rattle.std.proofs.Common.{◌≡◌, ℕ, zero, suc, Bool, true, false, cond, List, [], ◌∷◌, ◌++◌, reverse, take, map, filter, slice_get, Some, refl, subst}
use Rattle.std.specs.Prelude.{flat_map}
use Rattle.std.specs.List.{AllByRecursion}
use Rattle.std.proofs.lemmas.List.{reverse-append}

module _ {X : Type 0} (P : X → Type 0) where
  -- the element at a place, and the one among others
  pub all-at : (xs : List X) (place : ℕ) (x : X) → AllByRecursion P xs → slice_get xs place ≡ Some x → P x
  all-at [] place x h at = absurd cc
  all-at (y ∷ ys) zero x h at = let is : y ≡ x = cc in subst P is h.0
  all-at (y ∷ ys) (suc place) x h at = all-at ys place x h.1 at

  pub all-middle : (xs ys : List X) (x : X) → AllByRecursion P (xs ++ x ∷ ys) → P x
  all-middle [] ys x h = h.0
  all-middle (y ∷ xs) ys x h = all-middle xs ys x h.1

  pub all-from : (xs : List X) → ((place : ℕ) (x : X) → slice_get xs place ≡ Some x → P x) → AllByRecursion P xs
  all-from [] h = tt
  all-from (x ∷ xs) h = (h 0 x refl, all-from xs (λ place y at. h (suc place) y at))

  pub all-append : (xs ys : List X) → AllByRecursion P xs → AllByRecursion P ys → AllByRecursion P (xs ++ ys)
  all-append [] ys h k = k
  all-append (x ∷ xs) ys h k = (h.0, all-append xs ys h.1 k)

  pub all-append_parts : (xs ys : List X) → AllByRecursion P (xs ++ ys) → AllByRecursion P xs × AllByRecursion P ys
  all-append_parts [] ys h = (tt, h)
  all-append_parts (x ∷ xs) ys h = let rest = all-append_parts xs ys h.1 in ((h.0, rest.0), rest.1)

  pub all-push : (xs : List X) (x : X) → AllByRecursion P xs → P x → AllByRecursion P (xs ++ x ∷ [])
  all-push xs x h here = all-append xs (x ∷ []) h (here, tt)

  pub all-insert : (xs ys : List X) (x : X) → AllByRecursion P (xs ++ ys) → P x → AllByRecursion P (xs ++ x ∷ ys)
  all-insert [] ys x h here = (here, h)
  all-insert (y ∷ xs) ys x h here = (h.0, all-insert xs ys x h.1 here)

  pub all-replaced : (xs ys : List X) (x y : X) → AllByRecursion P (xs ++ x ∷ ys) → P y → AllByRecursion P (xs ++ y ∷ ys)
  all-replaced [] ys x y h here = (here, h.1)
  all-replaced (z ∷ xs) ys x y h here = (h.0, all-replaced xs ys x y h.1 here)

  pub all-reverse : (xs : List X) → AllByRecursion P xs → AllByRecursion P (reverse xs)
  all-reverse [] h = tt
  all-reverse (x ∷ xs) h = rw (reverse-append (x ∷ []) xs) (all-append (reverse xs) (x ∷ []) (all-reverse xs h.1) (h.0, tt))

  pub all-take : (n : ℕ) (xs : List X) → AllByRecursion P xs → AllByRecursion P (take n xs)
  all-take zero xs h = tt
  all-take (suc n) [] h = tt
  all-take (suc n) (x ∷ xs) h = (h.0, all-take n xs h.1)

  pub all-filter : (q : X → Bool) (xs : List X) → AllByRecursion P xs → AllByRecursion P (filter q xs)
  all-filter q [] h = tt
  all-filter q (x ∷ xs) h = kept (q x) (all-filter q xs h.1)
    where
      kept : (b : Bool) → AllByRecursion P (filter q xs) → AllByRecursion P (cond b (x ∷ filter q xs) (filter q xs))
      kept true rest = (h.0, rest)
      kept false rest = rest

  -- lists joined end to end
  pub all-flat : {N : Type 0} (f : N → List X) (ns : List N) → AllByRecursion (λ n. AllByRecursion P (f n)) ns → AllByRecursion P (flat_map f ns)
  all-flat f [] h = tt
  all-flat f (n ∷ ns) h = all-append (f n) (flat_map f ns) h.0 (all-flat f ns h.1)

  pub all-part : {N : Type 0} (f : N → List X) (ns : List N) (place : ℕ) (n : N) → AllByRecursion P (flat_map f ns) → slice_get ns place ≡ Some n → AllByRecursion P (f n)
  all-part f [] place n h at = absurd cc
  all-part f (m ∷ ms) zero n h at = let is : m ≡ n = cc in subst (λ k. AllByRecursion P (f k)) is (all-append_parts (f m) (flat_map f ms) h).0
  all-part f (m ∷ ms) (suc place) n h at = all-part f ms place n (all-append_parts (f m) (flat_map f ms) h).1 at

pub all-map : {X Y : Type 0} (P : X → Type 0) (Q : Y → Type 0) (f : X → Y) → ((x : X) → P x → Q (f x)) → (xs : List X) → AllByRecursion P xs → AllByRecursion Q (map f xs)
all-map P Q f each [] h = tt
all-map P Q f each (x ∷ xs) h = (each x h.0, all-map P Q f each xs h.1)

pub all-mapped : {X Y : Type 0} (P : Y → Type 0) (f : X → Y) (xs : List X) → AllByRecursion (λ x. P (f x)) xs → AllByRecursion P (map f xs)
all-mapped P f xs h = all-map (λ x. P (f x)) P f (λ x here. here) xs h

pub all-weaker : {X : Type 0} (P Q : X → Type 0) → ((x : X) → P x → Q x) → (xs : List X) → AllByRecursion P xs → AllByRecursion Q xs
all-weaker P Q so [] h = tt
all-weaker P Q so (x ∷ xs) h = (so x h.0, all-weaker P Q so xs h.1)
