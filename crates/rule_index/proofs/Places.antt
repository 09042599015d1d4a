-- Places in sorted lists.
use Rattle.std.proofs.Common.{◌≡◌, ℕ, zero, suc, ◌+◌, ◌<◌, Bool, true, false, cond, List, [], ◌∷◌, length, get_or, refl, ap, arith, drop}
use Rattle.std.specs.List.{insert, remove, AllByRecursion}
use Rattle.rule_index.specs.declared.spot.Spot.{Spot}
use Rattle.rule_index.specs.Spots.{below}
use Rattle.rule_index.specs.Sorted.{Rises, place_of, put, cut}

pub each-at : {X : Type 0} (P : X → Type 0) (xs : List X) (j : ℕ) (d : X) → AllByRecursion P xs → j < length xs → P (get_or xs j d)
each-at P [] j d e h = absurd (omega arith)
each-at P (x ∷ xs) zero d e h = e.0
each-at P (x ∷ xs) (suc j) d e h = each-at P xs j d e.1 (omega arith)

pub each-drop : {X : Type 0} (P : X → Type 0) (n : ℕ) (xs : List X) → AllByRecursion P xs → AllByRecursion P (drop n xs)
each-drop P zero xs e = e
each-drop P (suc n) [] e = tt
each-drop P (suc n) (x ∷ xs) e = each-drop P n xs e.1

pub rises-drop : (n : ℕ) (xs : List Spot) → Rises xs → Rises (drop n xs)
rises-drop zero xs e = e
rises-drop (suc n) [] e = tt
rises-drop (suc n) (x ∷ xs) e = rises-drop n xs e.1

pub rises-at : (xs : List Spot) (i j : ℕ) (d : Spot) → Rises xs → i < j → j < length xs → below (get_or xs i d) (get_or xs j d) ≡ true
rises-at [] i j d r h k = absurd (omega arith)
rises-at (x ∷ xs) i zero d r h k = absurd (omega arith)
rises-at (x ∷ xs) zero (suc j) d r h k = each-at (λ y. below x y ≡ true) xs j d r.0 (omega arith)
rises-at (x ∷ xs) (suc i) (suc j) d r h k = rises-at xs i j d r.1 (omega arith) (omega arith)

one-add : (n : ℕ) → suc n ≡ 1 + n
one-add n = omega arith

pub put-insert : (s : Spot) (xs : List Spot) → put s xs ≡ insert xs (place_of s xs) s
put-insert s [] = refl
put-insert s (x ∷ xs) = step (below x s) (place_of s xs) (put-insert s xs)
  where
    step : (b : Bool) (n : ℕ) → put s xs ≡ insert xs n s → cond b (x ∷ put s xs) (s ∷ x ∷ xs) ≡ insert (x ∷ xs) (cond b (1 + n) 0) s
    step true n e = rw (← one-add n) (ap (λ l. x ∷ l) e)
    step false n e = refl

pub cut-remove : (s : Spot) (xs : List Spot) → cut s xs ≡ remove xs (place_of s xs)
cut-remove s [] = refl
cut-remove s (x ∷ xs) = step (below x s) (place_of s xs) (cut-remove s xs)
  where
    step : (b : Bool) (n : ℕ) → cut s xs ≡ remove xs n → cond b (x ∷ cut s xs) xs ≡ remove (x ∷ xs) (cond b (1 + n) 0)
    step true n e = rw (← one-add n) (ap (λ l. x ∷ l) e)
    step false n e = refl
