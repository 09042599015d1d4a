-- Parts of lists.
use Rattle.std.proofs.Common.{◌≡◌, ℕ, zero, suc, ◌+◌, ◌-◌, ◌<◌, ◌≤◌, List, [], ◌∷◌, ◌++◌, length, take, drop, set, refl, sym, ◌∙◌, ap, arith, slice_get, Some}
use Rattle.std.specs.List.{AllByRecursion, insert, remove}
use Rattle.std.proofs.lemmas.Option.{none-some, same_Some}
use Rattle.std.proofs.lemmas.List.{append-nil, take_all, drop_all, drop-drop, drop_at, drop-append-le}
use Rattle.std.proofs.lemmas.List.Edits.{insert-append_left, insert-append_right, remove-append_left, remove-append_right}

module _ {X : Type 0} where
  pub all-set : (P : X → Type 0) (xs : List X) (k : ℕ) (y : X) → AllByRecursion P xs → P y → AllByRecursion P (set xs k y)
  all-set P [] k y h e = tt
  all-set P (x ∷ xs) zero y h e = (e, h.1)
  all-set P (x ∷ xs) (suc k) y h e = (h.0, all-set P xs k y h.1 e)

  pub all-drop : (P : X → Type 0) (n : ℕ) (xs : List X) → AllByRecursion P xs → AllByRecursion P (drop n xs)
  all-drop P zero xs h = h
  all-drop P (suc n) [] h = tt
  all-drop P (suc n) (x ∷ xs) h = all-drop P n xs h.1

  -- a list is what stands before a place, what stands there and what stands after it
  pub split : (xs : List X) (k : ℕ) (x : X) → slice_get xs k ≡ Some x → xs ≡ take k xs ++ x ∷ drop (suc k) xs
  split [] k x h = absurd (none-some x h)
  split (y ∷ ys) zero x h = ap (λ z. z ∷ ys) (same_Some y x h)
  split (y ∷ ys) (suc k) x h = ap (λ l. y ∷ l) (split ys k x h)

  pub set-split : (xs : List X) (k : ℕ) (x y : X) → slice_get xs k ≡ Some x → set xs k y ≡ take k xs ++ y ∷ drop (suc k) xs
  set-split [] k x y h = absurd (none-some x h)
  set-split (z ∷ zs) zero x y h = refl
  set-split (z ∷ zs) (suc k) x y h = ap (λ l. z ∷ l) (set-split zs k x y h)

  pub head-of-drop : (xs : List X) (k : ℕ) (x : X) (rest : List X) → drop k xs ≡ x ∷ rest → (slice_get xs k ≡ Some x) × (drop (suc k) xs ≡ rest)
  head-of-drop [] zero x rest h = cc
  head-of-drop [] (suc k) x rest h = cc
  head-of-drop (y ∷ ys) zero x rest h =
      let e : y ≡ x = cc in
      let f : ys ≡ rest = cc in
      (ap Some e, f)
  head-of-drop (y ∷ ys) (suc k) x rest h = head-of-drop ys k x rest h

  pub remove-past : (xs : List X) (k : ℕ) → length xs ≤ k → remove xs k ≡ xs
  remove-past xs k le = (λ i. take_all k xs le i ++ drop_all (suc k) xs (omega arith) i) ∙ append-nil xs

  -- two in place of one
  pub insert-next : (xs : List X) (k : ℕ) (x y z : X) → slice_get xs k ≡ Some x → insert (set xs k y) (suc k) z ≡ take k xs ++ (y ∷ z ∷ drop (suc k) xs)
  insert-next [] k x y z h = absurd (none-some x h)
  insert-next (w ∷ ws) zero x y z h = refl
  insert-next (w ∷ ws) (suc k) x y z h = ap (λ l. w ∷ l) (insert-next ws k x y z h)

  -- an edit in the middle of three lists
  module _ (a b c : List X) (k : ℕ) (le : k ≤ length b) where
    pub drop-middle : drop (length a + k) (a ++ (b ++ c)) ≡ drop k b ++ c
    drop-middle = sym (drop-drop k (length a) (a ++ (b ++ c))) ∙ ap (drop k) (drop_at a (b ++ c) (length a) refl) ∙ drop-append-le k b c le

    back : length a + k - length a ≡ k
    back = omega arith

    pub insert-middle : (x : X) → insert (a ++ (b ++ c)) (length a + k) x ≡ a ++ (insert b k x ++ c)
    insert-middle x =
        insert-append_right a (b ++ c) (length a) (length a + k) x refl (omega arith)
        ∙ ap (λ n. a ++ insert (b ++ c) n x) back
        ∙ ap (λ l. a ++ l) (insert-append_left b c k x le)

  pub remove-middle : (a b c : List X) (k : ℕ) → k < length b → remove (a ++ (b ++ c)) (length a + k) ≡ a ++ (remove b k ++ c)
  remove-middle a b c k lt =
      let back : length a + k - length a ≡ k = omega arith in
      remove-append_right a (b ++ c) (length a) (length a + k) refl (omega arith)
      ∙ ap (λ n. a ++ remove (b ++ c) n) back
      ∙ ap (λ l. a ++ l) (remove-append_left b c k lt)
