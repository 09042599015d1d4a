-- Lists of which those that pass a test stand first.
use Rattle.std.proofs.Common.{◌≡◌, ℕ, zero, suc, ◌+◌, ◌-◌, ◌<◌, ◌≤◌, Bool, true, false, cond, List, [], ◌∷◌, ◌++◌, length, take, get_or, refl, sym, ◌∙◌, ap, arith, slice_get, Some}
use Rattle.std.specs.List.{AllByRecursion, AllWithin, prefix_len}
use Rattle.std.specs.List.Sorted.{IsPartitionedBy}
use Rattle.std.proofs.lemmas.Bool.{false≢true}
use Rattle.std.proofs.lemmas.Option.{none-some, same_Some}
use Rattle.list_lemmas.proofs.Alls.{all-at, all-append, all-append_parts}
use Rattle.number_runs.specs.Parted.{IsParted}
use Rattle.number_runs.specs.Runs.{passes, ends}

module _ {X : Type 0} (p : X → Bool) where
  abbrev pub AllPassing : List X → Type 0
  AllPassing xs = AllByRecursion (λ x. p x ≡ true) xs

  each-at : (P : X → Type 0) (xs : List X) (j : ℕ) (d : X) → AllByRecursion P xs → j < length xs → P (get_or xs j d)
  each-at P [] j d e h = absurd (omega arith)
  each-at P (x ∷ xs) zero d e h = e.0
  each-at P (x ∷ xs) (suc j) d e h = each-at P xs j d e.1 (omega arith)

  pub parted-index : (xs : List X) → IsParted p xs → IsPartitionedBy p xs
  parted-index [] h i j d le lt e = absurd (omega arith)
  parted-index (x ∷ xs) h zero zero d le lt e = e
  parted-index (x ∷ xs) h zero (suc j) d le lt e = each-at (λ y. p y ≡ true → p x ≡ true) xs j d h.0 (omega arith) e
  parted-index (x ∷ xs) h (suc i) zero d le lt e = absurd (omega arith)
  parted-index (x ∷ xs) h (suc i) (suc j) d le lt e = parted-index xs h.1 i j d (omega arith) (omega arith) e

  pub parted-left : (xs ys : List X) → IsParted p (xs ++ ys) → IsParted p xs
  parted-left [] ys h = tt
  parted-left (x ∷ xs) ys h = ((all-append_parts (λ y. p y ≡ true → p x ≡ true) xs ys h.0).0, parted-left xs ys h.1)

  pub parted-right : (xs ys : List X) → IsParted p (xs ++ ys) → IsParted p ys
  parted-right [] ys h = h
  parted-right (x ∷ xs) ys h = parted-right xs ys h.1

  -- those in the middle may be left out
  pub parted-without : (xs ys zs : List X) → IsParted p (xs ++ (ys ++ zs)) → IsParted p (xs ++ zs)
  parted-without [] ys zs h = parted-right ys zs h
  parted-without (x ∷ xs) ys zs h =
      let both = all-append_parts (λ y. p y ≡ true → p x ≡ true) xs (ys ++ zs) h.0 in
      (all-append (λ y. p y ≡ true → p x ≡ true) xs zs both.0 (all-append_parts (λ y. p y ≡ true → p x ≡ true) ys zs both.1).1, parted-without xs ys zs h.1)

  -- where one passes all before it pass
  pub front-passes : (xs ys : List X) (y : X) (n : ℕ) → IsParted p (xs ++ ys) → slice_get ys n ≡ Some y → p y ≡ true → AllPassing xs
  front-passes [] ys y n h at e = tt
  front-passes (x ∷ xs) ys y n h at e =
      (all-at (λ z. p z ≡ true → p x ≡ true) ys n y (all-append_parts (λ z. p z ≡ true → p x ≡ true) xs ys h.0).1 at e, front-passes xs ys y n h.1 at e)

  pub prefix_len-all : (xs ys : List X) → AllPassing xs → prefix_len p (xs ++ ys) ≡ length xs + prefix_len p ys
  prefix_len-all [] ys h = omega arith
  prefix_len-all (x ∷ xs) ys h = let ih = prefix_len-all xs ys h.1 in rw h.0 (omega (arith, ih))

  pub prefix_len-short : (xs ys : List X) → prefix_len p xs < length xs → prefix_len p (xs ++ ys) ≡ prefix_len p xs
  prefix_len-short [] ys h = absurd (omega arith)
  prefix_len-short (x ∷ xs) ys h = step (p x) (prefix_len p xs) (prefix_len p (xs ++ ys)) (λ k. prefix_len-short xs ys k) h
    where
      step : (b : Bool) (m n : ℕ) → (m < length xs → n ≡ m) → cond b (1 + m) 0 < suc (length xs) → cond b (1 + n) 0 ≡ cond b (1 + m) 0
      step true m n k h = ap (λ a. 1 + a) (k (omega arith))
      step false m n k h = refl

  pub head-passes : (xs : List X) (k : ℕ) → k ≤ prefix_len p xs → AllPassing (take k xs)
  head-passes xs zero h = tt
  head-passes [] (suc k) h = tt
  head-passes (x ∷ xs) (suc k) h = step (p x) refl (prefix_len p xs) (λ l. head-passes xs k l) h
    where
      step : (b : Bool) → p x ≡ b → (n : ℕ) → (k ≤ n → AllPassing (take k xs)) → suc k ≤ cond b (1 + n) 0 → (p x ≡ true) × AllPassing (take k xs)
      step true e n ih l = (e, ih (omega arith))
      step false e n ih l = absurd (omega arith)

  pub stop-fails : (xs : List X) (x : X) → slice_get xs (prefix_len p xs) ≡ Some x → p x ≡ false
  stop-fails [] x h = absurd (none-some x h)
  stop-fails (y ∷ ys) x h = step (p y) refl (prefix_len p ys) (λ k. stop-fails ys x k) h
    where
      one_more : (n : ℕ) → 1 + n ≡ suc n
      one_more n = omega arith

      step : (b : Bool) → p y ≡ b → (n : ℕ) → (slice_get ys n ≡ Some x → p x ≡ false) → slice_get (y ∷ ys) (cond b (1 + n) 0) ≡ Some x → p x ≡ false
      step true e n ih at = ih (ap (slice_get (y ∷ ys)) (sym (one_more n)) ∙ at)
      step false e n ih at = ap p (sym (same_Some y x at)) ∙ e

  -- the place that parts a list
  pub prefix_len-point : (xs : List X) (n : ℕ) → n ≤ length xs → AllWithin (λ x. p x ≡ true) xs 0 n → AllWithin (λ x. p x ≡ false) xs n (length xs) → prefix_len p xs ≡ n
  prefix_len-point [] n le a b = omega arith
  prefix_len-point (x ∷ xs) zero le a b =
      let e : p x ≡ false = b 0 x (omega arith) (omega arith) in
      rw e refl
  prefix_len-point (x ∷ xs) (suc n) le a b =
      let e : p x ≡ true = a 0 x (omega arith) (omega arith) in
      let ih = prefix_len-point xs n (omega arith) (λ k d l h. a (suc k) d (omega arith) (omega arith)) (λ k d l h. b (suc k) d (omega arith) (omega arith)) in
      rw e (omega (arith, ih))

-- the last number
module _ (p : ℕ → Bool) where
  ends-more : (x y : ℕ) (ys : List ℕ) → ends p (x ∷ y ∷ ys) ≡ ends p (y ∷ ys)
  ends-more x y ys =
      let a : suc (suc (length ys)) - 1 ≡ suc (length ys) = omega arith in
      let b : suc (length ys) - 1 ≡ length ys = omega arith in
      ap (λ n. passes p (slice_get (x ∷ y ∷ ys) n)) a ∙ sym (ap (λ n. passes p (slice_get (y ∷ ys) n)) b)

  pub ends-all : (xs : List ℕ) → IsParted p xs → ends p xs ≡ true → AllPassing p xs
  ends-all [] h e = tt
  ends-all (x ∷ []) h e = (e, tt)
  ends-all (x ∷ y ∷ ys) h e =
      let rest = ends-all (y ∷ ys) h.1 (sym (ends-more x y ys) ∙ e) in
      (h.0.0 rest.0, rest)

  pub ends-short : (xs : List ℕ) → ends p xs ≡ false → prefix_len p xs < length xs
  ends-short [] e = absurd (false≢true (sym e))
  ends-short (x ∷ []) e = rw e (omega arith)
  ends-short (x ∷ y ∷ ys) e = step (p x) (prefix_len p (y ∷ ys)) (ends-short (y ∷ ys) (sym (ends-more x y ys) ∙ e))
    where
      step : (b : Bool) (n : ℕ) → n < suc (length ys) → cond b (1 + n) 0 < suc (suc (length ys))
      step true n l = omega arith
      step false n l = omega arith

  pub all-ends : (xs : List ℕ) → AllPassing p xs → ends p xs ≡ true
  all-ends [] h = refl
  all-ends (x ∷ []) h = h.0
  all-ends (x ∷ y ∷ ys) h = ends-more x y ys ∙ all-ends (y ∷ ys) h.1

  -- where there is a last number, which passes
  pub last-passes : (xs : List ℕ) → 0 < length xs → ends p xs ≡ true → (n : ℕ) × (y : ℕ) × (slice_get xs n ≡ Some y) × (p y ≡ true)
  last-passes [] l e = absurd (omega arith)
  last-passes (x ∷ []) l e = (0, x, refl, e)
  last-passes (x ∷ y ∷ ys) l e =
      let rest = last-passes (y ∷ ys) (omega arith) (sym (ends-more x y ys) ∙ e) in
      (suc rest.0, rest.1, rest.2, rest.3)
