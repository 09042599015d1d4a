-- What stands in sorted lists of spots.
use Rattle.std.proofs.Common.{◌≡◌, ℕ, zero, suc, ◌+◌, ◌<◌, Bool, true, false, cond, List, [], ◌∷◌, length, get_or, refl, sym, subst, ◌∙◌, ap, arith, inl, inr, ◌⊎◌}
use Rattle.list_lemmas.proofs.Alls.{all-weaker}
use Rattle.std.specs.List.{AllByRecursion}
use Rattle.std.proofs.lemmas.Bool.{false≢true}
use Rattle.rule_index.specs.declared.spot.Spot.{Spot}
use Rattle.rule_index.specs.Spots.{below}
use Rattle.rule_index.specs.Sorted.{Rises, place_of, put, cut}
use Rattle.rule_index.specs.Index.{In}
use Rattle.rule_index.proofs.Orders.{below-trans, below-self, below-tie}

pub each-in : (P : Spot → Type 0) (x : Spot) (xs : List Spot) → AllByRecursion P xs → In x xs → P x
each-in P x [] e h = absurd h
each-in P x (y ∷ ys) e (inl q) = subst P (sym q) e.0
each-in P x (y ∷ ys) e (inr h) = each-in P x ys e.1 h

pub each-from : (P : Spot → Type 0) (xs : List Spot) → ((x : Spot) → In x xs → P x) → AllByRecursion P xs
each-from P [] h = tt
each-from P (x ∷ xs) h = (h x (inl refl), each-from P xs (λ y k. h y (inr k)))

pub in-at : (xs : List Spot) (i : ℕ) (d : Spot) → i < length xs → In (get_or xs i d) xs
in-at [] i d h = absurd (omega arith)
in-at (x ∷ xs) zero d h = inl refl
in-at (x ∷ xs) (suc i) d h = inr (in-at xs i d (omega arith))

pub not-both : (b : Bool) → b ≡ true → b ≡ false → ⊥
not-both b h k = false≢true (sym k ∙ h)

-- one that is in the list stands in its place
pub at-place : (s : Spot) (xs : List Spot) (d : Spot) → Rises xs → In s xs → (place_of s xs < length xs) × (get_or xs (place_of s xs) d ≡ s)
at-place s [] d r h = absurd h
at-place s (y ∷ ys) d r h = go (below y s) refl (place_of s ys) (λ k. at-place s ys d r.1 k) h
  where
    one_more : (n : ℕ) → suc n ≡ 1 + n
    one_more n = omega arith

    go : (b : Bool) → below y s ≡ b → (n : ℕ) → (In s ys → (n < length ys) × (get_or ys n d ≡ s)) → (s ≡ y) ⊎ In s ys → (cond b (1 + n) 0 < suc (length ys)) × (get_or (y ∷ ys) (cond b (1 + n) 0) d ≡ s)
    go true e n ih (inl same) = absurd (not-both (below y s) e (subst (λ (z : Spot). below y z ≡ false) (sym same) (below-self y)))
    go true e n ih (inr there) = let k = ih there in let l = k.0 in (omega (arith, l), ap (λ m. get_or (y ∷ ys) m d) (sym (one_more n)) ∙ k.1)
    go false e n ih (inl same) = (omega arith, sym same)
    go false e n ih (inr there) = absurd (not-both (below y s) (each-in (λ z. below y z ≡ true) s ys r.0 there) e)

-- put

pub each-put : (P : Spot → Type 0) (s : Spot) (xs : List Spot) → P s → AllByRecursion P xs → AllByRecursion P (put s xs)
each-put P s [] h e = (h, tt)
each-put P s (x ∷ xs) h e = go (below x s) (each-put P s xs h e.1)
  where
    go : (b : Bool) → AllByRecursion P (put s xs) → AllByRecursion P (cond b (x ∷ put s xs) (s ∷ x ∷ xs))
    go true ih = (e.0, ih)
    go false ih = (h, e)

pub in-put : (x s : Spot) (xs : List Spot) → In x (put s xs) → (x ≡ s) ⊎ In x xs
in-put x s [] h = h
in-put x s (y ∷ ys) h = go (in-put x s ys) (below y s) h
  where
    go : (In x (put s ys) → (x ≡ s) ⊎ In x ys) → (b : Bool) → In x (cond b (y ∷ put s ys) (s ∷ y ∷ ys)) → (x ≡ s) ⊎ ((x ≡ y) ⊎ In x ys)
    go ih true (inl q) = inr (inl q)
    go ih true (inr k) = elim (ih k) [ inl q ↦ inl q | inr l ↦ inr (inr l) ]
    go ih false k = k

pub put-in : (x s : Spot) (xs : List Spot) → (x ≡ s) ⊎ In x xs → In x (put s xs)
put-in x s [] h = h
put-in x s (y ∷ ys) h = go (put-in x s ys) (below y s) h
  where
    go : ((x ≡ s) ⊎ In x ys → In x (put s ys)) → (b : Bool) → (x ≡ s) ⊎ ((x ≡ y) ⊎ In x ys) → In x (cond b (y ∷ put s ys) (s ∷ y ∷ ys))
    go ih true (inl q) = inr (ih (inl q))
    go ih true (inr (inl q)) = inl q
    go ih true (inr (inr k)) = inr (ih (inr k))
    go ih false k = k

pub rises-put : (s : Spot) (xs : List Spot) → Rises xs → AllByRecursion (λ x. x ≡ s → ⊥) xs → Rises (put s xs)
rises-put s [] r f = (tt, tt)
rises-put s (x ∷ xs) r f = go (below x s) refl (rises-put s xs r.1 f.1)
  where
    over : (b : Bool) → below x s ≡ false → below s x ≡ b → b ≡ true
    over true e k = refl
    over false e k = absurd (f.0 (below-tie x s e k))

    go : (b : Bool) → below x s ≡ b → Rises (put s xs) → Rises (cond b (x ∷ put s xs) (s ∷ x ∷ xs))
    go true e ih = (each-put (λ y. below x y ≡ true) s xs e r.0, ih)
    go false e ih =
        let first : below s x ≡ true = over (below s x) e refl in
        ((first, all-weaker (λ y. below x y ≡ true) (λ y. below s y ≡ true) (λ y h. below-trans s x y first h) xs r.0), r)

-- cut

pub each-cut : (P : Spot → Type 0) (s : Spot) (xs : List Spot) → AllByRecursion P xs → AllByRecursion P (cut s xs)
each-cut P s [] e = tt
each-cut P s (x ∷ xs) e = go (below x s) (each-cut P s xs e.1)
  where
    go : (b : Bool) → AllByRecursion P (cut s xs) → AllByRecursion P (cond b (x ∷ cut s xs) xs)
    go true ih = (e.0, ih)
    go false ih = e.1

pub rises-cut : (s : Spot) (xs : List Spot) → Rises xs → Rises (cut s xs)
rises-cut s [] r = tt
rises-cut s (x ∷ xs) r = go (below x s) (rises-cut s xs r.1)
  where
    go : (b : Bool) → Rises (cut s xs) → Rises (cond b (x ∷ cut s xs) xs)
    go true ih = (each-cut (λ y. below x y ≡ true) s xs r.0, ih)
    go false ih = r.1

pub in-cut : (x s : Spot) (xs : List Spot) → In x (cut s xs) → In x xs
in-cut x s [] h = h
in-cut x s (y ∷ ys) h = go (in-cut x s ys) (below y s) h
  where
    go : (In x (cut s ys) → In x ys) → (b : Bool) → In x (cond b (y ∷ cut s ys) ys) → (x ≡ y) ⊎ In x ys
    go ih true (inl q) = inl q
    go ih true (inr k) = inr (ih k)
    go ih false k = inr k

-- the head of the list, where it isn't below one that is in it
pub head-is : (s y : Spot) (ys : List Spot) → AllByRecursion (λ z. below y z ≡ true) ys → below y s ≡ false → (s ≡ y) ⊎ In s ys → s ≡ y
head-is s y ys r e (inl q) = q
head-is s y ys r e (inr k) = absurd (not-both (below y s) (each-in (λ z. below y z ≡ true) s ys r k) e)

-- those in the tail, where the head is below
pub in-tail : (s y : Spot) (ys : List Spot) → below y s ≡ true → (s ≡ y) ⊎ In s ys → In s ys
in-tail s y ys e (inl q) = absurd (not-both (below y s) e (subst (λ (z : Spot). below y z ≡ false) (sym q) (below-self y)))
in-tail s y ys e (inr k) = k

pub cut-in : (x s : Spot) (xs : List Spot) → Rises xs → In s xs → (x ≡ s → ⊥) → In x xs → In x (cut s xs)
cut-in x s [] r there other h = h
cut-in x s (y ∷ ys) r there other h = go (λ t k. cut-in x s ys r.1 t other k) (below y s) refl h
  where
    go : (In s ys → In x ys → In x (cut s ys)) → (b : Bool) → below y s ≡ b → (x ≡ y) ⊎ In x ys → In x (cond b (y ∷ cut s ys) ys)
    go ih true e (inl q) = inl q
    go ih true e (inr k) = inr (ih (in-tail s y ys e there) k)
    go ih false e (inl q) = absurd (other (q ∙ sym (head-is s y ys r.0 e there)))
    go ih false e (inr k) = k

pub cut-not : (s : Spot) (xs : List Spot) → Rises xs → In s xs → In s (cut s xs) → ⊥
cut-not s [] r there h = h
cut-not s (y ∷ ys) r there h = go (cut-not s ys r.1) (below y s) refl h
  where
    go : (In s ys → In s (cut s ys) → ⊥) → (b : Bool) → below y s ≡ b → In s (cond b (y ∷ cut s ys) ys) → ⊥
    go ih true e (inl q) = not-both (below y s) e (subst (λ (z : Spot). below y z ≡ false) (sym q) (below-self y))
    go ih true e (inr k) = ih (in-tail s y ys e there) k
    go ih false e k =
        let q = head-is s y ys r.0 e there in
        not-both (below s s) (subst (λ (z : Spot). below z s ≡ true) (sym q) (each-in (λ z. below y z ≡ true) s ys r.0 k)) (below-self s)
