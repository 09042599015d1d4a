-- The same by the number of requests that have been carried out.
use Rattle.std.proofs.Common.{ℕ, zero, suc, ◌<◌, ◌≤◌, List, [], ◌∷◌, inl, inr, arith, take, length}
use Rattle.rule_law.specs.Rules.{Kind}
use Rattle.rule_law.specs.Plans.{Request, step, after}
use Rattle.rule_law.proofs.Moments.{Along-at, Over, OverAndBack}

-- P at the moments i of these requests for which lo ≤ i and i < hi
abbrev pub Between : {R : Type 0} → Kind R → (List R → Type 0) → ℕ → ℕ → List (Request R) → List R → Type 0
Between k P lo hi es xs = (i : ℕ) → i ≤ length es → lo ≤ i → i < hi → P (after k (take i es) xs)

abbrev pub Behind : {R : Type 0} → Kind R → (List R → Type 0) → ℕ → List (Request R) → List R → Type 0
Behind k P lo es xs = (i : ℕ) → i ≤ length es → lo ≤ i → P (after k (take i es) xs)

module _ {R : Type 0} (k : Kind R) (P : List R → Type 0) where
  Before-more : (e : Request R) (es : List (Request R)) (xs : List R) (n : ℕ) → P xs → Between k P 0 n es (step k e xs) → Between k P 0 (suc n) (e ∷ es) xs
  Before-more e es xs n p f zero l a b = p
  Before-more e es xs n p f (suc i) l a b = f i (omega arith) (omega arith) (omega arith)

  Between-more : (e : Request R) (es : List (Request R)) (xs : List R) (m n : ℕ) → Between k P m n es (step k e xs) → Between k P (suc m) (suc n) (e ∷ es) xs
  Between-more e es xs m n f zero l a b = absurd (omega arith)
  Between-more e es xs m n f (suc i) l a b = f i (omega arith) (omega arith) (omega arith)

  Behind-more : (e : Request R) (es : List (Request R)) (xs : List R) (n : ℕ) → Behind k P n es (step k e xs) → Behind k P (suc n) (e ∷ es) xs
  Behind-more e es xs n f zero l a = absurd (omega arith)
  Behind-more e es xs n f (suc i) l a = f i (omega arith) (omega arith)

module _ {R : Type 0} (k : Kind R) (P Q : List R → Type 0) where
  pub over-numbers : (es : List (Request R)) (xs : List R) → Over k P Q es xs → (n : ℕ) × Between k P 0 n es xs × Behind k Q n es xs
  over-numbers [] xs h = elim h [
    | inl p ↦ (1, λ i l a b. Along-at k P [] xs p i, λ i l a. absurd (omega arith))
    | inr q ↦ (0, λ i l a b. absurd (omega arith), λ i l a. Along-at k Q [] xs q i)
  ]
  over-numbers (e ∷ es) xs h = elim h [
    | inl p ↦ let t : _ = over-numbers es (step k e xs) p.1 in (suc t.0, Before-more k P e es xs t.0 p.0 t.1, Behind-more k Q e es xs t.0 t.2)
    | inr q ↦ (0, λ i l a b. absurd (omega arith), λ i l a. Along-at k Q (e ∷ es) xs q i)
  ]

module _ {R : Type 0} (k : Kind R) (P Q : List R → Type 0) where
  pub back-numbers : (es : List (Request R)) (xs : List R) → OverAndBack k P Q es xs
      → (n : ℕ) × (m : ℕ) × (n ≤ m) × Between k P 0 n es xs × Between k Q n m es xs × Behind k P m es xs
  back-numbers [] xs h = elim h [
    | inl p ↦ (0, 0, omega arith, λ i l a b. absurd (omega arith), λ i l a b. absurd (omega arith), λ i l a. Along-at k P [] xs p i)
    | inr q ↦ (0, 1, omega arith, λ i l a b. absurd (omega arith), λ i l a b. Along-at k Q [] xs q i, λ i l a. absurd (omega arith))
  ]
  back-numbers (e ∷ es) xs h = elim h [
    | inl p ↦ let t : _ = back-numbers es (step k e xs) p.1 in
        (suc t.0, suc t.1, omega (arith, t.2), Before-more k P e es xs t.0 p.0 t.3, Between-more k Q e es xs t.0 t.1 t.4, Behind-more k P e es xs t.1 t.5)
    | inr o ↦ let t : _ = over-numbers k Q P (e ∷ es) xs o in
        (0, t.0, omega arith, λ i l a b. absurd (omega arith), t.1, t.2)
  ]
