-- Facts of the list along requests: at each moment; at first one and then another; and the first one again.
use Rattle.std.proofs.Common.{◌≡◌, ℕ, zero, suc, List, [], ◌∷◌, ◌++◌, refl, inl, inr, take}
use Rattle.std.specs.Prelude.{◌⊎◌}
use Rattle.rule_law.specs.Rules.{Kind}
use Rattle.rule_law.specs.Plans.{Request, Add, Delete, Other, step, after, concerning}

-- each moment of these requests has P, the first and the last one too
abbrev pub Along : {R : Type 0} → Kind R → (List R → Type 0) → List (Request R) → List R → Type 0
Along k P [] xs = P xs
Along k P (e ∷ es) xs = P xs × Along k P es (step k e xs)

-- P at first, and from some moment on Q
abbrev pub Over : {R : Type 0} → Kind R → (List R → Type 0) → (List R → Type 0) → List (Request R) → List R → Type 0
Over k P Q [] xs = P xs ⊎ Q xs
Over k P Q (e ∷ es) xs = (P xs × Over k P Q es (step k e xs)) ⊎ Along k Q (e ∷ es) xs

-- P at first, from some moment on Q, and from some moment on P again
abbrev pub OverAndBack : {R : Type 0} → Kind R → (List R → Type 0) → (List R → Type 0) → List (Request R) → List R → Type 0
OverAndBack k P Q [] xs = P xs ⊎ Q xs
OverAndBack k P Q (e ∷ es) xs = (P xs × OverAndBack k P Q es (step k e xs)) ⊎ Over k Q P (e ∷ es) xs

module _ {R : Type 0} (k : Kind R) where
  pub after-append : (es fs : List (Request R)) (xs : List R) → after k (es ++ fs) xs ≡ after k fs (after k es xs)
  after-append [] fs xs = refl
  after-append (e ∷ es) fs xs = after-append es fs (step k e xs)

  pub after-concerning : (es : List (Request R)) (xs : List R) → after k (concerning es) xs ≡ after k es xs
  after-concerning [] xs = refl
  after-concerning (Add r ∷ es) xs = after-concerning es (step k (Add r) xs)
  after-concerning (Delete r ∷ es) xs = after-concerning es (step k (Delete r) xs)
  after-concerning (Other ∷ es) xs = after-concerning es xs

module _ {R : Type 0} (k : Kind R) (P : List R → Type 0) where
  pub Along-start : (es : List (Request R)) (xs : List R) → Along k P es xs → P xs
  Along-start [] xs h = h
  Along-start (e ∷ es) xs h = h.0

  pub Along-end : (es : List (Request R)) (xs : List R) → Along k P es xs → P (after k es xs)
  Along-end [] xs h = h
  Along-end (e ∷ es) xs h = Along-end es (step k e xs) h.1

  pub Along-append : (es fs : List (Request R)) (xs : List R) → Along k P es xs → Along k P fs (after k es xs) → Along k P (es ++ fs) xs
  Along-append [] fs xs h g = g
  Along-append (e ∷ es) fs xs h g = (h.0, Along-append es fs (step k e xs) h.1 g)

  pub Along-front : (es fs : List (Request R)) (xs : List R) → Along k P (es ++ fs) xs → Along k P es xs
  Along-front [] fs xs h = Along-start fs xs h
  Along-front (e ∷ es) fs xs h = (h.0, Along-front es fs (step k e xs) h.1)

  -- requests that leave the list as it is add moments alone
  pub Along-concerning : (es : List (Request R)) (xs : List R) → Along k P (concerning es) xs → Along k P es xs
  Along-concerning [] xs h = h
  Along-concerning (Add r ∷ es) xs h = (h.0, Along-concerning es (step k (Add r) xs) h.1)
  Along-concerning (Delete r ∷ es) xs h = (h.0, Along-concerning es (step k (Delete r) xs) h.1)
  Along-concerning (Other ∷ es) xs h = (Along-start (concerning es) xs h, Along-concerning es xs h)

  pub Along-at : (es : List (Request R)) (xs : List R) → Along k P es xs → (i : ℕ) → P (after k (take i es) xs)
  Along-at [] xs h zero = h
  Along-at [] xs h (suc i) = h
  Along-at (e ∷ es) xs h zero = h.0
  Along-at (e ∷ es) xs h (suc i) = Along-at es (step k e xs) h.1 i

module _ {R : Type 0} (k : Kind R) (P Q : List R → Type 0) where
  pub Along-map : ((xs : List R) → P xs → Q xs) → (es : List (Request R)) (xs : List R) → Along k P es xs → Along k Q es xs
  Along-map f [] xs h = f xs h
  Along-map f (e ∷ es) xs h = (f xs h.0, Along-map f es (step k e xs) h.1)

  pub Over-left : (es : List (Request R)) (xs : List R) → Along k P es xs → Over k P Q es xs
  Over-left [] xs h = inl h
  Over-left (e ∷ es) xs h = inl (h.0, Over-left es (step k e xs) h.1)

  pub Over-right : (es : List (Request R)) (xs : List R) → Along k Q es xs → Over k P Q es xs
  Over-right [] xs h = inr h
  Over-right (e ∷ es) xs h = inr h

  pub Over-start : (es : List (Request R)) (xs : List R) → Over k P Q es xs → P xs ⊎ Along k Q es xs
  Over-start [] xs h = h
  Over-start (e ∷ es) xs h = elim h [ inl p ↦ inl p.0 | inr q ↦ inr q ]

  pub Over-front : (es fs : List (Request R)) (xs : List R) → Over k P Q (es ++ fs) xs → Over k P Q es xs
  Over-front [] fs xs h = elim (Over-start fs xs h) [ inl p ↦ inl p | inr q ↦ inr (Along-start k Q fs xs q) ]
  Over-front (e ∷ es) fs xs h = elim h [ inl p ↦ inl (p.0, Over-front es fs (step k e xs) p.1) | inr q ↦ inr (Along-front k Q (e ∷ es) fs xs q) ]

  pub Over-concerning : (es : List (Request R)) (xs : List R) → Over k P Q (concerning es) xs → Over k P Q es xs
  Over-concerning [] xs h = h
  Over-concerning (Add r ∷ es) xs h = elim h [ inl p ↦ inl (p.0, Over-concerning es (step k (Add r) xs) p.1) | inr q ↦ inr (Along-concerning k Q (Add r ∷ es) xs q) ]
  Over-concerning (Delete r ∷ es) xs h = elim h [ inl p ↦ inl (p.0, Over-concerning es (step k (Delete r) xs) p.1) | inr q ↦ inr (Along-concerning k Q (Delete r ∷ es) xs q) ]
  Over-concerning (Other ∷ es) xs h =
      elim (Over-start (concerning es) xs h) [ inl p ↦ inl (p, Over-concerning es xs h) | inr q ↦ inr (Along-concerning k Q (Other ∷ es) xs q) ]

  -- P along the first part, and then over
  pub Over-later : (es fs : List (Request R)) (xs : List R) → Along k P es xs → Over k P Q fs (after k es xs) → Over k P Q (es ++ fs) xs
  Over-later [] fs xs h g = g
  Over-later (e ∷ es) fs xs h g = inl (h.0, Over-later es fs (step k e xs) h.1 g)

  -- over in the first part, and then Q
  pub Over-sooner : (es fs : List (Request R)) (xs : List R) → Over k P Q es xs → Along k Q fs (after k es xs) → Over k P Q (es ++ fs) xs
  Over-sooner [] fs xs h g = Over-right fs xs g
  Over-sooner (e ∷ es) fs xs h g = elim h [
    | inl p ↦ inl (p.0, Over-sooner es fs (step k e xs) p.1 g)
    | inr q ↦ inr (Along-append k Q (e ∷ es) fs xs q g)
  ]

module _ {R : Type 0} (k : Kind R) (P Q P' Q' : List R → Type 0) (f : (xs : List R) → P xs → P' xs) (g : (xs : List R) → Q xs → Q' xs) where
  pub Over-map : (es : List (Request R)) (xs : List R) → Over k P Q es xs → Over k P' Q' es xs
  Over-map [] xs h = elim h [ inl p ↦ inl (f xs p) | inr q ↦ inr (g xs q) ]
  Over-map (e ∷ es) xs h = elim h [
    | inl p ↦ inl (f xs p.0, Over-map es (step k e xs) p.1)
    | inr q ↦ inr (Along-map k Q Q' g (e ∷ es) xs q)
  ]

module _ {R : Type 0} (k : Kind R) (P Q : List R → Type 0) where
  pub Back-from_over : (es : List (Request R)) (xs : List R) → Over k Q P es xs → OverAndBack k P Q es xs
  Back-from_over [] xs h = elim h [ inl q ↦ inr q | inr p ↦ inl p ]
  Back-from_over (e ∷ es) xs h = inr h

  pub Back-left : (es : List (Request R)) (xs : List R) → Along k P es xs → OverAndBack k P Q es xs
  Back-left es xs h = Back-from_over es xs (Over-right k Q P es xs h)

  pub Back-start : (es : List (Request R)) (xs : List R) → OverAndBack k P Q es xs → P xs ⊎ Over k Q P es xs
  Back-start [] xs h = elim h [ inl p ↦ inl p | inr q ↦ inr (inl q) ]
  Back-start (e ∷ es) xs h = elim h [ inl p ↦ inl p.0 | inr q ↦ inr q ]

  pub Back-front : (es fs : List (Request R)) (xs : List R) → OverAndBack k P Q (es ++ fs) xs → OverAndBack k P Q es xs
  Back-front [] fs xs h = elim (Back-start fs xs h) [
    | inl p ↦ inl p
    | inr o ↦ elim (Over-start k Q P fs xs o) [ inl q ↦ inr q | inr p ↦ inl (Along-start k P fs xs p) ]
  ]
  Back-front (e ∷ es) fs xs h = elim h [ inl p ↦ inl (p.0, Back-front es fs (step k e xs) p.1) | inr q ↦ inr (Over-front k Q P (e ∷ es) fs xs q) ]

  pub Back-concerning : (es : List (Request R)) (xs : List R) → OverAndBack k P Q (concerning es) xs → OverAndBack k P Q es xs
  Back-concerning [] xs h = h
  Back-concerning (Add r ∷ es) xs h = elim h [ inl p ↦ inl (p.0, Back-concerning es (step k (Add r) xs) p.1) | inr q ↦ inr (Over-concerning k Q P (Add r ∷ es) xs q) ]
  Back-concerning (Delete r ∷ es) xs h = elim h [ inl p ↦ inl (p.0, Back-concerning es (step k (Delete r) xs) p.1) | inr q ↦ inr (Over-concerning k Q P (Delete r ∷ es) xs q) ]
  Back-concerning (Other ∷ es) xs h =
      elim (Back-start (concerning es) xs h) [ inl p ↦ inl (p, Back-concerning es xs h) | inr q ↦ inr (Over-concerning k Q P (Other ∷ es) xs q) ]

  pub Over-then_back : (es fs : List (Request R)) (xs : List R) → OverAndBack k P Q es xs → Along k P fs (after k es xs) → OverAndBack k P Q (es ++ fs) xs
  Over-then_back [] fs xs h g = Back-left fs xs g
  Over-then_back (e ∷ es) fs xs h g = elim h [
    | inl p ↦ inl (p.0, Over-then_back es fs (step k e xs) p.1 g)
    | inr q ↦ inr (Over-sooner k Q P (e ∷ es) fs xs q g)
  ]

module _ {R : Type 0} (k : Kind R) (P Q P' Q' : List R → Type 0) (f : (xs : List R) → P xs → P' xs) (g : (xs : List R) → Q xs → Q' xs) where
  pub Back-map : (es : List (Request R)) (xs : List R) → OverAndBack k P Q es xs → OverAndBack k P' Q' es xs
  Back-map [] xs h = elim h [ inl p ↦ inl (f xs p) | inr q ↦ inr (g xs q) ]
  Back-map (e ∷ es) xs h = elim h [
    | inl p ↦ inl (f xs p.0, Back-map es (step k e xs) p.1)
    | inr q ↦ inr (Over-map k Q P Q' P' g f (e ∷ es) xs q)
  ]
