-- Along a plan no rule is added that is there, and none deleted that isn't.
use Rattle.std.proofs.Common.{◌≡◌, ◌+◌, ◌-◌, ◌≤◌, inl, inr, ℕ, true, cond, List, [], ◌∷◌, ◌++◌, refl, ap, sym, ◌∙◌, subst, arith, not, map, reverse, take, drop}
use Rattle.std.proofs.lemmas.Bool.{cases_Bool}
use Rattle.std.proofs.lemmas.List.{take-append-drop, append-nil}
use Rattle.rule_law.specs.Rules.{Kind, has, placed, without, HasEachOnce, AreAbsent, Stands}
use Rattle.rule_law.specs.Plans.{beyond, Request, Add, Delete, Other, after, concerning, plan, undone, AskInTurn}
use Rattle.rule_law.proofs.Counts.{count, count-absent, count-added, count-class, count-part, count-reverse, count-without}
use Rattle.rule_law.proofs.Undoing.{AreAbsent-more}
use Rattle.rule_law.proofs.Law.{additions-absent, additions-once}

module _ {R : Type 0} (k : Kind R) where
  AskInTurn-append : (es fs : List (Request R)) (xs : List R) → AskInTurn k es xs → AskInTurn k fs (after k es xs) → AskInTurn k (es ++ fs) xs
  AskInTurn-append [] fs xs h g = g
  AskInTurn-append (Add r ∷ es) fs xs h g = (h.0, AskInTurn-append es fs (placed k r xs) h.1 g)
  AskInTurn-append (Delete r ∷ es) fs xs h g = (h.0, AskInTurn-append es fs (without k r xs) h.1 g)
  AskInTurn-append (Other ∷ es) fs xs h g = AskInTurn-append es fs xs h g

  AskInTurn-front : (es fs : List (Request R)) (xs : List R) → AskInTurn k (es ++ fs) xs → AskInTurn k es xs
  AskInTurn-front [] fs xs h = tt
  AskInTurn-front (Add r ∷ es) fs xs h = (h.0, AskInTurn-front es fs (placed k r xs) h.1)
  AskInTurn-front (Delete r ∷ es) fs xs h = (h.0, AskInTurn-front es fs (without k r xs) h.1)
  AskInTurn-front (Other ∷ es) fs xs h = AskInTurn-front es fs xs h

  AskInTurn-concerning : (es : List (Request R)) (xs : List R) → AskInTurn k (concerning es) xs → AskInTurn k es xs
  AskInTurn-concerning [] xs h = tt
  AskInTurn-concerning (Add r ∷ es) xs h = (h.0, AskInTurn-concerning es (placed k r xs) h.1)
  AskInTurn-concerning (Delete r ∷ es) xs h = (h.0, AskInTurn-concerning es (without k r xs) h.1)
  AskInTurn-concerning (Other ∷ es) xs h = AskInTurn-concerning es xs h

  asks-additions : (rs xs : List R) → HasEachOnce k rs → AreAbsent k rs xs → AskInTurn k (map Add rs) xs
  asks-additions [] xs n h = tt
  asks-additions (r ∷ rs) xs n h = (h r (rw (k.same_self r) refl), asks-additions rs (placed k r xs) n.1 (AreAbsent-more k r rs xs n h))

  asks-deletions : (ds xs : List R) → ((y : R) → count k y ds ≤ count k y xs) → AskInTurn k (map Delete ds) xs
  asks-deletions [] xs h = tt
  asks-deletions (d ∷ ds) xs h = (
    there d ds xs (h d),
    asks-deletions ds (without k d xs) (λ y.
        let c : count k y (without k d xs) ≡ count k y xs - cond (k.same y d) 1 0 = count-without k y d xs in
        omega (arith, c, h y)),
  )
    where
      there : (d : R) (ds xs : List R) → count k d (d ∷ ds) ≤ count k d xs → has k xs d ≡ true
      there d ds xs l = elim (cases_Bool (has k xs d)) [
        | inl t ↦ t
        | inr t ↦
            let none : count k d xs ≡ 0 = count-absent k d xs t in
            let some : 1 + count k d ds ≤ count k d xs = rw (k.same_self d) at l in
            absurd (omega (arith, none, some))
      ]

  asks-plan : (old new rules : List R) → HasEachOnce k new → Stands k rules old → AskInTurn k (plan k old new) rules
  asks-plan old new rules n g =
      let adds : List R = beyond k old new in
      let gone : List R = beyond k new old in
      AskInTurn-append (map Add adds) (map Delete (reverse gone)) rules
      (asks-additions adds rules (additions-once k old new rules g n adds [] (append-nil adds)) (additions-absent k old new rules g adds [] (append-nil adds)))
      (asks-deletions (reverse gone) (after k (map Add adds) rules) (λ y.
      let there : count k y rules ≡ count k y old = sym (count-class k y rules) ∙ (ap (λ zs. count k y zs) (g.classes y) ∙ count-class k y old) in
      let part : count k y gone ≤ count k y old = count-part k y (λ x. not (has k new x)) old in
      omega (arith, there, part, count-reverse k y gone, count-added k y adds rules)))

  asks-undone : (rs rules : List R) → HasEachOnce k rs → AreAbsent k rs rules → AskInTurn k (undone rs) rules
  asks-undone rs rules n h =
      AskInTurn-append (map Add rs) (map Delete (reverse rs)) rules (asks-additions rs rules n h)
      (asks-deletions (reverse rs) (after k (map Add rs) rules) (λ y. omega (arith, count-reverse k y rs, count-added k y rs rules)))

  pub asks_done : (old new rules : List R) (requests rest : List (Request R)) → HasEachOnce k new → Stands k rules old
      → concerning requests ++ rest ≡ plan k old new → AskInTurn k requests rules
  asks_done old new rules requests rest n g c =
      AskInTurn-concerning requests rules (AskInTurn-front (concerning requests) rest rules (subst (λ es. AskInTurn k es rules) (sym c) (asks-plan old new rules n g)))

  pub asks_undone : (old new rules : List R) (j : ℕ) (requests rest : List (Request R)) → HasEachOnce k new → Stands k rules old
      → concerning requests ++ rest ≡ undone (take j (beyond k old new)) → AskInTurn k requests rules
  asks_undone old new rules j requests rest n g c =
      let split : take j (beyond k old new) ++ drop j (beyond k old new) ≡ beyond k old new = take-append-drop j (beyond k old new) in
      let rs : List R = take j (beyond k old new) in
      AskInTurn-concerning requests rules (AskInTurn-front (concerning requests) rest rules (subst (λ es. AskInTurn k es rules) (sym c)
      (asks-undone rs rules (additions-once k old new rules g n rs (drop j (beyond k old new)) split) (additions-absent k old new rules g rs (drop j (beyond k old new)) split))))
