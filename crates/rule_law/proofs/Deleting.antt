-- While rules are deleted in reverse order, the leading rule changes at most once.
use Rattle.std.proofs.Common.{◌≡◌, Bool, true, false, List, [], ◌∷◌, ◌++◌, refl, sym, ◌∙◌, subst, inl, inr, arith, filter, map, reverse, Some, None}
use Rattle.std.specs.Prelude.{◌⊎◌}
use Rattle.std.proofs.lemmas.Bool.{cases_Bool}
use Rattle.std.specs.List.{find}
use Rattle.rule_law.specs.Rules.{Kind, without, has, HasEachOnce}
use Rattle.rule_law.specs.Plans.{Delete, after}
use Rattle.rule_law.proofs.Membership.{has_filter, has_reverse, reverse-more}
use Rattle.rule_law.proofs.Orders.{HasEachOnce-filter}
use Rattle.rule_law.proofs.Leading.{find-append_none, find-filter, find-without_none, find-without_other, find-without_silent}
use Rattle.rule_law.proofs.Moments.{Along, Along-end, Along-map, Over, Over-right}
use Rattle.rule_law.proofs.Adding.{Leads}

-- where x is among the rules, those after it give nothing
abbrev pub LastOfAll : {R : Type 0} → Kind R → (R → Bool) → R → List R → Type 0
LastOfAll k s x [] = Unit {0}
LastOfAll k s x (d ∷ ds) = ((k.same x d ≡ true) × (find s ds ≡ None)) ⊎ ((k.same x d ≡ false) × LastOfAll k s x ds)

module _ {R : Type 0} (k : Kind R) (s : R → Bool) where
  pub deleting-none : (ds xs : List R) → find s xs ≡ None → Along k (Leads s None) (map Delete ds) xs
  deleting-none [] xs e = e
  deleting-none (d ∷ ds) xs e = (e, deleting-none ds (without k d xs) (find-without_none k s d xs e))

  pub deleting-silent : (ds xs : List R) → find s ds ≡ None → Along k (Leads s (find s xs)) (map Delete ds) xs
  deleting-silent [] xs e = refl
  deleting-silent (d ∷ ds) xs e =
      let quiet : s d ≡ false = grind arith in
      let rest : find s ds ≡ None = grind arith in
      let kept : find s (without k d xs) ≡ find s xs = find-without_silent k s d xs quiet in
      (refl, Along-map k (Leads s (find s (without k d xs))) (Leads s (find s xs)) (λ zs q. q ∙ kept) (map Delete ds) (without k d xs) (deleting-silent ds (without k d xs) rest))

  pub deleting-others : (x : R) (ds xs : List R) → find s xs ≡ Some x → has k ds x ≡ false → Along k (Leads s (Some x)) (map Delete ds) xs
  deleting-others x [] xs e n = e
  deleting-others x (d ∷ ds) xs e n =
      let other : k.same x d ≡ false = grind arith in
      let rest : has k ds x ≡ false = grind arith in
      (e, deleting-others x ds (without k d xs) (find-without_other k s d x xs e other) rest)

  -- The first rule leads until it is deleted; if it is the last of the deleted ones that gives anything, what then leads does so to the end.
  pub deleting : (x : R) (ds xs : List R) → find s xs ≡ Some x → LastOfAll k s x ds
      → Over k (Leads s (Some x)) (Leads s (find s (after k (map Delete ds) xs))) (map Delete ds) xs
  deleting x [] xs e l = inl e
  deleting x (d ∷ ds) xs e l =
      let ys : List R = without k d xs in
      elim l [
        | inl q ↦
            let al : Along k (Leads s (find s ys)) (map Delete ds) ys = deleting-silent ds ys q.1 in
            let last : find s (after k (map Delete ds) ys) ≡ find s ys = Along-end k (Leads s (find s ys)) (map Delete ds) ys al in
            inl (
              e,
              Over-right k (Leads s (Some x)) (Leads s (find s (after k (map Delete ds) ys))) (map Delete ds) ys
                  (Along-map k (Leads s (find s ys)) (Leads s (find s (after k (map Delete ds) ys))) (λ zs t. t ∙ sym last) (map Delete ds) ys al),
            )
        | inr q ↦ inl (e, deleting x ds ys (find-without_other k s d x xs e q.0) q.1)
      ]

  LastOfAll-absent : (x : R) (ds : List R) → has k ds x ≡ false → LastOfAll k s x ds
  LastOfAll-absent x [] n = tt
  LastOfAll-absent x (d ∷ ds) n = inr (grind arith, LastOfAll-absent x ds (grind arith))

  LastOfAll-push : (x y : R) (ds : List R) → s y ≡ false → LastOfAll k s x ds → LastOfAll k s x (ds ++ y ∷ [])
  LastOfAll-push x y [] e l = elim (cases_Bool (k.same x y)) [ inl t ↦ inl (t, refl) | inr t ↦ inr (t, tt) ]
  LastOfAll-push x y (d ∷ ds) e l = elim l [
    | inl q ↦ inl (q.0, find-append_none k s ds (y ∷ []) q.1 ∙ rw e refl)
    | inr q ↦ inr (q.0, LastOfAll-push x y ds e q.1)
  ]

  LastOfAll-fresh : (x : R) (ds : List R) → has k ds x ≡ false → LastOfAll k s x (ds ++ x ∷ [])
  LastOfAll-fresh x [] n = inl (k.same_self x, refl)
  LastOfAll-fresh x (d ∷ ds) n = inr (grind arith, LastOfAll-fresh x ds (grind arith))

  LastOfAll-reverse : (x : R) (xs : List R) → find s xs ≡ Some x → HasEachOnce k xs → LastOfAll k s x (reverse xs)
  LastOfAll-reverse x [] e o = tt
  LastOfAll-reverse x (y ∷ ys) e o =
      rw (reverse-more k y ys) (elim (cases_Bool (s y)) [
        | inl t ↦
            let it : y ≡ x = grind arith in
            let absent : has k (reverse ys) y ≡ false = has_reverse k y ys ∙ o.0 in
            subst (λ z. LastOfAll k s z (reverse ys ++ y ∷ [])) it (LastOfAll-fresh y (reverse ys) absent)
        | inr t ↦
            let rest : find s ys ≡ Some x = grind arith in
            LastOfAll-push x y (reverse ys) t (LastOfAll-reverse x ys rest o.1)
      ])

  -- the first rule of a list is the last one of those that give something, when some of the list are deleted from the end
  pub LastOfAll-part : (x : R) (p : R → Bool) (xs : List R) → find s xs ≡ Some x → HasEachOnce k xs → LastOfAll k s x (reverse (filter p xs))
  LastOfAll-part x p xs e o = elim (cases_Bool (p x)) [
    | inl t ↦ LastOfAll-reverse x (filter p xs) (find-filter k s p x xs e t) (HasEachOnce-filter k p xs o)
    | inr t ↦ LastOfAll-absent x (reverse (filter p xs)) (has_reverse k x (filter p xs) ∙ (has_filter k p x xs ∙ rw t refl))
  ]
