-- While rules are added and deleted again, last first, the leading rule changes at most once and back.
use Rattle.std.proofs.Common.{◌≡◌, ◌<◌, ◌≤◌, Bool, true, false, List, [], ◌∷◌, ◌++◌, not, refl, sym, ◌∙◌, ap, subst, inl, inr, arith, map, reverse, Some, append_assoc}
use Rattle.std.specs.Prelude.{◌⊎◌, ◌+◌}
use Rattle.std.proofs.lemmas.Bool.{cases_Bool, false≢true}
use Rattle.std.proofs.lemmas.List.{map-append}
use Rattle.std.specs.List.{find}
use Rattle.rule_law.specs.Rules.{Kind, AreAbsent, placed, without, has, NoneBelow, Rises, HasEachOnce}
use Rattle.rule_law.specs.Plans.{Request, Add, Delete, after, undone}
use Rattle.rule_law.proofs.Membership.{filter-all, has_placed, has_reverse, reverse-more}
use Rattle.rule_law.proofs.Orders.{NoneBelow-has, Rises-placed}
use Rattle.rule_law.proofs.Leading.{Beats, find-has, find-placed}
use Rattle.rule_law.proofs.Moments.{Along, Along-append, Along-map, Back-from_over, Back-map, Over, Over-later, Over-then_back, OverAndBack, after-append}
use Rattle.rule_law.proofs.Adding.{Beats-before, Leads, later-first}
use Rattle.rule_law.proofs.Counts.{count, count-absent, count-added, count-reverse, deleted, unseen-added}

-- `undone` by recursion: each rule is added, then what follows is done and undone, and the rule is deleted
abbrev pub undo : {R : Type 0} → List R → List (Request R)
undo [] = []
undo (r ∷ rs) = Add r ∷ (undo rs ++ Delete r ∷ [])

module _ {R : Type 0} (k : Kind R) where
  pub undo-is : (rs : List R) → undo rs ≡ undone rs
  undo-is [] = refl
  undo-is (r ∷ rs) =
      ap (λ es. Add r ∷ es)
      (ap (λ es. es ++ Delete r ∷ []) (undo-is rs)
      ∙ (append_assoc (map Add rs) (map Delete (reverse rs)) (Delete r ∷ [])
      ∙ ap (λ es. map Add rs ++ es) (sym (map-append Delete (reverse rs) (r ∷ [])) ∙ ap (λ ds. map Delete ds) (sym (reverse-more k r rs)))))

  pub AreAbsent-more : (r : R) (rs xs : List R) → HasEachOnce k (r ∷ rs) → AreAbsent k (r ∷ rs) xs → AreAbsent k rs (placed k r xs)
  AreAbsent-more r rs xs n h = λ x t. let e : has k xs x ≡ false = h x (grind arith) in grind (arith, has_placed k r x xs, k.same_is x r, n.0)

  -- rules that weren't in the list, added and deleted again, leave the very list
  pub restored : (rs xs : List R) → AreAbsent k rs xs → after k (undone rs) xs ≡ xs
  restored rs xs h =
      let mid : List R = after k (map Add rs) xs in
      let keep : R → Bool = λ x. not (has k (reverse rs) x) in
      let enough : (y : R) → has k (reverse rs) y ≡ true → count k y mid ≤ count k y (reverse rs) = λ y t.
      let none : count k y xs ≡ 0 = count-absent k y xs (h y (sym (has_reverse k y rs) ∙ t)) in
      let both : count k y mid ≡ count k y rs + count k y xs = count-added k y rs xs in
      omega (arith, none, both, count-reverse k y rs) in
      after-append k (map Add rs) (map Delete (reverse rs)) xs
      ∙ (deleted k (reverse rs) mid enough
      ∙ (unseen-added k keep rs xs (λ y t. rw (has_reverse k y rs ∙ t) refl)
      ∙ filter-all k keep xs (λ x t. kept x t (cases_Bool (has k rs x)))))
    where
      kept : (x : R) → has k xs x ≡ true → (has k rs x ≡ true) ⊎ (has k rs x ≡ false) → not (has k (reverse rs) x) ≡ true
      kept x t (inl r) = absurd (false≢true (sym (h x r) ∙ t))
      kept x t (inr r) = rw (has_reverse k x rs ∙ r) refl

  undo-restored : (rs xs : List R) → AreAbsent k rs xs → after k (undo rs) xs ≡ xs
  undo-restored rs xs h = ap (λ es. after k es xs) (undo-is rs) ∙ restored rs xs h

  without-placed : (r : R) (xs : List R) → has k xs r ≡ false → without k r (placed k r xs) ≡ xs
  without-placed r xs n = restored (r ∷ []) xs (λ x t. grind (arith, k.same_is x r))

module _ {R : Type 0} (k : Kind R) (s : R → Bool) where
  not-beaten : (r x : R) (rs xs : List R) → NoneBelow k (k.priority r) rs → s r ≡ true → find s rs ≡ Some x → Beats k s x (placed k r xs) → ⊥
  not-beaten r x rs xs f t e b =
      let less : k.priority x < k.priority r = b r (has_placed k r r xs ∙ rw (k.same_self r) refl) t in
      let more : k.priority r ≤ k.priority x = NoneBelow-has k (k.priority r) rs x f (find-has k s x rs e) in
      omega arith

  -- While rules are added in their order and deleted again, the first one is what it was; or from some moment on it is the first of the added ones, and from some moment on what it was.
  pub undoing : (rs xs : List R) → Rises k xs → Rises k rs → HasEachOnce k rs → AreAbsent k rs xs
      → Along k (Leads s (find s xs)) (undo rs) xs
      ⊎ ((r : R) × (find s rs ≡ Some r) × Beats k s r xs × OverAndBack k (Leads s (find s xs)) (Leads s (Some r)) (undo rs) xs)
  undoing [] xs o n u h = inl refl
  undoing (r ∷ rs) xs o n u h =
      let ys : List R = placed k r xs in
      let P : List R → Type 0 = Leads s (find s xs) in
      let last : List (Request R) = Delete r ∷ [] in
      let back : after k (undo rs) ys ≡ ys = undo-restored k rs ys (AreAbsent-more k r rs xs u h) in
      let same : find s (without k r ys) ≡ find s xs = ap (λ zs. find s zs) (without-placed k r xs (h r (rw (k.same_self r) refl))) in
      let rest : _ = undoing rs ys (Rises-placed k r xs o) n.1 u.1 (AreAbsent-more k r rs xs u h) in
      elim (find-placed k s r xs o) [
        | inl q ↦
            let ending : Along k P last (after k (undo rs) ys) = subst (λ zs. Along k P last zs) (sym back) (q, same) in
            elim rest [
              | inl al ↦ inl (refl, Along-append k P (undo rs) last ys (Along-map k (Leads s (find s ys)) P (λ zs e. e ∙ q) (undo rs) ys al) ending)
              | inr t ↦ inr (
                t.0,
                later-first k s r t.0 rs xs n.0 t.1 t.2,
                Beats-before k s r t.0 xs t.2,
                inl (
                  refl,
                  Over-then_back k P (Leads s (Some t.0)) (undo rs) last ys
                      (Back-map k (Leads s (find s ys)) (Leads s (Some t.0)) P (Leads s (Some t.0)) (λ zs e. e ∙ q) (λ zs e. e) (undo rs) ys t.3) ending,
                ),
              )
            ]
        | inr q ↦
            let Q : List R → Type 0 = Leads s (Some r) in
            let ending : Over k Q P last (after k (undo rs) ys) = subst (λ zs. Over k Q P last zs) (sym back) (inl (q.0, inr same)) in
            let al : Along k Q (undo rs) ys = elim rest [
              | inl al ↦ Along-map k (Leads s (find s ys)) Q (λ zs e. e ∙ q.0) (undo rs) ys al
              | inr t ↦ absurd (not-beaten r t.0 rs xs n.0 q.1 t.1 t.2)
            ] in
            inr (r, rw q.1 refl, q.2, inl (refl, Back-from_over k P Q (undo rs ++ last) ys (Over-later k Q P (undo rs) last ys al ending)))
      ]
