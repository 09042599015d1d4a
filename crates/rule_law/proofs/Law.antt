-- The leading rule along a plan: it is the old table's and then the new one's, and along an undone plan it is the old table's again.
use Rattle.std.proofs.Common.{◌≡◌, ◌<◌, ◌≤◌, Bool, true, false, List, [], ◌++◌, refl, sym, ◌∙◌, ap, subst, inl, inr, arith, not, map, reverse, Option, Some, None}
use Rattle.std.specs.List.{find}
use Rattle.std.proofs.lemmas.Bool.{cases_Bool, false≢true, not_from_false}
use Rattle.std.proofs.lemmas.List.{append-nil}
use Rattle.rule_law.specs.Rules.{Kind, has, Rises, HasEachOnce, AreAbsent, Stands}
use Rattle.rule_law.specs.Plans.{beyond, Add, Delete, after, plan, undone}
use Rattle.rule_law.proofs.Membership.{has_append, has_beyond, has_reverse}
use Rattle.rule_law.proofs.Orders.{HasEachOnce-filter, HasEachOnce-front, Rises-filter, Rises-front}
use Rattle.rule_law.proofs.Leading.{Beats, find-append, find-filter, find-has, find-least, find-silent, find-speaks}
use Rattle.rule_law.proofs.Moments.{Along, Along-end, Along-map, Back-left, Back-map, Over, Over-later, Over-left, Over-map, Over-sooner, OverAndBack, after-append}
use Rattle.rule_law.proofs.Adding.{Leads, adding}
use Rattle.rule_law.proofs.Deleting.{LastOfAll-part, deleting, deleting-none, deleting-others}
use Rattle.rule_law.proofs.Classes.{has-classes}
use Rattle.rule_law.proofs.Undoing.{undo, undo-is, undoing}

module _ {R : Type 0} (k : Kind R) (old new rules : List R) (g : Stands k rules old) where
  -- the first of a plan's additions are absent from the list
  pub additions-absent : (rs rest : List R) → rs ++ rest ≡ beyond k old new → AreAbsent k rs rules
  additions-absent rs rest c = λ x t.
      let there : has k (beyond k old new) x ≡ true = ap (λ zs. has k zs x) (sym c) ∙ (has_append k x rs rest ∙ rw t refl) in
      has-classes k rules old g.classes x ∙ grind (arith, has_beyond k old new x)

  pub additions-once : HasEachOnce k new → (rs rest : List R) → rs ++ rest ≡ beyond k old new → HasEachOnce k rs
  additions-once new_once rs rest c =
      HasEachOnce-front k rs rest (subst (λ zs. HasEachOnce k zs) (sym c) (HasEachOnce-filter k (λ x. not (has k old x)) new new_once))

  module _ (s : R → Bool) (new_rises : Rises k new) where
    leads-new-at : (r : R) → find s (beyond k old new) ≡ Some r → Beats k s r rules → (o : Option R) → find s new ≡ o → o ≡ Some r
    leads-new-at r e b None d =
        let there : has k (beyond k old new) r ≡ true = find-has k s r (beyond k old new) e in
        let in_new : has k new r ≡ true = grind (arith, has_beyond k old new r) in
        absurd (false≢true (sym (find-silent k s r new d in_new) ∙ find-speaks k s r (beyond k old new) e))
    leads-new-at r e b (Some x) d =
        let there : has k (beyond k old new) r ≡ true = find-has k s r (beyond k old new) e in
        let in_new : has k new r ≡ true = grind (arith, has_beyond k old new r) in
        let x_speaks : s x ≡ true = find-speaks k s x new d in
        let least : k.priority x ≤ k.priority r = find-least k s x r new new_rises d in_new (find-speaks k s r (beyond k old new) e) in
        elim (cases_Bool (has k old x)) [
          | inl t ↦ let less : k.priority r < k.priority x = b x (has-classes k rules old g.classes x ∙ t) x_speaks in absurd (omega arith)
          | inr t ↦ sym (find-filter k s (λ z. not (has k old z)) x new d (not_from_false (has k old x) t)) ∙ e
        ]

    -- an added rule that nothing of the old table precedes leads the new one
    leads-new : (r : R) (rs rest : List R) → rs ++ rest ≡ beyond k old new → find s rs ≡ Some r → Beats k s r rules → find s new ≡ Some r
    leads-new r rs rest c e b =
        leads-new-at r (ap (λ zs. find s zs) (sym c) ∙ find-append k s r rs rest e) b (find s new) refl

    additions-rise : (rs rest : List R) → rs ++ rest ≡ beyond k old new → Rises k rs
    additions-rise rs rest c = Rises-front k rs rest (subst (λ zs. Rises k zs) (sym c) (Rises-filter k (λ x. not (has k old x)) new new_rises))

    -- over and back
    pub returns : HasEachOnce k new → (rs rest : List R) → rs ++ rest ≡ beyond k old new → find s rules ≡ find s old
        → OverAndBack k (Leads s (find s old)) (Leads s (find s new)) (undone rs) rules
    returns new_once rs rest c d =
        let P : List R → Type 0 = Leads s (find s old) in
        let Q : List R → Type 0 = Leads s (find s new) in
        subst (λ es. OverAndBack k P Q es rules) (undo-is k rs)
        (elim (undoing k s rs rules g.rises (additions-rise rs rest c) (additions-once new_once rs rest c) (additions-absent rs rest c)) [
          | inl al ↦ Back-left k P Q (undo rs) rules (Along-map k (Leads s (find s rules)) P (λ zs q. q ∙ d) (undo rs) rules al)
          | inr t ↦
              let leads : find s new ≡ Some t.0 = leads-new t.0 rs rest c t.1 t.2 in
              Back-map k (Leads s (find s rules)) (Leads s (Some t.0)) P Q (λ zs q. q ∙ d) (λ zs q. q ∙ sym leads) (undo rs) rules t.3
        ])

    module _ (old_once : HasEachOnce k old) where
      -- where the old table's rule still leads when the deletions begin
      goes-on : (o : Option R) (mid : List R) → find s old ≡ o → find s mid ≡ find s old
          → find s (after k (map Delete (reverse (beyond k new old))) mid) ≡ find s new
          → Over k (Leads s (find s old)) (Leads s (find s new)) (map Delete (reverse (beyond k new old))) mid
      goes-on None mid d m e =
          let dels : List R = reverse (beyond k new old) in
          Over-left k (Leads s (find s old)) (Leads s (find s new)) (map Delete dels) mid
          (Along-map k (Leads s None) (Leads s (find s old)) (λ zs q. q ∙ sym d) (map Delete dels) mid (deleting-none k s dels mid (m ∙ d)))
      goes-on (Some x) mid d m e =
          let dels : List R = reverse (beyond k new old) in
          Over-map k (Leads s (Some x)) (Leads s (find s (after k (map Delete dels) mid))) (Leads s (find s old)) (Leads s (find s new)) (λ zs q. q ∙ sym d) (λ zs q. q ∙ e) (map Delete dels) mid
          (deleting k s x dels mid (m ∙ d) (LastOfAll-part k s x (λ z. not (has k new z)) old d old_once))

      -- one switch
      pub switches : find s rules ≡ find s old → find s (after k (plan k old new) rules) ≡ find s new
          → Over k (Leads s (find s old)) (Leads s (find s new)) (plan k old new) rules
      switches d e =
          let adds : List R = beyond k old new in
          let dels : List R = reverse (beyond k new old) in
          let mid : List R = after k (map Add adds) rules in
          let P : List R → Type 0 = Leads s (find s old) in
          let Q : List R → Type 0 = Leads s (find s new) in
          let e' : find s (after k (map Delete dels) mid) ≡ find s new = ap (λ zs. find s zs) (sym (after-append k (map Add adds) (map Delete dels) rules)) ∙ e in
          elim (adding k s adds rules g.rises (Rises-filter k (λ x. not (has k old x)) new new_rises)) [
            | inl al ↦
                let al' : Along k P (map Add adds) rules = Along-map k (Leads s (find s rules)) P (λ zs q. q ∙ d) (map Add adds) rules al in
                Over-later k P Q (map Add adds) (map Delete dels) rules al' (goes-on (find s old) mid refl (Along-end k P (map Add adds) rules al') e')
            | inr t ↦
                let leads : find s new ≡ Some t.0 = leads-new t.0 adds [] (append-nil adds) t.1 t.2 in
                let stays : has k new t.0 ≡ true = find-has k s t.0 new leads in
                let absent : has k dels t.0 ≡ false = has_reverse k t.0 (beyond k new old) ∙ (has_beyond k new old t.0 ∙ rw stays refl) in
                Over-sooner k P Q (map Add adds) (map Delete dels) rules
                (Over-map k (Leads s (find s rules)) (Leads s (Some t.0)) P Q (λ zs q. q ∙ d) (λ zs q. q ∙ sym leads) (map Add adds) rules t.3)
                (Along-map k (Leads s (Some t.0)) Q (λ zs q. q ∙ sym leads) (map Delete dels) mid (deleting-others k s t.0 dels mid t.4 absent))
          ]
