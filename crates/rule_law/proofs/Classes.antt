-- What additions and deletions do to the rules of one priority and selectors, and for what a list stands in the end.
use Rattle.std.proofs.Common.{◌≡◌, ℕ, ◌+◌, ◌≤◌, ◌<◌, Bool, true, false, cond, List, [], ◌∷◌, ◌++◌, refl, sym, ◌∙◌, ap, subst, inl, inr, arith, filter, not, map, reverse, append_assoc, leb}
use Rattle.std.proofs.lemmas.Bool.{cases_Bool, leb-false}
use Rattle.std.proofs.lemmas.List.{append-nil}
use Rattle.std.proofs.lemmas.List.Elements.{filter-append}
use Rattle.rule_law.specs.Rules.{Kind, placed, without, has, NoneBelow, Rises, HasEachOnce, class, Stands}
use Rattle.rule_law.specs.Plans.{common, beyond, KeepsOrder, PutsNewBehind, Add, Delete, after, plan}
use Rattle.rule_law.proofs.Membership.{filter-all, filter-same, filter-swap, has_beyond, has_filter, has_reverse}
use Rattle.rule_law.proofs.Orders.{HasEachOnce-filter, Rises-placed, Rises-without}
use Rattle.rule_law.proofs.Moments.{after-append}
use Rattle.rule_law.proofs.Counts.{count, count-absent, count-added, count-class, count-filter, count-reverse, deleted}

module _ {R : Type 0} (k : Kind R) where
  -- membership by classes

  pub has_class : (x : R) (xs : List R) → has k (class k x xs) x ≡ has k xs x
  has_class x xs = has_filter k (k.alike x) x xs ∙ rw (k.alike_self x) refl

  pub has-classes : (xs ys : List R) → ((rule : R) → class k rule xs ≡ class k rule ys) → (x : R) → has k xs x ≡ has k ys x
  has-classes xs ys h x = sym (has_class x xs) ∙ (ap (λ zs. has k zs x) (h x) ∙ has_class x ys)

  HasEachOnce-tail : (p : R → Bool) (x : R) (xs : List R) → HasEachOnce k (filter p (x ∷ xs)) → HasEachOnce k (filter p xs)
  HasEachOnce-tail p x xs h = elim (cases_Bool (p x)) [ inl t ↦ (rw t at h).1 | inr t ↦ rw t at h ]

  pub HasEachOnce-classes : (xs : List R) → ((rule : R) → HasEachOnce k (class k rule xs)) → HasEachOnce k xs
  HasEachOnce-classes [] h = tt
  HasEachOnce-classes (x ∷ xs) h =
      (sym (has_class x xs) ∙ (rw (k.alike_self x) at (h x)).0, HasEachOnce-classes xs (λ rule. HasEachOnce-tail (k.alike rule) x xs (h rule)))

  pub HasEachOnce-like : (xs ys : List R) → ((rule : R) → class k rule xs ≡ class k rule ys) → HasEachOnce k ys → HasEachOnce k xs
  HasEachOnce-like xs ys h o = HasEachOnce-classes xs (λ rule. subst (λ zs. HasEachOnce k zs) (sym (h rule)) (HasEachOnce-filter k (k.alike rule) ys o))

  -- an addition goes after its class

  class-none : (rule : R) (n : ℕ) (xs : List R) → k.priority rule < n → NoneBelow k n xs → class k rule xs ≡ []
  class-none rule n [] l f = refl
  class-none rule n (x ∷ xs) l f =
      elim (cases_Bool (k.alike rule x)) [
        | inl t ↦ let e : k.priority rule ≡ k.priority x = k.alike_priority rule x t in absurd (omega (arith, f.0))
        | inr t ↦ rw t (class-none rule n xs l f.1)
      ]

  pub class-placed : (rule r : R) (xs : List R) → Rises k xs → class k rule (placed k r xs) ≡ class k rule xs ++ class k rule (r ∷ [])
  class-placed rule r [] o = refl
  class-placed rule r (x ∷ xs) o =
      elim (cases_Bool (leb (k.priority x) (k.priority r))) [
        | inl e ↦ rw e (elim (cases_Bool (k.alike rule x)) [
          | inl t ↦ rw t (ap (λ zs. x ∷ zs) (class-placed rule r xs o.1))
          | inr t ↦ rw t (class-placed rule r xs o.1)
        ])
        | inr e ↦ rw e (elim (cases_Bool (k.alike rule r)) [
          | inl t ↦
              let same : k.priority rule ≡ k.priority r = k.alike_priority rule r t in
              let less : k.priority rule < k.priority x = omega (arith, leb-false _ _ e) in
              let none : class k rule (x ∷ xs) ≡ [] = class-none rule (k.priority x) (x ∷ xs) less (omega arith, o.0) in
              rw t (ap (λ zs. r ∷ zs) none ∙ sym (ap (λ zs. zs ++ r ∷ []) none))
          | inr t ↦ rw t (sym (append-nil (class k rule (x ∷ xs))))
        ])
      ]

  pub Rises-added : (rs xs : List R) → Rises k xs → Rises k (after k (map Add rs) xs)
  Rises-added [] xs o = o
  Rises-added (r ∷ rs) xs o = Rises-added rs (placed k r xs) (Rises-placed k r xs o)

  pub Rises-deleted : (ds xs : List R) → Rises k xs → Rises k (after k (map Delete ds) xs)
  Rises-deleted [] xs o = o
  Rises-deleted (d ∷ ds) xs o = Rises-deleted ds (without k d xs) (Rises-without k d xs o)

  class-one_more : (rule r : R) (rs : List R) → class k rule (r ∷ []) ++ class k rule rs ≡ class k rule (r ∷ rs)
  class-one_more rule r rs = sym (filter-append (k.alike rule) (r ∷ []) rs)

  pub class-added : (rule : R) (rs xs : List R) → Rises k xs → class k rule (after k (map Add rs) xs) ≡ class k rule xs ++ class k rule rs
  class-added rule [] xs o = sym (append-nil (class k rule xs))
  class-added rule (r ∷ rs) xs o =
      class-added rule rs (placed k r xs) (Rises-placed k r xs o)
      ∙ (ap (λ zs. zs ++ class k rule rs) (class-placed rule r xs o)
      ∙ (append_assoc (class k rule xs) (class k rule (r ∷ [])) (class k rule rs)
      ∙ ap (λ zs. class k rule xs ++ zs) (class-one_more rule r rs)))

  -- in the end the list stands for the new table

  pub stands_in_the_end : (old new rules : List R) → KeepsOrder k old new → PutsNewBehind k old new → Stands k rules old
      → Stands k (after k (plan k old new) rules) new
  stands_in_the_end old new rules same_order new_behind g =
      let adds : List R = beyond k old new in
      let dels : List R = reverse (beyond k new old) in
      let mid : List R = after k (map Add adds) rules in
      let keep : R → Bool = λ x. not (has k dels x) in
      let in_order : Rises k (after k (map Delete dels) mid) = Rises-deleted dels mid (Rises-added adds rules g.rises) in
      let gone : (x : R) → has k dels x ≡ cond (not (has k new x)) (has k old x) false = λ x. has_reverse k x (beyond k new old) ∙ has_beyond k new old x in
      let olds : filter keep old ≡ common k new old = filter-same k keep (has k new) old (λ x t. grind (arith, gone x)) in
      let news : filter keep adds ≡ adds = filter-all k keep adds (λ x t. grind (arith, gone x, has_beyond k old new x)) in
      let enough : (y : R) → has k dels y ≡ true → count k y mid ≤ count k y dels = λ y t.
      let in_new : has k new y ≡ false = grind (arith, gone y) in
      let added : count k y adds ≡ 0 = count-absent k y adds (grind (arith, has_beyond k old new y)) in
      let there : count k y rules ≡ count k y old = sym (count-class k y rules) ∙ (ap (λ zs. count k y zs) (g.classes y) ∙ count-class k y old) in
      let deleted_often : count k y dels ≡ count k y old =
      count-reverse k y (beyond k new old) ∙ (count-filter k y (λ x. not (has k new x)) old ∙ rw in_new refl) in
      let both : count k y mid ≡ count k y adds + count k y rules = count-added k y adds rules in
      omega (arith, added, there, deleted_often, both) in
      let classes : (rule : R) → class k rule (after k (map Delete dels) mid) ≡ class k rule new = λ rule.
      ap (λ zs. class k rule zs) (deleted k dels mid enough)
      ∙ (filter-swap k (k.alike rule) keep mid
      ∙ (ap (λ zs. filter keep zs) (class-added rule adds rules g.rises ∙ ap (λ zs. zs ++ class k rule adds) (g.classes rule))
      ∙ (filter-append keep (class k rule old) (class k rule adds)
      ∙ (ap (λ zs. zs ++ filter keep (class k rule adds)) (filter-swap k keep (k.alike rule) old ∙ (ap (λ zs. class k rule zs) olds ∙ same_order rule))
      ∙ (ap (λ zs. class k rule (common k old new) ++ zs) (filter-swap k keep (k.alike rule) adds ∙ ap (λ zs. class k rule zs) news)
      ∙ sym (new_behind rule)))))) in
      subst (λ zs. Stands k zs new) (sym (after-append k (map Add adds) (map Delete dels) rules)) (record { rises = in_order; classes = classes })
