-- How to show that an old and a new list of rules are as the law asks, part by part.
use Rattle.std.proofs.Common.{◌≡◌, Bool, true, false, cond, List, [], ◌∷◌, ◌++◌, refl, sym, ◌∙◌, ap, inl, inr, arith, filter, not}
use Rattle.std.specs.Prelude.{◌⊎◌}
use Rattle.std.proofs.lemmas.Bool.{false≢true, false_from_ne_true}
use Rattle.std.proofs.lemmas.List.{append-nil}
use Rattle.std.proofs.lemmas.List.Elements.{filter-append}
use Rattle.rule_law.specs.Rules.{Kind, has, class}
use Rattle.rule_law.specs.Plans.{common, beyond, KeepsOrder, PutsNewBehind}
use Rattle.rule_law.specs.Parts.{TurnsInto, AreUnlike}
use Rattle.rule_law.proofs.Membership.{filter-all, filter-none, filter-same, filter-swap, has_append, has_beyond, has_common, has_filter}

weave-left : {R : Type 0} (a b c d : List R) → a ≡ [] → b ≡ [] → (a ++ b) ++ (c ++ d) ≡ (a ++ c) ++ (b ++ d)
weave-left a b c d e f = rw (e, f) refl

weave-right : {R : Type 0} (a b c d : List R) → c ≡ [] → d ≡ [] → (a ++ b) ++ (c ++ d) ≡ (a ++ c) ++ (b ++ d)
weave-right a b c d e f = rw (e, f) (append-nil (a ++ b) ∙ (ap (λ zs. zs ++ b) (sym (append-nil a)) ∙ ap (λ zs. (a ++ []) ++ zs) (sym (append-nil b))))

module _ {R : Type 0} (k : Kind R) where
  -- the two conditions on the order are one equation

  order-kept : (old new : List R) → TurnsInto k old new → KeepsOrder k old new
  order-kept old new t = λ rule. sym (
      filter-swap k (k.alike rule) (has k old) new
      ∙ (ap (λ zs. filter (has k old) zs) (t rule)
      ∙ (filter-append (has k old) (class k rule (common k new old)) (class k rule (beyond k old new))
      ∙ (ap (λ zs. zs ++ filter (has k old) (class k rule (beyond k old new)))
      (filter-all k (has k old) (class k rule (common k new old)) (λ x h. grind (arith, has_filter k (k.alike rule) x (common k new old), has_common k new old x)))
      ∙ (ap (λ zs. class k rule (common k new old) ++ zs)
      (filter-none k (has k old) (class k rule (beyond k old new)) (λ x h. grind (arith, has_filter k (k.alike rule) x (beyond k old new), has_beyond k old new x)))
      ∙ append-nil (class k rule (common k new old)))))))

  pub TurnsInto-conditions : (old new : List R) → TurnsInto k old new → KeepsOrder k old new × PutsNewBehind k old new
  TurnsInto-conditions old new t =
      let o : KeepsOrder k old new = order-kept old new t in
      (o, λ rule. t rule ∙ ap (λ zs. zs ++ class k rule (beyond k old new)) (o rule))

  pub TurnsInto-from : (old new : List R) → KeepsOrder k old new → PutsNewBehind k old new → TurnsInto k old new
  TurnsInto-from old new o b = λ rule. b rule ∙ ap (λ zs. zs ++ class k rule (beyond k old new)) (sym (o rule))

  common-same : (xs : List R) → common k xs xs ≡ xs
  common-same xs = filter-all k (has k xs) xs (λ x h. h)

  beyond-same : (xs : List R) → beyond k xs xs ≡ []
  beyond-same xs = filter-none k (λ x. not (has k xs x)) xs (λ x h. grind arith)

  -- nothing changes
  pub TurnsInto-same : (xs : List R) → TurnsInto k xs xs
  TurnsInto-same xs rule =
      sym (append-nil (class k rule xs))
      ∙ (ap (λ zs. class k rule zs ++ []) (sym (common-same xs)) ∙ ap (λ zs. class k rule (common k xs xs) ++ class k rule zs) (sym (beyond-same xs)))

  -- nothing stays
  pub TurnsInto-replaced : (old new : List R) → ((x : R) → has k old x ≡ true → has k new x ≡ false) → TurnsInto k old new
  TurnsInto-replaced old new h rule =
      ap (λ zs. class k rule zs) (sym (filter-all k (λ x. not (has k old x)) new (λ x t. grind (arith, h x))))
      ∙ ap (λ zs. class k rule zs ++ class k rule (beyond k old new)) (sym (filter-none k (has k new) old h))

  -- some are deleted
  pub TurnsInto-part : (p : R → Bool) (xs : List R) → TurnsInto k xs (filter p xs)
  TurnsInto-part p xs rule =
      let stays : common k (filter p xs) xs ≡ filter p xs = filter-same k (has k (filter p xs)) p xs (λ x t. has_filter k p x xs ∙ grind arith) in
      let none : beyond k xs (filter p xs) ≡ [] = filter-none k (λ x. not (has k xs x)) (filter p xs) (λ x t. grind (arith, has_filter k p x xs)) in
      sym (append-nil (class k rule (filter p xs)))
      ∙ (ap (λ zs. class k rule zs ++ []) (sym stays) ∙ ap (λ zs. class k rule (common k (filter p xs) xs) ++ class k rule zs) (sym none))

  -- some are added at the end
  pub TurnsInto-more : (xs more : List R) → ((x : R) → has k more x ≡ true → has k xs x ≡ false) → TurnsInto k xs (xs ++ more)
  TurnsInto-more xs more h rule =
      let stays : common k (xs ++ more) xs ≡ xs = filter-all k (has k (xs ++ more)) xs (λ x t. has_append k x xs more ∙ rw t refl) in
      let new : beyond k xs (xs ++ more) ≡ more =
      filter-append (λ x. not (has k xs x)) xs more
      ∙ (ap (λ zs. zs ++ filter (λ x. not (has k xs x)) more) (beyond-same xs)
      ∙ filter-all k (λ x. not (has k xs x)) more (λ x t. grind (arith, h x))) in
      filter-append (k.alike rule) xs more
      ∙ (ap (λ zs. class k rule zs ++ class k rule more) (sym stays) ∙ ap (λ zs. class k rule (common k (xs ++ more) xs) ++ class k rule zs) (sym new))

  class-cases : (rule : R) (xs ys : List R) → AreUnlike k xs ys → (zs : List R) → class k rule xs ≡ zs → (class k rule xs ≡ []) ⊎ (class k rule ys ≡ [])
  class-cases rule xs ys a [] e = inl e
  class-cases rule xs ys a (x ∷ zs) e =
      let there : has k (class k rule xs) x ≡ true = ap (λ us. has k us x) e ∙ rw (k.same_self x) refl in
      let here : has k (class k rule xs) x ≡ cond (k.alike rule x) (has k xs x) false = has_filter k (k.alike rule) x xs in
      let in_xs : has k xs x ≡ true = grind arith in
      let like : k.alike rule x ≡ true = grind arith in
      inr (filter-none k (k.alike rule) ys (λ y t. k.alike_both rule x y like ∙ a x y in_xs t))

  class-empty : (rule : R) (xs ys : List R) → class k rule xs ≡ [] → ((y : R) → has k ys y ≡ true → has k xs y ≡ true) → class k rule ys ≡ []
  class-empty rule xs ys e h =
      filter-none k (k.alike rule) ys (λ y t.
      let none : has k (class k rule xs) y ≡ false = ap (λ us. has k us y) e in
      grind (arith, has_filter k (k.alike rule) y xs, h y))

  pub not-both : (xs ys : List R) (x : R) → AreUnlike k xs ys → has k xs x ≡ true → has k ys x ≡ false
  not-both xs ys x a h = false_from_ne_true (has k ys x) (λ t. false≢true (sym (a x x h t) ∙ k.alike_self x))

  -- two parts of the lists, of which no rule of the one has the priority and the selectors of one of the other
  pub TurnsInto-append : (old new old' new' : List R) → AreUnlike k (old ++ new) (old' ++ new') → TurnsInto k old new → TurnsInto k old' new' → TurnsInto k (old ++ old') (new ++ new')
  TurnsInto-append old new old' new' a t t' rule =
      let front : (x : R) → has k (old ++ new) x ≡ cond (has k old x) true (has k new x) = λ x. has_append k x old new in
      let back : (x : R) → has k (old' ++ new') x ≡ cond (has k old' x) true (has k new' x) = λ x. has_append k x old' new' in
      let c1 : common k (new ++ new') old ≡ common k new old = filter-same k (has k (new ++ new')) (has k new) old
      (λ x h. has_append k x new new' ∙ grind (arith, not-both (old ++ new) (old' ++ new') x a, front x, back x)) in
      let c2 : common k (new ++ new') old' ≡ common k new' old' = filter-same k (has k (new ++ new')) (has k new') old'
      (λ x h. has_append k x new new' ∙ grind (arith, not-both (old ++ new) (old' ++ new') x a, front x, back x)) in
      let b1 : beyond k (old ++ old') new ≡ beyond k old new = filter-same k (λ x. not (has k (old ++ old') x)) (λ x. not (has k old x)) new
      (λ x h. ap (λ b. not b) (has_append k x old old' ∙ grind (arith, not-both (old ++ new) (old' ++ new') x a, front x, back x))) in
      let b2 : beyond k (old ++ old') new' ≡ beyond k old' new' = filter-same k (λ x. not (has k (old ++ old') x)) (λ x. not (has k old' x)) new'
      (λ x h. ap (λ b. not b) (has_append k x old old' ∙ grind (arith, not-both (old ++ new) (old' ++ new') x a, front x, back x))) in
      let c : class k rule (common k (new ++ new') (old ++ old')) ≡ class k rule (common k new old) ++ class k rule (common k new' old') =
      ap (λ zs. class k rule zs) (filter-append (has k (new ++ new')) old old' ∙ (ap (λ zs. zs ++ common k (new ++ new') old') c1 ∙ ap (λ zs. common k new old ++ zs) c2))
      ∙ filter-append (k.alike rule) (common k new old) (common k new' old') in
      let b : class k rule (beyond k (old ++ old') (new ++ new')) ≡ class k rule (beyond k old new) ++ class k rule (beyond k old' new') =
      ap (λ zs. class k rule zs) (filter-append (λ x. not (has k (old ++ old') x)) new new' ∙ (ap (λ zs. zs ++ beyond k (old ++ old') new') b1 ∙ ap (λ zs. beyond k old new ++ zs) b2))
      ∙ filter-append (k.alike rule) (beyond k old new) (beyond k old' new') in
      let whole : class k rule (new ++ new') ≡ (class k rule (common k new old) ++ class k rule (beyond k old new)) ++ (class k rule (common k new' old') ++ class k rule (beyond k old' new')) =
      filter-append (k.alike rule) new new' ∙ (ap (λ zs. zs ++ class k rule new') (t rule) ∙ ap (λ zs. (class k rule (common k new old) ++ class k rule (beyond k old new)) ++ zs) (t' rule)) in
      let woven : (class k rule (common k new old) ++ class k rule (beyond k old new)) ++ (class k rule (common k new' old') ++ class k rule (beyond k old' new'))
      ≡ (class k rule (common k new old) ++ class k rule (common k new' old')) ++ (class k rule (beyond k old new) ++ class k rule (beyond k old' new')) =
      elim (class-cases rule (old ++ new) (old' ++ new') a (class k rule (old ++ new)) refl) [
        | inl e ↦
            let x : class k rule (common k new old) ≡ [] = class-empty rule (old ++ new) (common k new old) e (λ y h. front y ∙ grind (arith, has_common k new old y)) in
            let y : class k rule (beyond k old new) ≡ [] = class-empty rule (old ++ new) (beyond k old new) e (λ y h. front y ∙ grind (arith, has_beyond k old new y)) in
            weave-left (class k rule (common k new old)) (class k rule (beyond k old new)) (class k rule (common k new' old')) (class k rule (beyond k old' new')) x y
        | inr e ↦
            let x : class k rule (common k new' old') ≡ [] = class-empty rule (old' ++ new') (common k new' old') e (λ y h. back y ∙ grind (arith, has_common k new' old' y)) in
            let y : class k rule (beyond k old' new') ≡ [] = class-empty rule (old' ++ new') (beyond k old' new') e (λ y h. back y ∙ grind (arith, has_beyond k old' new' y)) in
            weave-right (class k rule (common k new old)) (class k rule (beyond k old new)) (class k rule (common k new' old')) (class k rule (beyond k old' new')) x y
      ] in
      whole ∙ (woven ∙ (ap (λ zs. zs ++ (class k rule (beyond k old new) ++ class k rule (beyond k old' new'))) (sym c)
      ∙ ap (λ zs. class k rule (common k (new ++ new') (old ++ old')) ++ zs) (sym b)))
