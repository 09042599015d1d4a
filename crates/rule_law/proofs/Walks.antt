-- What a walk gives is what the leading rule gives, and a list that stands for a table has the table's leading rule.
use Rattle.std.proofs.Common.{◌≡◌, ◌≤◌, Bool, true, List, [], ◌∷◌, refl, sym, ◌∙◌, ap, arith, Option, Some, None}
use Rattle.std.specs.Prelude.{is_some}
use Rattle.std.specs.List.{find}
use Rattle.std.proofs.lemmas.Bool.{false≢true}
use Rattle.rule_law.specs.Rules.{Kind, has, Rises, Stands, GiversAreAlike, walk}
use Rattle.rule_law.proofs.Leading.{find-filter, find-has, find-least, find-silent, find-speaks}
use Rattle.rule_law.proofs.Classes.{has-classes}

-- whether a rule gives the packet something
abbrev pub speaks : {R V : Type 0} → (R → Option V) → R → Bool
speaks gives r = is_some (gives r)

-- what the leading rule gives
abbrev pub said : {R V : Type 0} → (R → Option V) → V → Option R → V
said gives none None = none
said gives none (Some r) = elim (gives r) [ Some v ↦ v | None ↦ none ]

module _ {R V : Type 0} (gives : R → Option V) (none : V) where
  walk-one : (x : R) (xs : List R) → walk gives none xs ≡ said gives none (find (speaks gives) xs)
      → (o : Option V) → gives x ≡ o → walk gives none (x ∷ xs) ≡ said gives none (find (speaks gives) (x ∷ xs))
  walk-one x xs h None e = rw (e, walk) h
  walk-one x xs h (Some v) e = rw (e, walk) (rw e refl)

  pub walk-find : (xs : List R) → walk gives none xs ≡ said gives none (find (speaks gives) xs)
  walk-find [] = refl
  walk-find (x ∷ xs) = walk-one x xs (walk-find xs) (gives x) refl

  pub same_walk : (xs ys : List R) → find (speaks gives) xs ≡ find (speaks gives) ys → walk gives none xs ≡ walk gives none ys
  same_walk xs ys e = walk-find xs ∙ (ap (λ o. said gives none o) e ∙ sym (walk-find ys))

module _ {R V : Type 0} (k : Kind R) (gives : R → Option V) where
  same-leader : (xs ys : List R) → Stands k xs ys → Rises k ys → GiversAreAlike k gives ys
      → (o p : Option R) → find (speaks gives) xs ≡ o → find (speaks gives) ys ≡ p → o ≡ p
  same-leader xs ys h n u None None d e = refl
  same-leader xs ys h n u None (Some y) d e =
      let in_ys : has k ys y ≡ true = find-has k (speaks gives) y ys e in
      let in_xs : has k xs y ≡ true = has-classes k xs ys h.classes y ∙ in_ys in
      absurd (false≢true (sym (find-silent k (speaks gives) y xs d in_xs) ∙ find-speaks k (speaks gives) y ys e))
  same-leader xs ys h n u (Some x) None d e =
      let in_xs : has k xs x ≡ true = find-has k (speaks gives) x xs d in
      let in_ys : has k ys x ≡ true = sym (has-classes k xs ys h.classes x) ∙ in_xs in
      absurd (false≢true (sym (find-silent k (speaks gives) x ys e in_ys) ∙ find-speaks k (speaks gives) x xs d))
  same-leader xs ys h n u (Some x) (Some y) d e =
      let s : R → Bool = speaks gives in
      let x_in_xs : has k xs x ≡ true = find-has k s x xs d in
      let x_in_ys : has k ys x ≡ true = sym (has-classes k xs ys h.classes x) ∙ x_in_xs in
      let y_in_ys : has k ys y ≡ true = find-has k s y ys e in
      let y_in_xs : has k xs y ≡ true = has-classes k xs ys h.classes y ∙ y_in_ys in
      let x_says : s x ≡ true = find-speaks k s x xs d in
      let y_says : s y ≡ true = find-speaks k s y ys e in
      let le : k.priority x ≤ k.priority y = find-least k s x y xs h.rises d y_in_xs y_says in
      let ge : k.priority y ≤ k.priority x = find-least k s y x ys n e x_in_ys x_says in
      let like : k.alike x y ≡ true = u x y x_in_ys y_in_ys (omega arith) x_says y_says in
      sym (find-filter k s (k.alike x) x xs d (k.alike_self x)) ∙ (ap (λ zs. find s zs) (h.classes x) ∙ find-filter k s (k.alike x) y ys e like)

  -- the leading rule is that of the table
  pub leads-stands : (xs ys : List R) → Stands k xs ys → Rises k ys → GiversAreAlike k gives ys → find (speaks gives) xs ≡ find (speaks gives) ys
  leads-stands xs ys h n u = same-leader xs ys h n u (find (speaks gives) xs) (find (speaks gives) ys) refl refl
