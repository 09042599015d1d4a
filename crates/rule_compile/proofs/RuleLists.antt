-- Lists that have each rule once, and rules that are made item by item.
use Rattle.std.proofs.Common.{◌≡◌, ◌+◌, ◌∷◌, [], ◌++◌, take, List, true, refl, sym, ◌∙◌, ap, subst, inl, inr, map, append_assoc, ℕ}
use Rattle.std.specs.Prelude.{flat_map}
use Rattle.std.proofs.lemmas.Bool.{cases_Bool, false≢true}
use Rattle.std.proofs.lemmas.Grind.{flat_map-append}
use Rattle.std.proofs.lemmas.List.{map-append, append-nil}
use Rattle.rule_law.specs.Rules.{has, HasEachOnce, AreAbsent}
use Rattle.rule_law.proofs.Membership.{has_append}
use Rattle.rule_match.specs.Rule.{same_rule}
use Rattle.rule_match.specs.declared.rule.Rule.{Rule}
use Rattle.rule_match.proofs.Sames.{same_rule-true}
use Rattle.rule_kinds.specs.Kind.{rule_kind}

-- of a list that has each rule once, no rule of the end stands before it
pub once-apart : (xs ys : List Rule) → HasEachOnce rule_kind (xs ++ ys) → AreAbsent rule_kind ys xs
once-apart [] ys once = λ y h. refl
once-apart (x ∷ xs) ys once = λ y h.
    elim (cases_Bool (same_rule y x)) [
      | inl here ↦
          let there : has rule_kind (xs ++ ys) x ≡ true = subst (λ z. has rule_kind (xs ++ ys) z ≡ true) (same_rule-true y x here) (behind xs y h) in
          absurd (false≢true (sym once.0 ∙ there))
      | inr other ↦ rw other (once-apart xs ys once.1 y h)
    ]
  where
    behind : (zs : List Rule) (y : Rule) → has rule_kind ys y ≡ true → has rule_kind (zs ++ ys) y ≡ true
    behind zs y h = has_append rule_kind y zs ys ∙ elim (cases_Bool (has rule_kind zs y)) [ inl t ↦ rw t refl | inr t ↦ rw (t, h) refl ]

pub once-behind : (xs ys : List Rule) → HasEachOnce rule_kind (xs ++ ys) → HasEachOnce rule_kind ys
once-behind [] ys once = once
once-behind (x ∷ xs) ys once = once-behind xs ys once.1

-- what is appended for one item more
module _ {N A : Type 0} (h : A → Rule) (front old new : List Rule) (items : List N) (i : ℕ) (x : N) (next : take (i + 1) items ≡ take i items ++ x ∷ []) where
  pub one-more : (g : N → A) → old ≡ front ++ map h (map g (take i items)) → new ≡ old ++ h (g x) ∷ [] → new ≡ front ++ map h (map g (take (i + 1) items))
  one-more g was is =
      is ∙ (ap (λ zs. zs ++ h (g x) ∷ []) was
      ∙ (append_assoc front (map h (map g (take i items))) (h (g x) ∷ [])
      ∙ ap (λ zs. front ++ zs) (sym (ap (λ zs. map h (map g zs)) next ∙ (ap (map h) (map-append g (take i items) (x ∷ [])) ∙ map-append h (map g (take i items)) (g x ∷ []))))))

  pub more-of : (g : N → List A) → old ≡ front ++ map h (flat_map g (take i items)) → new ≡ old ++ map h (g x) → new ≡ front ++ map h (flat_map g (take (i + 1) items))
  more-of g was is =
      is ∙ (ap (λ zs. zs ++ map h (g x)) was
      ∙ (append_assoc front (map h (flat_map g (take i items))) (map h (g x))
      ∙ ap (λ zs. front ++ zs) (sym (ap (λ zs. map h (flat_map g zs)) next
      ∙ (ap (map h) (flat_map-append g (take i items) (x ∷ []) ∙ ap (λ zs. flat_map g (take i items) ++ zs) (append-nil (g x))) ∙ map-append h (flat_map g (take i items)) (g x))))))
