-- What stands beside the law: where an addition goes, which rules a walk asks, a rule of the kernel's own, and each moment.
use Rattle.std.proofs.Common.{◌≡◌, ℕ, ◌+◌, ◌<◌, ◌≤◌, true, false, List, [], ◌∷◌, ◌++◌, refl, sym, ◌∙◌, ap, inl, inr, arith, Option, Some, None, leb, not}
use Rattle.std.specs.Prelude.{◌⊎◌}
use Rattle.std.proofs.lemmas.Bool.{cases_Bool, cases_lt, false≢true, false_from_ne_true, leb-true, leb-false}
use Rattle.rule_law.specs.Rules.{Kind, has, NoneBelow, Rises, GiversAreAlike, walk, placed, placed_behind, has_not_greater}
use Rattle.rule_law.specs.Plans.{AreOldAndNew, beyond, plan, GoesOver, GoesOverAndBack}
use Rattle.rule_law.specs.Parts.{TurnsInto, AreUnlike, DoNotMeet}
use Rattle.rule_law.proofs.Membership.{filter-same, has_append}
use Rattle.rule_law.proofs.Orders.{NoneBelow-has, NoneBelow-lower}
use Rattle.rule_law.proofs.Turning.{TurnsInto-append, TurnsInto-conditions, TurnsInto-from, TurnsInto-same}

walk-step : {R V : Type 0} (gives other : R → Option V) (none : V) (x : R) (xs : List R) (o : Option V) → gives x ≡ o → other x ≡ o
    → walk gives none xs ≡ walk other none xs → walk gives none (x ∷ xs) ≡ walk other none (x ∷ xs)
walk-step gives other none x xs None a b t = rw (a, b, walk) t
walk-step gives other none x xs (Some v) a b t = rw (a, b, walk) refl

module _ {R : Type 0} (k : Kind R) where
  has_not_greater-above : (r : R) (n : ℕ) (xs : List R) → NoneBelow k n xs → k.priority r < n → has_not_greater k r xs ≡ false
  has_not_greater-above r n [] f l = refl
  has_not_greater-above r n (x ∷ xs) f l =
      elim (cases_Bool (leb (k.priority x) (k.priority r))) [
        | inl e ↦ absurd (omega (arith, leb-true _ _ e, f.0))
        | inr e ↦ rw e (has_not_greater-above r n xs f.1 l)
      ]

  pub placed_behind-is : (r : R) (xs : List R) → Rises k xs → placed_behind k r xs ≡ placed k r xs
  placed_behind-is r [] o = refl
  placed_behind-is r (x ∷ xs) o =
      elim (cases_Bool (leb (k.priority x) (k.priority r))) [
        | inl e ↦ rw e (ap (λ ys. x ∷ ys) (placed_behind-is r xs o.1))
        | inr e ↦ rw (e, has_not_greater-above r (k.priority x) xs o.0 (leb-false _ _ e)) refl
      ]

  pub GiversAreAlike-append : {V : Type 0} (gives : R → Option V) (xs ys : List R) → GiversAreAlike k gives xs → GiversAreAlike k gives ys
      → DoNotMeet k gives xs ys → GiversAreAlike k gives (xs ++ ys)
  GiversAreAlike-append gives xs ys a b h x y in_x in_y e s t =
      let at_x : (has k xs x ≡ true) ⊎ (has k ys x ≡ true) = which x in_x in
      let at_y : (has k xs y ≡ true) ⊎ (has k ys y ≡ true) = which y in_y in
      elim at_x [
        | inl u ↦ elim at_y [ inl v ↦ a x y u v e s t | inr v ↦ absurd (false≢true (sym (h x y u v e s) ∙ t)) ]
        | inr u ↦ elim at_y [ inl v ↦ absurd (false≢true (sym (h y x v u (sym e) t) ∙ s)) | inr v ↦ b x y u v e s t ]
      ]
    where
      which : (z : R) → has k (xs ++ ys) z ≡ true → (has k xs z ≡ true) ⊎ (has k ys z ≡ true)
      which z c = elim (cases_Bool (has k xs z)) [ inl u ↦ inl u | inr u ↦ inr (sym (has_append k z xs ys ∙ rw u refl) ∙ c) ]

  -- the walk asks the rules of the list alone
  pub walk-same : {V : Type 0} (gives other : R → Option V) (none : V) (xs : List R) → ((x : R) → has k xs x ≡ true → gives x ≡ other x) → walk gives none xs ≡ walk other none xs
  walk-same gives other none [] h = refl
  walk-same gives other none (x ∷ xs) h =
      walk-step gives other none x xs (other x) (h x (rw (k.same_self x) refl)) refl (walk-same gives other none xs (λ y t. h y (grind arith)))

  -- a rule of its own that the kernel has before all others
  module _ (own : R) where
    own-absent : (xs : List R) → NoneBelow k (k.priority own + 1) xs → has k xs own ≡ false
    own-absent xs u = false_from_ne_true (has k xs own) (λ t.
        let l : k.priority own + 1 ≤ k.priority own = NoneBelow-has k (k.priority own + 1) xs own u t in omega arith)

    own-unlike : (old new : List R) → NoneBelow k (k.priority own + 1) old → NoneBelow k (k.priority own + 1) new → AreUnlike k (own ∷ [] ++ own ∷ []) (old ++ new)
    own-unlike old new f g x y s t = false_from_ne_true (k.alike x y) (λ l.
        let e : k.priority x ≡ k.priority y = k.alike_priority x y l in
        let w : x ≡ own = grind (arith, k.same_is x own) in
        let d : k.priority x ≡ k.priority own = ap (λ z. k.priority z) w in
        let m : k.priority own + 1 ≤ k.priority y = elim (cases_Bool (has k old y)) [
          | inl u ↦ NoneBelow-has k (k.priority own + 1) old y f u
          | inr u ↦ NoneBelow-has k (k.priority own + 1) new y g (sym (has_append k y old new ∙ rw u refl) ∙ t)
        ] in
        omega arith)

    pub own-old_and_new : (old new : List R) → NoneBelow k (k.priority own + 1) old → NoneBelow k (k.priority own + 1) new → AreOldAndNew k old new → AreOldAndNew k (own ∷ old) (own ∷ new)
    own-old_and_new old new f g h =
        let t : TurnsInto k (own ∷ old) (own ∷ new) =
        TurnsInto-append k (own ∷ []) (own ∷ []) old new (own-unlike old new f g) (TurnsInto-same k (own ∷ [])) (TurnsInto-from k old new h.same_order h.new_behind) in
        let c : _ = TurnsInto-conditions k (own ∷ old) (own ∷ new) t in
        record {
          old_rises = (NoneBelow-lower k (k.priority own) (k.priority own + 1) old (omega arith) f, h.old_rises);
          new_rises = (NoneBelow-lower k (k.priority own) (k.priority own + 1) new (omega arith) g, h.new_rises);
          old_once = (own-absent old f, h.old_once);
          new_once = (own-absent new g, h.new_once);
          same_order = c.0;
          new_behind = c.1;
        }

    own-beyond : (xs ys : List R) → NoneBelow k (k.priority own + 1) ys → beyond k (own ∷ xs) (own ∷ ys) ≡ beyond k xs ys
    own-beyond xs ys f =
        let absent : has k ys own ≡ false = own-absent ys f in
        rw (k.same_self own) (filter-same k (λ x. not (has k (own ∷ xs) x)) (λ x. not (has k xs x)) ys (λ x t. grind (arith, k.same_is x own)))

    pub own-plan : (old new : List R) → NoneBelow k (k.priority own + 1) old → NoneBelow k (k.priority own + 1) new → plan k (own ∷ old) (own ∷ new) ≡ plan k old new
    own-plan old new f g = rw (own-beyond old new g, own-beyond new old f) refl

pub each_done : {V : Type 0} (last : ℕ) (at : ℕ → V) (old new : V) → GoesOver last at old new → (i : ℕ) → i ≤ last → (at i ≡ old) ⊎ (at i ≡ new)
each_done last at old new h i l = elim (cases_lt i h.switch) [ inl m ↦ inl (h.before i l m) | inr m ↦ inr (h.behind i l m) ]

pub each_undone : {V : Type 0} (last : ℕ) (at : ℕ → V) (old new : V) → GoesOverAndBack last at old new → (i : ℕ) → i ≤ last → (at i ≡ old) ⊎ (at i ≡ new)
each_undone last at old new h i l =
    elim (cases_lt i h.over) [
      | inl m ↦ inl (h.before i l m)
      | inr m ↦ elim (cases_lt i h.back) [ inl n ↦ inr (h.between i l m n) | inr n ↦ inl (h.behind i l n) ]
    ]
