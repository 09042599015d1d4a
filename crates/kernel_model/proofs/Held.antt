-- A switch of values by moments, when the moments stop sooner and the last one stays.
use Rattle.std.proofs.Common.{◌≡◌, ℕ, suc, ◌+◌, ◌<◌, ◌≤◌, sym, ◌∙◌, arith, inl, inr}
use Rattle.std.proofs.lemmas.Bool.{cases_lt}
use Rattle.rule_law.specs.Plans.{GoesOver, GoesOverAndBack}

pub over_and_back : {V : Type 0} (last : ℕ) (at : ℕ → V) (old new : V) → GoesOver last at old new → GoesOverAndBack last at old new
over_and_back last at old new h = record {
  over = h.switch;
  back = h.switch + suc last;
  in_order = omega arith;
  before = h.before;
  between = λ i l m n. h.behind i l m;
  behind = λ i l m. absurd (omega (arith, l, m));
}

module _ {V : Type 0} (at held : ℕ → V) (old new : V) (last n end : ℕ) (within : n ≤ last) (same : (i : ℕ) → i ≤ end → i ≤ n → held i ≡ at i) (stays : (i : ℕ) → i ≤ end → n < i → held i ≡ at n) (stops : n ≤ end) where
  -- what holds at the moments up to n holds at all that are held
  each : (v : V) (from : ℕ) (i : ℕ) → i ≤ end → from ≤ n → from ≤ i → ((j : ℕ) → j ≤ n → from ≤ j → at j ≡ v) → held i ≡ v
  each v from i l below past h = elim (cases_lt n i) [
    | inl more ↦ stays i l more ∙ h n (omega arith) below
    | inr less ↦ same i l less ∙ h i less past
  ]

  pub held_over : GoesOver last at old new → GoesOver end held old new
  held_over h = elim (cases_lt n h.switch) [
    | inl early ↦ record {
      switch = suc end;
      before = λ i l m. each old 0 i l (omega arith) (omega arith) (λ j k p. h.before j (omega (arith, k, within)) (omega (arith, k, early)));
      behind = λ i l m. absurd (omega (arith, l, m));
    }
    | inr late ↦ record {
      switch = h.switch;
      before = λ i l m. same i l (omega (arith, m, late)) ∙ h.before i (omega (arith, m, late, within)) m;
      behind = λ i l m. each new h.switch i l late m (λ j k p. h.behind j (omega (arith, k, within)) p);
    }
  ]

  pub held_back : GoesOverAndBack last at old new → GoesOverAndBack end held old new
  held_back h = elim (cases_lt n h.over) [
    | inl early ↦ record {
      over = suc end;
      back = suc end;
      in_order = omega arith;
      before = λ i l m. each old 0 i l (omega arith) (omega arith) (λ j k p. h.before j (omega (arith, k, within)) (omega (arith, k, early)));
      between = λ i l m p. absurd (omega (arith, l, m));
      behind = λ i l m. absurd (omega (arith, l, m));
    }
    | inr late ↦ elim (cases_lt n h.back) [
      | inl first ↦ record {
        over = h.over;
        back = suc end;
        in_order = omega (arith, late, stops);
        before = λ i l m. same i l (omega (arith, m, late)) ∙ h.before i (omega (arith, m, late, within)) m;
        between = λ i l m p. each new h.over i l late m (λ j k q. h.between j (omega (arith, k, within)) q (omega (arith, k, first)));
        behind = λ i l m. absurd (omega (arith, l, m));
      }
      | inr second ↦ record {
        over = h.over;
        back = h.back;
        in_order = h.in_order;
        before = λ i l m. same i l (omega (arith, m, late)) ∙ h.before i (omega (arith, m, late, within)) m;
        between = λ i l m p. same i l (omega (arith, p, second)) ∙ h.between i (omega (arith, p, second, within)) m p;
        behind = λ i l m. each old h.back i l second m (λ j k q. h.behind j (omega (arith, k, within)) q);
      }
    ]
  ]

module _ {V : Type 0} (last end : ℕ) (at other : ℕ → V) (old old' new new' : V) (ends : last ≡ end) (same : (i : ℕ) → at i ≡ other i) (is_old : old ≡ old') (is_new : new ≡ new') where
  pub over-same : GoesOver last at old new → GoesOver end other old' new'
  over-same h = record {
    switch = h.switch;
    before = λ i l m. sym (same i) ∙ h.before i (omega (arith, l, ends)) m ∙ is_old;
    behind = λ i l m. sym (same i) ∙ h.behind i (omega (arith, l, ends)) m ∙ is_new;
  }

  pub back-same : GoesOverAndBack last at old new → GoesOverAndBack end other old' new'
  back-same h = record {
    over = h.over;
    back = h.back;
    in_order = h.in_order;
    before = λ i l m. sym (same i) ∙ h.before i (omega (arith, l, ends)) m ∙ is_old;
    between = λ i l m n. sym (same i) ∙ h.between i (omega (arith, l, ends)) m n ∙ is_new;
    behind = λ i l m. sym (same i) ∙ h.behind i (omega (arith, l, ends)) m ∙ is_old;
  }
