-- A table in order: the rows follow one another, and a row whose rules have one priority is in order as it comes.
use Rattle.std.proofs.Common.{◌≡◌, ◌∙◌, ◌+◌, ◌≤◌, Bool, true, false, List, [], ◌∷◌, ◌++◌, refl, sym, ap, subst, inl, inr, arith, leb, ◌==◌, ℕ, zero, suc, ◌<◌}
use Rattle.std.specs.Prelude.{flat_map, if◌then◌else◌, ℕ, ◌==◌, filter, List, [], ◌∷◌}
use Rattle.std.specs.List.{list_all}
use Rattle.std.proofs.lemmas.Bool.{cases_Bool, and_parts, leb-true, leb-false, false≢true, false_from_ne_true, eqb-true, eq-eqb}
use Rattle.rule_law.specs.Rules.{Kind}
use Rattle.rule_match.specs.declared.rule.Rule.{Rule}
use Rattle.rule_kinds.specs.Kind.{rule_kind}
use Rattle.policy_state.proofs.RowTests.{is_not_above, rise, rows_rise}
use Rattle.policy_state.specs.View.{StateView}
use Rattle.policy_state.specs.Rows.{Item, Row, items, numbers_from}
use Rattle.policy_state.specs.Table.{put, in_order, rule_of, rules_in, rows, table_by_rows, priority_at}
use Rattle.policy_state.proofs.Owners.{Has, Owners, AreOwners, OfMap, of_map, OfFlat, of_flat}
use Rattle.policy_state.proofs.OneNetwork.{rank-few}
use Rattle.policy_state.proofs.AlikeRules.{OfSomeRow, of_row, all-has}

module _ {R : Type 0} (k : Kind R) where
  pub put-front : (x : R) (ys : List R) → ((y : R) → Has ys y → k.priority x ≤ k.priority y) → put k x ys ≡ x ∷ ys
  put-front x [] h = refl
  put-front x (y ∷ ys) h = elim (cases_Bool (leb (k.priority x) (k.priority y))) [
    | inl e ↦ rw e refl
    | inr e ↦ let low : k.priority x ≤ k.priority y = h y (inl refl) in absurd (omega (arith, leb-false _ _ e, low))
  ]

  put-append : (x : R) (xs ys : List R) → ((y : R) → Has ys y → k.priority x ≤ k.priority y) → put k x (xs ++ ys) ≡ put k x xs ++ ys
  put-append x [] ys h = put-front x ys h
  put-append x (z ∷ zs) ys h = elim (cases_Bool (leb (k.priority x) (k.priority z))) [
    | inl e ↦ rw e refl
    | inr e ↦ rw e (ap (λ ws. z ∷ ws) (put-append x zs ys h))
  ]

  of_put : (x : R) (ys : List R) (z : R) → Has (put k x ys) z → Has (x ∷ ys) z
  of_put x [] z h = h
  of_put x (y ∷ ys) z h = by (leb (k.priority x) (k.priority y)) (of_put x ys z) h
    where
      by : (b : Bool) → (Has (put k x ys) z → Has (x ∷ ys) z) → Has (if b then x ∷ y ∷ ys else y ∷ put k x ys) z → Has (x ∷ y ∷ ys) z
      by true rest h = h
      by false rest (inl e) = inr (inl e)
      by false rest (inr t) = elim (rest t) [ inl e ↦ inl e | inr u ↦ inr (inr u) ]

  pub of_order : (xs : List R) (z : R) → Has (in_order k xs) z → Has xs z
  of_order [] z h = h
  of_order (x ∷ xs) z h = elim (of_put x (in_order k xs) z h) [ inl e ↦ inl e | inr t ↦ inr (of_order xs z t) ]

  pub order-append : (xs ys : List R) → ((x y : R) → Has xs x → Has ys y → k.priority x ≤ k.priority y) → in_order k (xs ++ ys) ≡ in_order k xs ++ in_order k ys
  order-append [] ys h = refl
  order-append (x ∷ xs) ys h =
      ap (put k x) (order-append xs ys (λ y z g t. h y z (inr g) t))
      ∙ put-append x (in_order k xs) (in_order k ys) (λ y t. h x y (inl refl) (of_order ys y t))

  pub order-level : (xs : List R) → ((x y : R) → Has xs x → Has xs y → k.priority x ≡ k.priority y) → in_order k xs ≡ xs
  order-level [] h = refl
  order-level (x ∷ xs) h =
      ap (put k x) (order-level xs (λ y z g t. h y z (inr g) (inr t)))
      ∙ put-front x xs (λ y t. let e : k.priority x ≡ k.priority y = h x y (inl refl) (inr t) in omega arith)

module _ (o : Owners) (s : StateView) (own : AreOwners o s) where
  not-above : (a b : Row) (i j : Item) → is_not_above a b ≡ true → i.rank ≤ 99 → priority_at a i ≤ priority_at b j
  not-above a b i j h few = by a.ranked b.ranked (leb-true (a.base + (if a.ranked then 99 else 0)) b.base h)
    where
      by : (c d : Bool) → a.base + (if c then 99 else 0) ≤ b.base → a.base + (if c then i.rank else 0) ≤ b.base + (if d then j.rank else 0)
      by true true h = omega arith
      by true false h = omega arith
      by false true h = omega arith
      by false false h = omega arith

  pub rows-in_order : (some : List Row) → rise some ≡ true → in_order rule_kind (flat_map (rules_in s) some) ≡ flat_map (λ row. in_order rule_kind (rules_in s row)) some
  rows-in_order [] h = refl
  rows-in_order (r ∷ rest) h =
      let both = and_parts (list_all (is_not_above r) rest) (rise rest) h in
      order-append rule_kind (rules_in s r) (flat_map (rules_in s) rest) (λ x y in_x in_y.
      let one : OfMap (rule_of r) (items r.per s) x = of_map (rule_of r) (items r.per s) x in_x in
      let other : OfSomeRow s rest y = of_row s rest y in_y in
      let low : priority_at r one.one ≤ priority_at other.row other.item =
      not-above r other.row one.one other.item (all-has (is_not_above r) rest other.row both.0 other.there) (rank-few o s own r.per one.one one.there) in
      subst (λ (x : Rule). x.priority ≤ y.priority) (sym one.is) (subst (λ (y : Rule). priority_at r one.one ≤ y.priority) (sym other.is) low))
      ∙ ap (λ zs. in_order rule_kind (rules_in s r) ++ zs) (rows-in_order rest both.1)

  pub table-in_order : table_by_rows s ≡ flat_map (λ row. in_order rule_kind (rules_in s row)) rows
  table-in_order = rows-in_order rows rows_rise

  pub unranked-in_order : (row : Row) → row.ranked ≡ false → in_order rule_kind (rules_in s row) ≡ rules_in s row
  unranked-in_order row plain = order-level rule_kind (rules_in s row) (λ x y in_x in_y. at x in_x ∙ sym (at y in_y))
    where
      at : (x : Rule) → Has (rules_in s row) x → x.priority ≡ row.base
      at x h =
          let it : OfMap (rule_of row) (items row.per s) x = of_map (rule_of row) (items row.per s) x h in
          ap (λ (x : Rule). x.priority) it.is ∙ (ap (λ b. row.base + (if b then it.one.rank else 0)) plain ∙ omega arith)

-- of a list those of one priority, and those of n priorities from one on, one after the other

abbrev pub at : {R : Type 0} → Kind R → ℕ → List R → List R
at k n xs = filter (λ x. k.priority x == n) xs

abbrev pub by_level : {R : Type 0} → Kind R → ℕ → ℕ → List R → List R
by_level k low n xs = flat_map (λ m. at k m xs) (numbers_from low n)

module _ {R : Type 0} (k : Kind R) where
  at-above : (m : ℕ) (xs : List R) (y : R) → Has (at k m xs) y → k.priority y ≡ m
  at-above m [] y h = absurd h
  at-above m (x ∷ xs) y h = by (k.priority x == m) refl (at-above m xs y) h
    where
      by : (b : Bool) → (k.priority x == m) ≡ b → (Has (at k m xs) y → k.priority y ≡ m) → Has (if b then x ∷ at k m xs else at k m xs) y → k.priority y ≡ m
      by true e rest (inl same) = subst (λ (z : R). k.priority z ≡ m) same (eqb-true (k.priority x) m e)
      by true e rest (inr t) = rest t
      by false e rest t = rest t

  from-above : (low n m : ℕ) → Has (numbers_from low n) m → low ≤ m
  from-above low zero m h = absurd h
  from-above low (suc n) m (inl e) = omega (arith, e)
  from-above low (suc n) m (inr h) = let rest : suc low ≤ m = from-above (suc low) n m h in omega arith

  level-above : (low n : ℕ) (xs : List R) (y : R) → Has (by_level k low n xs) y → low ≤ k.priority y
  level-above low n xs y h =
      let it : OfFlat (λ m. at k m xs) (numbers_from low n) y = of_flat (λ m. at k m xs) (numbers_from low n) y h in
      let above : low ≤ it.one = from-above low n it.one it.there in
      let is : k.priority y ≡ it.one = at-above it.one xs y it.has in
      omega arith

  put-past : (x : R) (zs ys : List R) → ((z : R) → Has zs z → k.priority z < k.priority x) → put k x (zs ++ ys) ≡ zs ++ put k x ys
  put-past x [] ys h = refl
  put-past x (z ∷ zs) ys h = elim (cases_Bool (leb (k.priority x) (k.priority z))) [
    | inl e ↦ let low : k.priority z < k.priority x = h z (inl refl) in absurd (omega (arith, leb-true _ _ e, low))
    | inr e ↦ rw e (ap (λ ws. z ∷ ws) (put-past x zs ys (λ w t. h w (inr t))))
  ]

  not-at : (m : ℕ) (x : R) → (k.priority x ≡ m → ⊥) → (k.priority x == m) ≡ false
  not-at m x h = false_from_ne_true (k.priority x == m) (λ e. h (eqb-true (k.priority x) m e))

  level-skip : (low n : ℕ) (x : R) (xs : List R) → k.priority x < low → by_level k low n (x ∷ xs) ≡ by_level k low n xs
  level-skip low zero x xs h = refl
  level-skip low (suc n) x xs h = rw (not-at low x (λ e. omega (arith, e, h))) (ap (λ zs. at k low xs ++ zs) (level-skip (suc low) n x xs (omega arith)))

  put-level : (low n : ℕ) (x : R) (xs : List R) → low ≤ k.priority x → k.priority x < low + n → put k x (by_level k low n xs) ≡ by_level k low n (x ∷ xs)
  put-level low zero x xs g h = absurd (omega arith)
  put-level low (suc n) x xs g h = elim (cases_Bool (k.priority x == low)) [
    | inl e ↦
        let is : k.priority x ≡ low = eqb-true (k.priority x) low e in
        rw e (put-front k x (by_level k low (suc n) xs) (λ y t. let above : low ≤ k.priority y = level-above low (suc n) xs y t in omega arith)
        ∙ ap (λ zs. x ∷ at k low xs ++ zs) (sym (level-skip (suc low) n x xs (omega arith))))
    | inr e ↦
        let less : low < k.priority x = above g e in
        rw e (put-past x (at k low xs) (by_level k (suc low) n xs) (λ z t. let is : k.priority z ≡ low = at-above low xs z t in omega arith)
        ∙ ap (λ zs. at k low xs ++ zs) (put-level (suc low) n x xs (omega arith) (omega arith)))
  ]
    where
      above : low ≤ k.priority x → (k.priority x == low) ≡ false → low < k.priority x
      above g e = elim (cases_Bool (leb (k.priority x) low)) [
        | inl t ↦ let same : k.priority x ≡ low = omega (arith, leb-true _ _ t, g) in absurd (false≢true (sym e ∙ eq-eqb (k.priority x) low same))
        | inr t ↦ leb-false _ _ t
      ]

  level-none : (low n : ℕ) → by_level k low n [] ≡ []
  level-none low zero = refl
  level-none low (suc n) = level-none (suc low) n

  pub order-by_level : (low n : ℕ) (xs : List R) → ((x : R) → Has xs x → (low ≤ k.priority x) × (k.priority x < low + n)) → in_order k xs ≡ by_level k low n xs
  order-by_level low n [] h = sym (level-none low n)
  order-by_level low n (x ∷ xs) h =
      ap (put k x) (order-by_level low n xs (λ y t. h y (inr t))) ∙ put-level low n x xs (h x (inl refl)).0 (h x (inl refl)).1

module _ (o : Owners) (s : StateView) (own : AreOwners o s) where
  -- any row in order, ranked or not: one priority after the other
  pub row-by_level : (row : Row) → in_order rule_kind (rules_in s row) ≡ by_level rule_kind row.base 100 (rules_in s row)
  row-by_level row = order-by_level rule_kind row.base 100 (rules_in s row) (λ x there.
      let it : OfMap (rule_of row) (items row.per s) x = of_map (rule_of row) (items row.per s) x there in
      subst (λ (x : Rule). (row.base ≤ x.priority) × (x.priority < row.base + 100)) (sym it.is) (within row it.one (rank-few o s own row.per it.one it.there)))
    where
      within : (row : Row) (i : Item) → i.rank ≤ 99 → (row.base ≤ priority_at row i) × (priority_at row i < row.base + 100)
      within row i few = by row.ranked
        where
          by : (b : Bool) → (row.base ≤ row.base + (if b then i.rank else 0)) × (row.base + (if b then i.rank else 0) < row.base + 100)
          by true = (omega arith, omega arith)
          by false = (omega arith, omega arith)
