-- Lists that are joined from parts, where each part has a key that its rules show.
use Rattle.std.proofs.Common.{◌≡◌, ℕ, ◌≤◌, Bool, true, false, cond, List, [], ◌∷◌, ◌++◌, refl, sym, ◌∙◌, ap, inl, inr, arith, filter}
use Rattle.std.specs.Prelude.{flat_map}
use Rattle.std.proofs.lemmas.List.Elements.{filter-append}
use Rattle.std.proofs.lemmas.Bool.{cases_Bool, false≢true, false_from_ne_true, eq-eqb}
use Rattle.rule_law.specs.Rules.{Kind, has, class, NoneBelow, Rises, HasEachOnce}
use Rattle.rule_law.specs.Parts.{TurnsInto, has_key, HaveDistinctKeys, KeysRise, EachPart, ShowKeys}
use Rattle.rule_law.proofs.Membership.{has_append}
use Rattle.rule_law.proofs.Orders.{HasEachOnce-append, NoneBelow-from, NoneBelow-has, Rises-append}
use Rattle.rule_law.proofs.Turning.{TurnsInto-append, TurnsInto-same}

module _ {R N : Type 0} (k : Kind R) (key : N → ℕ) (key_of : R → ℕ) where
  pub joined-shows : (f : N → List R) (ns : List N) → ShowKeys k key key_of f ns → (x : R) → has k (flat_map f ns) x ≡ true → has_key key ns (key_of x) ≡ true
  joined-shows f [] s x h = absurd (false≢true h)
  joined-shows f (n ∷ ns) s x h =
      elim (cases_Bool (has k (f n) x)) [
        | inl t ↦ rw (eq-eqb (key_of x) (key n) (s.0 x t)) refl
        | inr t ↦
            let rest : has k (flat_map f ns) x ≡ true = grind (arith, has_append k x (f n) (flat_map f ns)) in
            let ih : has_key key ns (key_of x) ≡ true = joined-shows f ns s.1 x rest in
            grind arith
      ]

  pub joined-apart : (f : N → List R) (n : N) (ns : List N) → ShowKeys k key key_of f ns → has_key key ns (key n) ≡ false → (x : R) → key_of x ≡ key n → has k (flat_map f ns) x ≡ false
  joined-apart f n ns s d x e = false_from_ne_true (has k (flat_map f ns) x)
      (λ t. false≢true (sym d ∙ (ap (λ c. has_key key ns c) (sym e) ∙ joined-shows f ns s x t)))

  pub HasEachOnce-joined : (f : N → List R) (ns : List N) → ShowKeys k key key_of f ns → HaveDistinctKeys key ns → EachPart (λ n. HasEachOnce k (f n)) ns → HasEachOnce k (flat_map f ns)
  HasEachOnce-joined f [] s d o = tt
  HasEachOnce-joined f (n ∷ ns) s d o =
      HasEachOnce-append k (f n) (flat_map f ns) o.0 (HasEachOnce-joined f ns s.1 d.1 o.1) (λ x h. joined-apart f n ns s.1 d.0 x (s.0 x h))

  module _ (shown : (x y : R) → k.alike x y ≡ true → key_of x ≡ key_of y) where
    -- what each part does, the whole does
    pub TurnsInto-joined : (f g : N → List R) (ns : List N) → ShowKeys k key key_of f ns → ShowKeys k key key_of g ns → HaveDistinctKeys key ns → EachPart (λ n. TurnsInto k (f n) (g n)) ns → TurnsInto k (flat_map f ns) (flat_map g ns)
    TurnsInto-joined f g [] s t d h = TurnsInto-same k []
    TurnsInto-joined f g (n ∷ ns) s t d h =
        TurnsInto-append k (f n) (g n) (flat_map f ns) (flat_map g ns)
        (λ x y a b. false_from_ne_true (k.alike x y) (λ l.
        let e : key_of x ≡ key n = elim (cases_Bool (has k (f n) x)) [ inl u ↦ s.0 x u | inr u ↦ t.0 x (grind (arith, has_append k x (f n) (g n))) ] in
        let e' : key_of y ≡ key n = sym (shown x y l) ∙ e in
        let none : has k (flat_map f ns) y ≡ false = joined-apart f n ns s.1 d.0 y e' in
        let none' : has k (flat_map g ns) y ≡ false = joined-apart g n ns t.1 d.0 y e' in
        false≢true (sym (has_append k y (flat_map f ns) (flat_map g ns) ∙ rw (none, none') refl) ∙ b)))
        h.0 (TurnsInto-joined f g ns s.1 t.1 d.1 h.1)

module _ {R N : Type 0} (k : Kind R) (key : N → ℕ) where
  -- parts of one priority each, by rising priority
  pub Rises-joined : (f : N → List R) (low : ℕ) (ns : List N) → ShowKeys k key k.priority f ns → KeysRise key low ns → EachPart (λ n. Rises k (f n)) ns
      → Rises k (flat_map f ns) × NoneBelow k low (flat_map f ns)
  Rises-joined f low [] s d o = (tt, tt)
  Rises-joined f low (n ∷ ns) s d o =
      let t : Rises k (flat_map f ns) × NoneBelow k (key n) (flat_map f ns) = Rises-joined f (key n) ns s.1 d.1 o.1 in (
        Rises-append k (key n) (f n) (flat_map f ns) o.0 t.0
            (λ x h. let e : k.priority x ≡ key n = s.0 x h in omega arith)
            (λ y h. NoneBelow-has k (key n) (flat_map f ns) y t.1 h),
        NoneBelow-from k low (f n ++ flat_map f ns) (λ x h.
            elim (cases_Bool (has k (f n) x)) [
              | inl u ↦ let e : k.priority x ≡ key n = s.0 x u in omega (arith, d.0)
              | inr u ↦
                  let in_rest : has k (flat_map f ns) x ≡ true = grind (arith, has_append k x (f n) (flat_map f ns)) in
                  let more : key n ≤ k.priority x = NoneBelow-has k (key n) (flat_map f ns) x t.1 in_rest in
                  omega (arith, d.0)
            ]),
      )

module _ {R : Type 0} (k : Kind R) where
  -- a part of one priority
  pub Rises-level : (p : ℕ) (xs : List R) → ((x : R) → has k xs x ≡ true → k.priority x ≡ p) → Rises k xs
  Rises-level p [] h = tt
  Rises-level p (x ∷ xs) h =
      let here : k.priority x ≡ p = h x (rw (k.same_self x) refl) in
      let rest : (y : R) → has k xs y ≡ true → k.priority y ≡ p = λ y t. h y (grind arith) in
      (NoneBelow-from k (k.priority x) xs (λ y t. let e : k.priority y ≡ p = rest y t in omega arith), Rises-level p xs rest)

-- parts that are left out are parts without rules
pub flat_map-filter : {R N : Type 0} (rows : N → List R) (stays : N → Bool) (ns : List N) → flat_map rows (filter stays ns) ≡ flat_map (λ n. cond (stays n) (rows n) []) ns
flat_map-filter rows stays [] = refl
flat_map-filter rows stays (n ∷ ns) =
    elim (cases_Bool (stays n)) [
      | inl t ↦ rw t (ap (λ zs. rows n ++ zs) (flat_map-filter rows stays ns))
      | inr t ↦ rw t (flat_map-filter rows stays ns)
    ]

module _ {R N : Type 0} (k : Kind R) where
  pub class-joined : (rule : R) (rows : N → List R) (ns : List N) → class k rule (flat_map rows ns) ≡ flat_map (λ n. class k rule (rows n)) ns
  class-joined rule rows [] = refl
  class-joined rule rows (n ∷ ns) =
      filter-append (k.alike rule) (rows n) (flat_map rows ns) ∙ ap (λ zs. class k rule (rows n) ++ zs) (class-joined rule rows ns)

  -- parts of one priority each
  pub each_rises : (key : N → ℕ) (rows : N → List R) (ns : List N) → ShowKeys k key k.priority rows ns → EachPart (λ n. Rises k (rows n)) ns
  each_rises key rows [] s = tt
  each_rises key rows (n ∷ ns) s = (Rises-level k (key n) (rows n) s.0, each_rises key rows ns s.1)
