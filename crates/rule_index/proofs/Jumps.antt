-- Between a spot and the one that a search jumps to, no rule matches.
use Rattle.std.proofs.Common.{◌≡◌, ℕ, ◌+◌, ◌<◌, ◌≤◌, min, Bool, true, false, cond, List, refl, subst, arith, inl, inr, nat_lt, ◌⊎◌, slice_get, Option, Some, None}
use Rattle.std.proofs.lemmas.Bool.{cases_Bool, and_parts, ltb-true, false≢true}
use Rattle.std.proofs.lemmas.Option.{cond_some, same_Some}
use Rattle.rule_match.specs.Rule.{matches}
use Rattle.rule_match.specs.declared.packet.Packet.{Packet}
use Rattle.rule_match.specs.declared.rule.Rule.{Rule}
use Rattle.rule_index.specs.declared.spot.Spot.{Spot}
use Rattle.rule_index.specs.Spots.{lex, below, low_of, high_of, jump, group_of, value_of}
use Rattle.rule_index.specs.Search.{fits, passes, IsKeyed}
use Rattle.rule_index.proofs.Orders.{lex-true}
use Rattle.rule_index.proofs.Inside.{inside, IsInside}

-- the value of a group is past what the packet asks for
abbrev pub IsOutside : Packet → ℕ → ℕ → Type 0
IsOutside p g v = (v < low_of p g) ⊎ (high_of p g < v)

jump-cases : (p : Packet) (s t : Spot) → jump p s ≡ Some t
    → ((s.value < low_of p s.group) × (record { priority = s.priority; group = s.group; value = low_of p s.group; number = 0 } ≡ t))
    ⊎ ((high_of p s.group < s.value) × (record { priority = s.priority; group = min (s.group + 1) 255; value = 0; number = 0 } ≡ t))
jump-cases p s t h = go (nat_lt s.value (low_of p s.group)) refl h
  where
    Goal : Type 0
    Goal = ((s.value < low_of p s.group) × (record { priority = s.priority; group = s.group; value = low_of p s.group; number = 0 } ≡ t))
        ⊎ ((high_of p s.group < s.value) × (record { priority = s.priority; group = min (s.group + 1) 255; value = 0; number = 0 } ≡ t))

    go : (b : Bool) → nat_lt s.value (low_of p s.group) ≡ b
        → cond b (Some (record { priority = s.priority; group = s.group; value = low_of p s.group; number = 0 })) (cond (nat_lt (high_of p s.group) s.value) (Some (record { priority = s.priority; group = min (s.group + 1) 255; value = 0; number = 0 })) None) ≡ Some t
        → ((s.value < low_of p s.group) × (record { priority = s.priority; group = s.group; value = low_of p s.group; number = 0 } ≡ t))
        ⊎ ((high_of p s.group < s.value) × (record { priority = s.priority; group = min (s.group + 1) 255; value = 0; number = 0 } ≡ t))
    go true e h = inl (ltb-true _ _ e, same_Some _ t h)
    go false e h = let c = cond_some _ _ t h in inr (ltb-true _ _ c.0, c.1)

pub jumps-outside : (p : Packet) (s t : Spot) → jump p s ≡ Some t → IsOutside p s.group s.value
jumps-outside p s t h = elim (jump-cases p s t h) as (λ _. IsOutside p s.group s.value) [ inl a ↦ inl a.0 | inr a ↦ inr a.0 ]

lex-squeeze : (x y : ℕ) (q r : Bool) → lex x y q ≡ true → lex y x r ≡ true → (x ≡ y) × (q ≡ true) × (r ≡ true)
lex-squeeze x y q r h k = elim (lex-true x y q h) [
  | inl a ↦ elim (lex-true y x r k) [ inl b ↦ absurd (omega arith) | inr b ↦ absurd (omega (arith, b.0)) ]
  | inr a ↦ elim (lex-true y x r k) [ inl b ↦ absurd (omega (arith, a.0)) | inr b ↦ (a.0, a.1, b.1) ]
]

not_below_zero : (n : ℕ) → nat_lt n 0 ≡ true → ⊥
not_below_zero n h = let l : n < 0 = ltb-true n 0 h in omega arith

below_value : (v low n : ℕ) → lex v low (nat_lt n 0) ≡ true → v < low
below_value v low n h = elim (lex-true v low _ h) [ inl a ↦ a | inr b ↦ absurd (not_below_zero n b.1) ]

not_below_start : (v n : ℕ) → lex v 0 (nat_lt n 0) ≡ true → ⊥
not_below_start v n h = let l : v < 0 = below_value v 0 n h in omega arith

not_over : (v w : ℕ) (q : Bool) → lex v w q ≡ true → v ≤ w
not_over v w q h = elim (lex-true v w q h) [ inl a ↦ omega arith | inr b ↦ omega (arith, b.0) ]

-- a spot before the next group's, and not before a group's
in_group : (g h v n : ℕ) (q : Bool) → lex g h q ≡ true → lex h (min (g + 1) 255) (lex v 0 (nat_lt n 0)) ≡ true → (g ≡ h) × (q ≡ true)
in_group g h v n q k l = elim (lex-true h _ _ l) [
  | inr b ↦ absurd (not_below_start v n b.1)
  | inl less ↦ elim (lex-true g h q k) [ inl a ↦ absurd (omega arith) | inr a ↦ (a.0, a.1) ]
]

pub jump-between : (p : Packet) (s t e : Spot) → jump p s ≡ Some t → below s e ≡ true → below e t ≡ true → IsOutside p e.group e.value
jump-between p s t e h after before = elim (jump-cases p s t h) as (λ _. IsOutside p e.group e.value) [
  | inl a ↦
      let k = rw (← a.1) at before in
      let q = lex-squeeze s.priority e.priority _ _ after k in
      let r = lex-squeeze s.group e.group _ _ q.1 q.2 in
      let less : e.value < low_of p s.group = below_value e.value (low_of p s.group) e.number r.2 in
      inl (subst (λ (g : ℕ). e.value < low_of p g) r.0 less)
  | inr a ↦
      let k = rw (← a.1) at before in
      let q = lex-squeeze s.priority e.priority _ _ after k in
      let r = in_group s.group e.group e.value e.number _ q.1 q.2 in
      let le : s.value ≤ e.value = not_over s.value e.value _ r.1 in
      let over : high_of p s.group < s.value = a.0 in
      let less : high_of p s.group < e.value = omega arith in
      inr (subst (λ (g : ℕ). high_of p g < e.value) r.0 less)
]

outside-not_inside : (p : Packet) (g v : ℕ) → IsOutside p g v → IsInside p g v → ⊥
outside-not_inside p g v o i = elim o [ inl a ↦ omega (arith, i.0, a) | inr a ↦ omega (arith, i.1, a) ]

pub outside-misses : (rules : List Rule) (p : Packet) (from e : Spot) → IsKeyed rules e → IsOutside p e.group e.value → fits rules p from e ≡ false
outside-misses rules p from e keyed out = elim (cases_Bool (fits rules p from e)) as (λ _. fits rules p from e ≡ false) [
  | inr miss ↦ miss
  | inl hit ↦ absurd (go (slice_get rules e.number) refl (and_parts _ _ hit).1)
]
  where
    go : (o : Option Rule) → slice_get rules e.number ≡ o → passes (λ r. matches r p) o ≡ true → ⊥
    go None is h = false≢true h
    go (Some r) is h =
        let same = keyed r is in
        outside-not_inside p (group_of r) (value_of r) (subst (λ (s : Spot). IsOutside p s.group s.value) same out) (inside r p h)
