-- The least spot that fits, found in part.
use Rattle.std.proofs.Common.{◌≡◌, ℕ, suc, ◌+◌, ◌<◌, ◌≤◌, Bool, true, false, cond, List, [], ◌∷◌, drop, refl, sym, ◌∙◌, ap, arith, inl, inr, nat_lt, Option, Some, None}
use Rattle.list_lemmas.proofs.Alls.{all-weaker}
use Rattle.std.specs.List.{AllByRecursion}
use Rattle.std.proofs.lemmas.Bool.{cases_Bool, ltb-true, false≢true}
use Rattle.rule_match.specs.declared.packet.Packet.{Packet}
use Rattle.rule_match.specs.declared.rule.Rule.{Rule}
use Rattle.rule_index.specs.declared.spot.Spot.{Spot}
use Rattle.rule_index.specs.Spots.{lex, below, flat, jump}
use Rattle.rule_index.specs.Sorted.{Rises, place_of}
use Rattle.rule_index.specs.Search.{fits, better, least, is_past, IsKeyed, AreKeyed}
use Rattle.rule_index.proofs.Orders.{lex-true, lex-less}
use Rattle.rule_index.proofs.Jumps.{jumps-outside, jump-between, outside-misses}

module _ (rules : List Rule) (p : Packet) (from : Spot) where
  misses-better : (found : Option Spot) (e : Spot) → fits rules p from e ≡ false → better rules p from found e ≡ found
  misses-better None e miss = rw miss refl
  misses-better (Some best) e miss = elim (cases_Bool (below (flat e) (flat best))) as (λ _. better rules p from (Some best) e ≡ Some best) [
    | inl a ↦ rw (a, miss) refl
    | inr a ↦ rw a refl
  ]

  -- those below a spot that don't fit may be left out
  skips : (t : Spot) (R : Spot → Type 0) → ((e : Spot) → R e → below e t ≡ true → fits rules p from e ≡ false) → (found : Option Spot) (ss : List Spot) → AllByRecursion R ss
      → least rules p from found ss ≡ least rules p from found (drop (place_of t ss) ss)
  skips t R miss found [] h = refl
  skips t R miss found (e ∷ es) h =
      step (below e t) (place_of t es) (λ b. ap (λ o. least rules p from o es) (misses-better found e (miss e h.0 b)) ∙ skips t R miss found es h.1)
    where
      step : (b : Bool) (n : ℕ) → (b ≡ true → least rules p from found (e ∷ es) ≡ least rules p from found (drop n es)) → least rules p from found (e ∷ es) ≡ least rules p from found (drop (cond b (1 + n) 0) (e ∷ es))
      step true n k = k refl ∙ ap (λ m. least rules p from found (drop m (e ∷ es))) (one_more n)
        where
          one_more : (n : ℕ) → suc n ≡ 1 + n
          one_more n = omega arith
      step false n k = refl

  start_misses : (e : Spot) → below e (record { priority = from.priority; group = 0; value = 0; number = 0 }) ≡ true → fits rules p from e ≡ false
  start_misses e h =
      let less : e.priority < from.priority = elim (lex-true e.priority from.priority _ h) [ inl a ↦ a | inr a ↦ absurd (none e a.1) ] in
      let b : below (flat e) from ≡ true = lex-less e.priority from.priority _ less in
      rw b refl
    where
      none : (e : Spot) → lex e.group 0 (lex e.value 0 (nat_lt e.number 0)) ≡ true → ⊥
      none e h = elim (lex-true e.group 0 _ h) [ inl a ↦ omega arith | inr a ↦ elim (lex-true e.value 0 _ a.1) [ inl b ↦ omega arith | inr b ↦ let l : e.number < 0 = ltb-true _ _ b.1 in omega arith ] ]

  each-any : (ss : List Spot) → AllByRecursion (λ _. Unit {0}) ss
  each-any [] = tt
  each-any (s ∷ ss) = (tt, each-any ss)

  pub least-start : (found : Option Spot) (ss : List Spot) (n : ℕ) → n ≡ place_of (record { priority = from.priority; group = 0; value = 0; number = 0 }) ss
      → least rules p from found (drop n ss) ≡ least rules p from found ss
  least-start found ss n is =
      ap (λ m. least rules p from found (drop m ss)) is
      ∙ sym (skips (record { priority = from.priority; group = 0; value = 0; number = 0 }) (λ _. Unit {0}) (λ e _ h. start_misses e h) found ss (each-any ss))

  both : (P Q : Spot → Type 0) (ss : List Spot) → AllByRecursion P ss → AllByRecursion Q ss → AllByRecursion (λ s. P s × Q s) ss
  both P Q [] a b = tt
  both P Q (s ∷ ss) a b = ((a.0, b.0), both P Q ss a.1 b.1)

  pub jumps : (found : Option Spot) (s t : Spot) (ss : List Spot) → jump p s ≡ Some t → Rises (s ∷ ss) → AreKeyed rules (s ∷ ss)
      → least rules p from found (s ∷ ss) ≡ least rules p from found (drop (place_of t ss) ss)
  jumps found s t ss is rises keyed =
      ap (λ o. least rules p from o ss) (misses-better found s (outside-misses rules p from s keyed.0 (jumps-outside p s t is)))
      ∙ skips t (λ e. (below s e ≡ true) × IsKeyed rules e) (λ e h b. outside-misses rules p from e h.1 (jump-between p s t e is h.0 b)) found ss
      (both (λ e. below s e ≡ true) (IsKeyed rules) ss rises.0 keyed.1)

  -- where the search is after what was found
  ends : (best s : Spot) → best.priority < s.priority → (ss : List Spot) → AllByRecursion (λ e. s.priority ≤ e.priority) ss → least rules p from (Some best) ss ≡ Some best
  ends best s less [] h = refl
  ends best s less (e ∷ es) h =
      let le = h.0 in
      let later : best.priority < e.priority = omega arith in
      let not_below : below (flat e) (flat best) ≡ false = after e.priority best.priority _ later in
      let same : better rules p from (Some best) e ≡ Some best = rw not_below refl in
      ap (λ o. least rules p from o es) same ∙ ends best s less es h.1
    where
      after : (x y : ℕ) (q : Bool) → y < x → lex x y q ≡ false
      after x y q h = elim (cases_Bool (lex x y q)) as (λ _. lex x y q ≡ false) [ inr miss ↦ miss | inl hit ↦ absurd (elim (lex-true x y q hit) [ inl a ↦ omega arith | inr a ↦ omega (arith, a.0) ]) ]

  not_earlier : (s e : Spot) → below s e ≡ true → s.priority ≤ e.priority
  not_earlier s e h = elim (lex-true s.priority e.priority _ h) [ inl a ↦ omega arith | inr a ↦ omega (arith, a.0) ]

  pub ended : (found : Option Spot) (s : Spot) (ss : List Spot) → is_past found s ≡ true → Rises (s ∷ ss) → least rules p from found (s ∷ ss) ≡ found
  ended None s ss h rises = absurd (false≢true h)
  ended (Some best) s ss h rises =
      ends best s (ltb-true _ _ h) (s ∷ ss) (omega arith, all-weaker _ _ (not_earlier s) ss rises.0)

-- what a place past the end reads
abbrev pub zero_spot : Spot
zero_spot = record { priority = 0; group = 0; value = 0; number = 0 }
