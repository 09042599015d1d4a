-- The least spot that fits is the next rule of the list that matches.
use Rattle.std.proofs.Common.{◌≡◌, ℕ, zero, suc, ◌+◌, ◌-◌, ◌<◌, ◌≤◌, ◌&&◌, not, Bool, true, false, cond, List, [], ◌∷◌, length, drop, get_or, refl, sym, subst, ◌∙◌, ap, arith, inl, inr, ◌⊎◌, nat_lt, slice_get, Option, Some, None}
use Rattle.list_lemmas.proofs.Alls.{all-weaker}
use Rattle.std.specs.List.{AllByRecursion}
use Rattle.std.proofs.lemmas.Bool.{cases_Bool, and_parts, false≢true, ltb-true, ltb-false}
use Rattle.std.proofs.lemmas.List.{get_or-drop, length-drop, length-map, get_or-map}
use Rattle.std.proofs.lemmas.Option.{none-some, same_Some, cond_some, slice_get_within, get_or_from_slice_get}
use Rattle.rule_match.specs.Rule.{matches}
use Rattle.rule_match.specs.declared.packet.Packet.{Packet}
use Rattle.rule_match.specs.declared.rule.Rule.{Rule}
use Rattle.kernel_model.specs.State.{own_rule}
use Rattle.rule_index.specs.declared.spot.Spot.{Spot}
use Rattle.rule_index.specs.Spots.{below, flat, keyed_of}
use Rattle.rule_index.specs.Sorted.{place_of}
use Rattle.rule_index.specs.Search.{passes, rule_passes, fits, better, least, IsKeyed, AreKeyed}
use Rattle.rule_index.specs.Index.{In, IsIndex, Stands, rule_at, list_of}
use Rattle.kernel_model.specs.Next.{first_match, next_match}
use Rattle.kernel_model.proofs.Follows.{found_at}
use Rattle.rule_index.proofs.Orders.{below-self, below-not_over, below-trans, below-tie}
use Rattle.rule_index.proofs.Places.{rises-at}
use Rattle.rule_index.proofs.Members.{each-in, in-at, at-place, not-both}
use Rattle.rule_index.proofs.Leasts.{zero_spot}
use Rattle.rule_index.proofs.Puts.{rule_at-is, all-flat, StandsFlat}

below-weak : (x y b : Spot) → below x y ≡ false → below x b ≡ true → below y b ≡ true
below-weak x y b h k = elim (cases_Bool (below y x)) as (λ _. below y b ≡ true) [
  | inl over ↦ below-trans y x b over k
  | inr level ↦ subst (λ (z : Spot). below z b ≡ true) (below-tie x y h level) k
]

unless : (b : Bool) → (b ≡ true → ⊥) → b ≡ false
unless true h = absurd (h refl)
unless false h = refl

module _ (rules : List Rule) (p : Packet) (from : Spot) where
  better-from : (found : Option Spot) (x b : Spot) → better rules p from found x ≡ Some b → (found ≡ Some b) ⊎ ((b ≡ x) × (fits rules p from x ≡ true))
  better-from None x b h = let c = cond_some (fits rules p from x) x b h in inr (sym c.1, c.0)
  better-from (Some best) x b h = go (below (flat x) (flat best) && fits rules p from x) refl h
    where
      go : (t : Bool) → (below (flat x) (flat best) && fits rules p from x) ≡ t → cond t (Some x) (Some best) ≡ Some b → (Some best ≡ Some b) ⊎ ((b ≡ x) × (fits rules p from x ≡ true))
      go true e k = inr (sym (same_Some x b k), (and_parts _ _ e).1)
      go false e k = inl k

  least-from : (found : Option Spot) (ss : List Spot) (b : Spot) → least rules p from found ss ≡ Some b → (found ≡ Some b) ⊎ ((In b ss) × (fits rules p from b ≡ true))
  least-from found [] b h = inl h
  least-from found (x ∷ xs) b h = elim (least-from (better rules p from found x) xs b h) [
    | inl e ↦ elim (better-from found x b e) [ inl k ↦ inl k | inr k ↦ inr (inl k.0, subst (λ (z : Spot). fits rules p from z ≡ true) (sym k.0) k.1) ]
    | inr k ↦ inr (inr k.0, k.1)
  ]

  abbrev IsLater : Option Spot → Spot → Type 0
  IsLater found b = (a : Spot) → found ≡ Some a → below (flat a) (flat b) ≡ false

  better-later : (found : Option Spot) (x b : Spot) → IsLater (better rules p from found x) b → IsLater found b × (fits rules p from x ≡ true → below (flat x) (flat b) ≡ false)
  better-later None x b h = (λ a e. absurd (none-some a e), λ f. h x (rw f refl))
  better-later (Some best) x b h = go (below (flat x) (flat best)) (fits rules p from x) refl refl h
    where
      go : (t f : Bool) → below (flat x) (flat best) ≡ t → fits rules p from x ≡ f → IsLater (cond (t && f) (Some x) (Some best)) b
          → IsLater (Some best) b × (f ≡ true → below (flat x) (flat b) ≡ false)
      go true true e d h =
          let late : below (flat x) (flat b) ≡ false = h x refl in (
            λ a k. subst (λ (z : Spot). below (flat z) (flat b) ≡ false) (same_Some best a k)
                (unless (below (flat best) (flat b)) (λ over. not-both _ (below-trans (flat x) (flat best) (flat b) e over) late)),
            λ _. late,
          )
      go true false e d h = (h, λ f. absurd (false≢true f))
      go false true e d h =
          let late : below (flat best) (flat b) ≡ false = h best refl in
          (h, λ _. unless (below (flat x) (flat b)) (λ over. not-both _ (below-weak (flat x) (flat best) (flat b) e over) late))
      go false false e d h = (h, λ f. absurd (false≢true f))

  least-later : (found : Option Spot) (ss : List Spot) (b : Spot) → least rules p from found ss ≡ Some b
      → IsLater found b × AllByRecursion (λ e. fits rules p from e ≡ true → below (flat e) (flat b) ≡ false) ss
  least-later found [] b h = (λ a e. subst (λ (z : Spot). below (flat z) (flat b) ≡ false) (same_Some b a (sym h ∙ e)) (below-self (flat b)), tt)
  least-later found (x ∷ xs) b h =
      let ih = least-later (better rules p from found x) xs b h in
      let step = better-later found x b ih.0 in
      (step.0, (step.1, ih.1))

  better-none : (found : Option Spot) (x : Spot) → better rules p from found x ≡ None → (found ≡ None) × (fits rules p from x ≡ false)
  better-none None x h = (refl, unless (fits rules p from x) (λ f. none-some x (sym (rw f at h))))
  better-none (Some best) x h = go (below (flat x) (flat best) && fits rules p from x) h
    where
      go : (t : Bool) → cond t (Some x) (Some best) ≡ None → (Some best ≡ None) × (fits rules p from x ≡ false)
      go true k = absurd (none-some x (sym k))
      go false k = absurd (none-some best (sym k))

  least-none : (found : Option Spot) (ss : List Spot) → least rules p from found ss ≡ None → (found ≡ None) × AllByRecursion (λ e. fits rules p from e ≡ false) ss
  least-none found [] h = (h, tt)
  least-none found (x ∷ xs) h =
      let ih = least-none (better rules p from found x) xs h in
      let step = better-none found x ih.0 in
      (step.0, (step.1, ih.1))

-- the first of a list of rules
module _ (p : Packet) (d : Rule) where
  first_match-at : (rs : List Rule) (place n : ℕ) → n < length rs → matches (get_or rs n d) p ≡ true → ((j : ℕ) → j < n → matches (get_or rs j d) p ≡ false)
      → first_match p place rs ≡ Some (found_at (place + n) (get_or rs n d))
  first_match-at [] place n h m before = absurd (omega arith)
  first_match-at (r ∷ rs) place zero h m before = let e : place ≡ place + 0 = omega arith in rw m (ap (λ k. Some (found_at k r)) e)
  first_match-at (r ∷ rs) place (suc n) h m before =
      let e : place + 1 + n ≡ place + suc n = omega arith in
      let other : matches r p ≡ false = before 0 (omega arith) in
      rw other (first_match-at rs (place + 1) n (omega arith) m (λ j k. before (suc j) (omega arith)) ∙ ap (λ k. Some (found_at k (get_or rs n d))) e)

  first_match-none : (rs : List Rule) (place : ℕ) → ((j : ℕ) → j < length rs → matches (get_or rs j d) p ≡ false) → first_match p place rs ≡ None
  first_match-none [] place h = refl
  first_match-none (r ∷ rs) place h =
      let other : matches r p ≡ false = h 0 (omega arith) in
      rw other (first_match-none rs (place + 1) (λ j k. h (suc j) (omega arith)))

module _ (rules : List Rule) (order keyed : List Spot) (ix : IsIndex rules order keyed) (p : Packet) (from : ℕ) (within : from < length order) where
  abbrev first : Spot
  first = get_or order from zero_spot

  abbrev spot_at : ℕ → Spot
  spot_at j = get_or order j zero_spot

  -- from the place on, a spot fits where its rule matches
  not-before : (j : ℕ) → from ≤ j → j < length order → below (spot_at j) first ≡ false
  not-before j le lt = elim (cases_Bool (nat_lt from j)) as (λ _. below (spot_at j) first ≡ false) [
    | inl less ↦ below-not_over first (spot_at j) (rises-at order from j zero_spot ix.order_rises (ltb-true from j less) lt)
    | inr not_less ↦ let l = ltb-false from j not_less in let e : from ≡ j = omega (arith, l) in subst (λ (k : ℕ). below (spot_at k) first ≡ false) e (below-self first)
  ]

  fits-at : (j : ℕ) → from ≤ j → j < length order → (s : Spot) → Stands rules s → spot_at j ≡ flat s → matches (rule_at rules (spot_at j)) p ≡ fits rules p first s
  fits-at j le lt s h e =
      let early : below (flat s) first ≡ false = subst (λ (z : Spot). below z first ≡ false) e (not-before j le lt) in
      let got : slice_get rules (spot_at j).number ≡ Some h.0 = subst (λ (z : Spot). slice_get rules z.number ≡ Some h.0) (sym e) h.1 in
      let all : matches (rule_at rules (spot_at j)) p ≡ rule_passes (λ r. matches r p) rules s =
      ap (λ (r : Rule). matches r p) (rule_at-is rules (spot_at j) h.0 got) ∙ sym (ap (passes (λ r. matches r p)) h.1) in
      rw early all

  abbrev list : List Rule
  list = list_of rules order

  in-list : (j : ℕ) → from + j < length order → get_or (drop from list) j own_rule ≡ rule_at rules (spot_at (from + j))
  in-list j h = get_or-drop from list j own_rule ∙ get_or-map (rule_at rules) order (from + j) zero_spot own_rule h

  list-length : length (drop from list) ≡ length order - from
  list-length = length-drop from list ∙ ap (λ n. n - from) (length-map order (rule_at rules))

  pub next-none : least rules p first None keyed ≡ None → next_match list p from ≡ None
  next-none none = first_match-none p own_rule (drop from list) from differs
    where
      differs : (j : ℕ) → j < length (drop from list) → matches (get_or (drop from list) j own_rule) p ≡ false
      differs j h =
          let l = list-length in
          let lt : from + j < length order = omega (arith, l) in
          let k = ix.to_keyed (spot_at (from + j)) (in-at order (from + j) zero_spot lt) in
          let miss : fits rules p first k.0 ≡ false = each-in (λ e. fits rules p first e ≡ false) k.0 keyed (least-none rules p first None keyed none).1 k.1 in
          ap (λ (r : Rule). matches r p) (in-list j lt)
          ∙ fits-at (from + j) (omega arith) lt k.0 (each-in (Stands rules) k.0 keyed ix.stand k.1) k.2 ∙ miss

  module _ (b : Spot) (found : least rules p first None keyed ≡ Some b) where
    hit : (In b keyed) × (fits rules p first b ≡ true)
    hit = elim (least-from rules p first None keyed b found) as (λ _. (In b keyed) × (fits rules p first b ≡ true)) [ inl e ↦ absurd (none-some b e) | inr k ↦ k ]

    stands : Stands rules b
    stands = each-in (Stands rules) b keyed ix.stand hit.0

    abbrev place : ℕ
    place = place_of (flat b) order

    there : (place < length order) × (spot_at place ≡ flat b)
    there = at-place (flat b) order zero_spot ix.order_rises (ix.to_order b hit.0)

    early : below (flat b) first ≡ false
    early = unless (below (flat b) first) (λ e. not-both (fits rules p first b) hit.1 (rw e refl))

    after : from ≤ place
    after = elim (cases_Bool (nat_lt place from)) as (λ _. from ≤ place) [
      | inr not_less ↦ ltb-false place from not_less
      | inl less ↦ absurd (not-both _ (subst (λ (z : Spot). below z first ≡ true) there.1 (rises-at order place from zero_spot ix.order_rises (ltb-true place from less) within)) early)
    ]

    pub next-some : (r : Rule) → slice_get rules b.number ≡ Some r → next_match list p from ≡ Some (found_at place r)
    next-some r got =
        let l = list-length in
        let lt = there.0 in
        let le = after in
        let n : from + (place - from) ≡ place = omega arith in
        let lt' : from + (place - from) < length order = omega arith in
        let is : get_or (drop from list) (place - from) own_rule ≡ r =
        in-list (place - from) lt' ∙ ap (λ k. rule_at rules (spot_at k)) n ∙ ap (rule_at rules) there.1 ∙ rule_at-is rules (flat b) r got in
        let fit : matches r p ≡ true =
        ap (passes (λ r. matches r p)) (sym got) ∙ (and_parts (not (below (flat b) first)) _ hit.1).1 in
        first_match-at p own_rule (drop from list) from (place - from) (omega arith) (ap (λ (x : Rule). matches x p) is ∙ fit) before
        ∙ (λ i. Some (found_at (n i) (is i)))
      where
        before : (j : ℕ) → j < place_of (flat b) order - from → matches (get_or (drop from list) j own_rule) p ≡ false
        before j h =
            let lt = there.0 in
            let in_front : from + j < place = omega arith in
            let lt' : from + j < length order = omega arith in
            let k = ix.to_keyed (spot_at (from + j)) (in-at order (from + j) zero_spot lt') in
            let less : below (flat k.0) (flat b) ≡ true =
            (λ i. below (sym k.2 i) (sym there.1 i)) ∙ rises-at order (from + j) place zero_spot ix.order_rises in_front lt in
            let late = each-in (λ e. fits rules p first e ≡ true → below (flat e) (flat b) ≡ false) k.0 keyed (least-later rules p first None keyed b found).1 k.1 in
            let miss : fits rules p first k.0 ≡ false = unless (fits rules p first k.0) (λ f. not-both _ less (late f)) in
            ap (λ (r : Rule). matches r p) (in-list j lt')
            ∙ fits-at (from + j) (omega arith) lt' k.0 (each-in (Stands rules) k.0 keyed ix.stand k.1) k.2 ∙ miss

-- the first of a list's rules from a place on, where that at the place matches, and where there is none
pub match-here : (p : Packet) (rs : List Rule) (from start : ℕ) (r : Rule) → slice_get rs from ≡ Some r → matches r p ≡ true → first_match p start (drop from rs) ≡ Some (found_at start r)
match-here p [] from start r at m = absurd (none-some r at)
match-here p (x ∷ rs) zero start r at m = let e : x ≡ r = same_Some x r at in rw (e, m) refl
match-here p (x ∷ rs) (suc n) start r at m = match-here p rs n start r at m

pub match-past : (p : Packet) (rs : List Rule) (from start : ℕ) → slice_get rs from ≡ None → first_match p start (drop from rs) ≡ None
match-past p [] zero start h = refl
match-past p [] (suc n) start h = refl
match-past p (x ∷ rs) zero start h = absurd (none-some x (sym h))
match-past p (x ∷ rs) (suc n) start h = match-past p rs n start h

drop-none : (rules : List Rule) (os : List Spot) (n : ℕ) → slice_get os n ≡ None → drop n (list_of rules os) ≡ []
drop-none rules [] zero h = refl
drop-none rules [] (suc n) h = refl
drop-none rules (o ∷ os) zero h = absurd (none-some o (sym h))
drop-none rules (o ∷ os) (suc n) h = drop-none rules os n h

pub next-past : (rules : List Rule) (order : List Spot) (p : Packet) (from : ℕ) → slice_get order from ≡ None → next_match (list_of rules order) p from ≡ None
next-past rules order p from h = ap (first_match p from) (drop-none rules order from h)

-- the three ends of a search from a spot that is there
module _ (rules : List Rule) (order keyed : List Spot) (ix : IsIndex rules order keyed) (p : Packet) (from : ℕ) (f : Spot) (there : slice_get order from ≡ Some f) where
  is-first : get_or order from zero_spot ≡ f
  is-first = get_or_from_slice_get order from f zero_spot there

  from-first : (o : Option Spot) → least rules p f None keyed ≡ o → least rules p (get_or order from zero_spot) None keyed ≡ o
  from-first o h = ap (λ (z : Spot). least rules p z None keyed) is-first ∙ h

  pub ends-none : least rules p f None keyed ≡ None → next_match (list_of rules order) p from ≡ None
  ends-none h = next-none rules order keyed ix p from (slice_get_within order from f there) (from-first None h)

  pub ends-some : (b : Spot) (r : Rule) (place : ℕ) → least rules p f None keyed ≡ Some b → place ≡ place_of (flat b) order → slice_get rules b.number ≡ Some r
      → next_match (list_of rules order) p from ≡ Some (found_at place r)
  ends-some b r n h is got = next-some rules order keyed ix p from (slice_get_within order from f there) b (from-first (Some b) h) r got ∙ (λ i. Some (found_at (sym is i) r))

  pub ends-never : (b : Spot) → least rules p f None keyed ≡ Some b → slice_get rules b.number ≡ None → ⊥
  ends-never b h none =
      let s = stands rules order keyed ix p from (slice_get_within order from f there) b (from-first (Some b) h) in
      none-some s.0 (sym none ∙ s.1)

-- the rule at a place
pub list-some : (rules : List Rule) (order keyed : List Spot) → IsIndex rules order keyed → (n : ℕ) (o : Spot) → slice_get order n ≡ Some o → slice_get (list_of rules order) n ≡ slice_get rules o.number
list-some rules order keyed ix n o h = go order (all-flat rules order keyed ix) n h
  where
    go : (os : List Spot) → AllByRecursion (StandsFlat rules) os → (n : ℕ) → slice_get os n ≡ Some o → slice_get (list_of rules os) n ≡ slice_get rules o.number
    go [] e n h = absurd (none-some o h)
    go (x ∷ xs) e zero h =
        let t = e.0 in
        let got : slice_get rules x.number ≡ Some t.1.0 = subst (λ (z : Spot). slice_get rules z.number ≡ Some t.1.0) (sym t.2) t.1.1 in
        ap Some (rule_at-is rules x t.1.0 got) ∙ sym got ∙ ap (λ (z : Spot). slice_get rules z.number) (same_Some x o h)
    go (x ∷ xs) e (suc n) h = go xs e.1 n h

pub list-none : (rules : List Rule) (os : List Spot) (n : ℕ) → slice_get os n ≡ None → slice_get (list_of rules os) n ≡ None
list-none rules [] n h = refl
list-none rules (x ∷ xs) zero h = absurd (none-some x (sym h))
list-none rules (x ∷ xs) (suc n) h = list-none rules xs n h

-- the keys that a search asks for
pub are-keyed : (rules : List Rule) (ss : List Spot) → AllByRecursion (Stands rules) ss → AreKeyed rules ss
are-keyed rules ss e = all-weaker (Stands rules) (IsKeyed rules) keyed ss e
  where
    keyed : (s : Spot) → Stands rules s → IsKeyed rules s
    keyed s h r got = h.2 ∙ ap (λ (x : Rule). keyed_of x s.number) (same_Some h.0 r (sym h.1 ∙ got))
