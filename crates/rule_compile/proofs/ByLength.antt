-- A stable sort by length puts the shortest prefix first, and routes of one length in the order in which they were added.
use Rattle.std.proofs.Common.{◌≡◌, ◌∙◌, ◌==◌, ℕ, zero, suc, ◌+◌, ◌<◌, ◌≤◌, List, [], ◌∷◌, ◌++◌, length, get_or, nat_cmp, refl, sym, ap, subst, inl, inr, arith, suc-le-suc, zero-le}
use Rattle.std.specs.Prelude.{flat_map}
use Rattle.std.specs.List.Sorted.{IsNonDecreasingBy, IsStableByKey}
use Rattle.std.proofs.lemmas.Bool.{cases_Bool, false≢true, eqb-true, eq-eqb}
use Rattle.prefixes.specs.Addr.{width_of}
use Rattle.prefixes.specs.declared.route.Route.{Route}
use Rattle.policy_state.specs.Rows.{numbers_from}
use Rattle.policy_state.proofs.Owners.{Has}
use Rattle.rule_compile.specs.Asked.{of_length, shortest_first}
use Rattle.rule_compile.proofs.Leaving.{width-most}
use Rattle.rule_compile.proofs.StableKeys.{same-keyed}

abbrev pub length_of : Route → ℕ
length_of r = r.prefix.len

-- none is shorter
abbrev AreAtLeast : ℕ → List Route → Type 0
AreAtLeast n rs = (r : Route) → Has rs r → n ≤ length_of r

abbrev Rise : List Route → Type 0
Rise [] = Unit {0}
Rise (r ∷ rs) = AreAtLeast (length_of r) rs × Rise rs

at_least : (n : ℕ) (d : Route) (rs : List Route) → ((j : ℕ) → j < length rs → n ≤ length_of (get_or rs j d)) → AreAtLeast n rs
at_least n d [] h q there = absurd there
at_least n d (r ∷ rs) h q (inl e) = subst (λ (x : Route). n ≤ length_of x) e (h zero (suc-le-suc zero-le))
at_least n d (r ∷ rs) h q (inr there) = at_least n d rs (λ j lt. h (suc j) (suc-le-suc lt)) q there

rise : (rs : List Route) → IsNonDecreasingBy length_of rs → Rise rs
rise [] h = tt
rise (r ∷ rs) h = (
  at_least (length_of r) r rs (λ j lt. h zero (suc j) r zero-le (suc-le-suc lt)),
  rise rs (λ i j d le lt. h (suc i) (suc j) d (suc-le-suc le) (suc-le-suc lt)),
)

none-shorter : (n low : ℕ) (rs : List Route) → AreAtLeast low rs → n < low → of_length rs n ≡ []
none-shorter n low [] h below = refl
none-shorter n low (r ∷ rs) h below = elim (cases_Bool (length_of r == n)) [
  | inl same ↦ absurd (let least : low ≤ length_of r = h r (inl refl) in let is : length_of r ≡ n = eqb-true (length_of r) n same in omega (arith, least, is, below))
  | inr other ↦ rw other (none-shorter n low rs (λ q there. h q (inr there)) below)
]

-- lengths past that of the first one
skips : (low n : ℕ) (r : Route) (rs : List Route) → length_of r < low → flat_map (of_length (r ∷ rs)) (numbers_from low n) ≡ flat_map (of_length rs) (numbers_from low n)
skips low zero r rs above = refl
skips low (suc n) r rs above = elim (cases_Bool (length_of r == low)) [
  | inl same ↦ absurd (let is : length_of r ≡ low = eqb-true (length_of r) low same in omega (arith, is, above))
  | inr other ↦ rw other (ap (λ (qs : List Route). of_length rs low ++ qs) (skips (suc low) n r rs (omega (arith, above))))
]

comes-first : (low n : ℕ) (r : Route) (rs : List Route) → low ≤ length_of r → length_of r < low + n → AreAtLeast (length_of r) rs
    → flat_map (of_length (r ∷ rs)) (numbers_from low n) ≡ r ∷ flat_map (of_length rs) (numbers_from low n)
comes-first low zero r rs least most rest = absurd (omega (arith, least, most))
comes-first low (suc n) r rs least most rest = elim (cases_Bool (length_of r == low)) [
  | inl same ↦
      let is : length_of r ≡ low = eqb-true (length_of r) low same in
      rw same (ap (λ (qs : List Route). r ∷ (of_length rs low ++ qs)) (skips (suc low) n r rs (omega (arith, is))))
  | inr other ↦
      let differ : length_of r ≡ low → ⊥ = λ e. false≢true (sym other ∙ eq-eqb (length_of r) low e) in
      let below : low < length_of r = omega (arith, least, differ) in
      let none : of_length rs low ≡ [] = none-shorter low (length_of r) rs rest below in
      rw (other, none) (comes-first (suc low) n r rs (omega (arith, below)) (omega (arith, most)) rest)
]

none-at : (numbers : List ℕ) → flat_map (of_length []) numbers ≡ []
none-at [] = refl
none-at (n ∷ numbers) = none-at numbers

risen-is : (rs : List Route) → Rise rs → rs ≡ shortest_first rs
unfolding shortest_first
risen-is [] h = sym (none-at (numbers_from 0 129))
risen-is (r ∷ rs) h =
    let fits : length_of r ≤ width_of r.prefix.base = r.prefix.is_prefix.0 in
    let widest : width_of r.prefix.base ≤ 128 = width-most r.prefix.base in
    ap (λ (qs : List Route). r ∷ qs) (risen-is rs h.1) ∙ sym (comes-first 0 129 r rs (omega arith) (omega (arith, fits, widest)) h.0)

pub sorted-by_length : (xs ys : List Route) → IsNonDecreasingBy length_of ys → IsStableByKey length_of nat_cmp xs ys → ys ≡ shortest_first xs
unfolding shortest_first
sorted-by_length xs ys sorted stable = risen-is ys (rise ys sorted) ∙ same-keyed length_of xs ys stable (numbers_from 0 129)
