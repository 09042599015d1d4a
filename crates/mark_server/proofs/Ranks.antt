-- What is found at the lowest of a row of ranks.
use Rattle.std.proofs.Common.{◌≡◌, ℕ, zero, suc, ◌+◌, ◌<◌, ◌≤◌, ◌==◌, List, [], ◌∷◌, Option, Some, None, refl, sym, ap, subst, ◌∙◌, arith, inl, inr}
use Rattle.std.specs.Option.{option_or}
use Rattle.std.proofs.lemmas.Bool.{cases_Bool, eqb-true}
use Rattle.std.proofs.lemmas.Option.{none-some}
use Rattle.policy_state.specs.Rows.{numbers_from}
use Rattle.mark_server.specs.Users.{first_found, at_lowest, id_of}
use Rattle.networks.specs.declared.network.Network.{Network}

module _ {N : Type 0} (at : ℕ → Option N) where
  pub found-first : (n low rank : ℕ) (x : N) → low ≤ rank → rank < low + n → ((lower : ℕ) → lower < rank → at lower ≡ None) → at rank ≡ Some x
      → first_found at (numbers_from low n) ≡ Some x
  found-first zero low rank x from below lowest is = absurd (omega (arith, from, below))
  found-first (suc n) low rank x from below lowest is = elim (cases_Bool (low == rank)) as (λ _. first_found at (numbers_from low (suc n)) ≡ Some x) [
    | inl e ↦ rw (subst (λ r. at r ≡ Some x) (sym (eqb-true low rank e)) is) refl
    | inr e ↦
        let later : low < rank = grind (arith, e, from) in
        rw (lowest low later) (found-first n (suc low) rank x (omega (arith, later)) (omega (arith, below)) lowest is)
  ]

  pub none-first : (n low : ℕ) → ((rank : ℕ) → rank < low + n → at rank ≡ None) → first_found at (numbers_from low n) ≡ None
  none-first zero low none = refl
  none-first (suc n) low none = rw (none low (omega arith)) (none-first n (suc low) (λ rank below. none rank (omega (arith, below))))

  pub found-lowest : (rank : ℕ) (x : N) → rank < 100 → ((lower : ℕ) → lower < rank → at lower ≡ None) → at rank ≡ Some x → at_lowest at ≡ Some x
  unfolding at_lowest
  found-lowest rank x below lowest is = found-first 100 0 rank x (omega arith) (omega (arith, below)) lowest is

  pub none-lowest : ((rank : ℕ) → rank < 100 → at rank ≡ None) → at_lowest at ≡ None
  unfolding at_lowest
  none-lowest none = none-first 100 0 (λ rank below. none rank (omega (arith, below)))

  -- what is found is found at some rank, and where nothing is found, nothing is at any

  pub some-rank : (ranks : List ℕ) (x : N) → first_found at ranks ≡ Some x → (rank : ℕ) × (at rank ≡ Some x)
  some-rank [] x is = absurd (none-some x is)
  some-rank (rank ∷ ranks) x is = by (at rank) refl is (some-rank ranks x)
    where
      by : (o : Option N) → at rank ≡ o → option_or o (first_found at ranks) ≡ Some x → (first_found at ranks ≡ Some x → (r : ℕ) × (at r ≡ Some x)) → (r : ℕ) × (at r ≡ Some x)
      by (Some y) here is rest = (rank, here ∙ is)
      by None here is rest = rest is

  pub no-rank : (n low : ℕ) → first_found at (numbers_from low n) ≡ None → (rank : ℕ) → low ≤ rank → rank < low + n → at rank ≡ None
  no-rank zero low none rank from below = absurd (omega (arith, from, below))
  no-rank (suc n) low none rank from below = by (at low) refl none (λ is later. no-rank n (suc low) is rank later (omega (arith, below)))
    where
      by : (o : Option N) → at low ≡ o → option_or o (first_found at (numbers_from (suc low) n)) ≡ None
          → (first_found at (numbers_from (suc low) n) ≡ None → suc low ≤ rank → at rank ≡ None) → at rank ≡ None
      by (Some y) here is rest = absurd (none-some y (sym is))
      by None here is rest = elim (cases_Bool (low == rank)) as (λ _. at rank ≡ None) [
        | inl e ↦ subst (λ r. at r ≡ None) (eqb-true low rank e) here
        | inr e ↦ rest is (grind (arith, e, from))
      ]

  pub some-lowest : (x : N) → at_lowest at ≡ Some x → (rank : ℕ) × (at rank ≡ Some x)
  unfolding at_lowest
  some-lowest x is = some-rank (numbers_from 0 100) x is

  pub no-lowest : at_lowest at ≡ None → (rank : ℕ) → rank < 100 → at rank ≡ None
  unfolding at_lowest
  no-lowest none rank below = no-rank 100 0 none rank (omega arith) (omega (arith, below))

-- the same by the ids of networks

id-none : (o : Option Network) → id_of o ≡ None → o ≡ None
id-none None is = refl
id-none (Some n) is = absurd (none-some n.id (sym is))

pub id-lowest : (at : ℕ → Option Network) (rank net : ℕ) → rank < 100 → ((lower : ℕ) → lower < rank → id_of (at lower) ≡ None) → id_of (at rank) ≡ Some net
    → id_of (at_lowest at) ≡ Some net
id-lowest at rank net below lowest is = by (at rank) refl is
  where
    by : (o : Option Network) → at rank ≡ o → id_of o ≡ Some net → id_of (at_lowest at) ≡ Some net
    by None here is = absurd (none-some net is)
    by (Some n) here is = ap id_of (found-lowest at rank n below (λ lower low. id-none (at lower) (lowest lower low)) here) ∙ is

pub no-id-lowest : (at : ℕ → Option Network) → ((rank : ℕ) → rank < 100 → id_of (at rank) ≡ None) → id_of (at_lowest at) ≡ None
no-id-lowest at none = ap id_of (none-lowest at (λ rank below. id-none (at rank) (none rank below)))

-- one rank more at which nothing is found
pub none-next : (at : ℕ → Option Network) (rank : ℕ) → ((lower : ℕ) → lower < rank → id_of (at lower) ≡ None) → id_of (at rank) ≡ None
    → (lower : ℕ) → lower < rank + 1 → id_of (at lower) ≡ None
none-next at rank lowest here lower below = elim (cases_Bool (lower == rank)) as (λ _. id_of (at lower) ≡ None) [
  | inl e ↦ subst (λ r. id_of (at r) ≡ None) (sym (eqb-true lower rank e)) here
  | inr e ↦ lowest lower (grind (arith, e, below))
]
