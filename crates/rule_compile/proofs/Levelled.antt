-- Rules of rising priorities, as a loop appends them.
use Rattle.std.proofs.Common.{◌≡◌, ◌∙◌, ℕ, zero, suc, ◌+◌, List, [], ◌∷◌, ◌++◌, sym, ap, append_assoc, arith}
use Rattle.std.specs.Prelude.{flat_map}
use Rattle.std.proofs.lemmas.Grind.{flat_map-append}
use Rattle.std.proofs.lemmas.List.{append-nil}
use Rattle.rule_law.specs.Rules.{Kind}
use Rattle.policy_state.specs.Rows.{numbers_from}
use Rattle.policy_state.proofs.InOrder.{at, by_level}

from-last : (low n : ℕ) → numbers_from low (suc n) ≡ numbers_from low n ++ (low + n) ∷ []
from-last low zero = ap (λ m. m ∷ []) (none low)
  where
    none : (low : ℕ) → low ≡ low + 0
    none low = omega arith
from-last low (suc n) = ap (λ ms. low ∷ ms) (from-last (suc low) n ∙ ap (λ m. numbers_from (suc low) n ++ m ∷ []) (next low n))
  where
    next : (low n : ℕ) → suc low + n ≡ low + suc n
    next low n = omega arith

-- the rules of one priority more
pub by_level-next : {R : Type 0} (k : Kind R) (front : List R) (base n : ℕ) (xs : List R) → front ++ by_level k base (n + 1) xs ≡ (front ++ by_level k base n xs) ++ at k (base + n) xs
by_level-next k front base n xs = ap (λ zs. front ++ zs) next ∙ sym (append_assoc front (by_level k base n xs) (at k (base + n) xs))
  where
    next : by_level k base (n + 1) xs ≡ by_level k base n xs ++ at k (base + n) xs
    next =
        let one_more : n + 1 ≡ suc n = omega arith in
        ap (λ m. by_level k base m xs) one_more
        ∙ (ap (flat_map (λ m. at k m xs)) (from-last base n)
        ∙ (flat_map-append (λ m. at k m xs) (numbers_from base n) ((base + n) ∷ []) ∙ ap (λ zs. by_level k base n xs ++ zs) (append-nil (at k (base + n) xs))))
