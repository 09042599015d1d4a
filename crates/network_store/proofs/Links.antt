-- What interfaces a network has with one more and one fewer.
use Rattle.std.proofs.Common.{◌≡◌, ℕ, ◌==◌, ◌||◌, ◌&&◌, Bool, true, false, not, List, [], ◌∷◌, filter, nat_eq, Option, Some, None, refl, sym, ap, ◌∙◌, inl, inr}
use Rattle.std.specs.List.{list_any}
use Rattle.std.proofs.lemmas.Bool.{cases_Bool, or_from, eqb-true, both_ways}
use Rattle.std.proofs.lemmas.List.Folds.{list_any-append}
use Rattle.std.proofs.lemmas.Option.{none-some, same_Some}
use Rattle.networks.specs.Lists.{find_link}
use Rattle.networks.specs.Network.{has_link}
use Rattle.networks.specs.declared.network.Network.{Network}
use Rattle.network_store.specs.Stored.{with_link, without_link}

or-false : (b : Bool) → (b || false) ≡ b
or-false true = refl
or-false false = refl

pub has-with : (link : ℕ) (n : Network) (q : ℕ) → has_link (with_link link n) q ≡ (has_link n q || nat_eq link q)
has-with link n q = list_any-append (λ i. i == q) n.interfaces (link ∷ []) ∙ ap (λ b. has_link n q || b) (or-false (nat_eq link q))

without : (link q : ℕ) (is : List ℕ) → list_any (λ i. i == q) (filter (λ i. not (i == link)) is) ≡ (list_any (λ i. i == q) is && not (nat_eq link q))
without link q [] = refl
without link q (i ∷ is) =
    let rest = without link q is in
    let Goal : Type 0 = list_any (λ i. i == q) (filter (λ i. not (i == link)) (i ∷ is)) ≡ (list_any (λ i. i == q) (i ∷ is) && not (nat_eq link q)) in
    elim (cases_Bool (i == link)) as (λ _. Goal) [
      | inl gone ↦
          let same : (i == q) ≡ nat_eq link q = ap (λ j. nat_eq j q) (eqb-true i link gone) in
          rw (gone, same) (rest ∙ drops (nat_eq link q) (list_any (λ i. i == q) is))
      | inr stays ↦ elim (cases_Bool (i == q)) as (λ _. Goal) [
        | inl here ↦
            let other : nat_eq link q ≡ false = unlike (nat_eq link q) refl here stays in
            rw (stays, here, other) refl
        | inr else ↦ rw (stays, else) rest
      ]
    ]
  where
    drops : (b c : Bool) → (c && not b) ≡ ((b || c) && not b)
    drops true true = refl
    drops true false = refl
    drops false true = refl
    drops false false = refl

    unlike : (b : Bool) → nat_eq link q ≡ b → (i == q) ≡ true → (i == link) ≡ false → b ≡ false
    unlike false is here stays = refl
    unlike true is here stays = absurd (both_ways (i == link) stays (ap (λ j. i == j) (eqb-true link q is) ∙ here))

pub has-without : (link : ℕ) (n : Network) (q : ℕ) → has_link (without_link link n) q ≡ (has_link n q && not (nat_eq link q))
has-without link n q = without link q n.interfaces

pub none-linked : (link : ℕ) (ns : List Network) → find_link link ns ≡ None → (q : ℕ) → nat_eq link q ≡ true → list_any (λ n. has_link n q) ns ≡ false
none-linked link [] none q same = refl
none-linked link (n ∷ ns) none q same = elim (cases_Bool (has_link n link)) as (λ _. list_any (λ n. has_link n q) (n ∷ ns) ≡ false) [
  | inl e ↦ absurd (none-some n (sym (rw e at none)))
  | inr e ↦ or_from (has_link n q) (list_any (λ n. has_link n q) ns) (ap (has_link n) (sym (eqb-true link q same)) ∙ e) (none-linked link ns (rw e at none) q same)
]

pub one-owner : (link id : ℕ) (look : ℕ → Option ℕ) → look link ≡ Some id → (q : ℕ) → nat_eq link q ≡ true → (i : ℕ) → look q ≡ Some i → i ≡ id
one-owner link id look owner q same i is = same_Some i id (sym is ∙ ap look (sym (eqb-true link q same)) ∙ owner)
