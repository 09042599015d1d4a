-- A change of the network of one id, in the other words for it.
use Rattle.std.proofs.Common.{◌≡◌, ℕ, ◌==◌, false, true, not, List, [], ◌∷◌, map, Some, None, if◌then◌else◌, refl, sym, ap, subst, ◌∙◌, inl, inr}
use Rattle.std.specs.List.{list_any}
use Rattle.std.proofs.lemmas.Bool.{cases_Bool, and_parts, or_parts, not-true, both_ways, eqb-true, eq-eqb}
use Rattle.std.proofs.lemmas.Option.{none-some, same_Some}
use Rattle.networks.specs.Lists.{find_id, put_net, are_distinct, AreKeyed}
use Rattle.networks.specs.declared.network.Network.{Network}
use Rattle.network_store.specs.Store.{with_net}
use Rattle.network_store.proofs.Owners.{id-found}

-- it puts the changed network in the place of the one that is found
pub with_net-put : (id : ℕ) (change : Network → Network) (ns : List Network) (n : Network) → find_id id ns ≡ Some n → (change n).id ≡ n.id → with_net id change ns ≡ put_net (change n) ns
with_net-put id change [] n found same = absurd (none-some n found)
with_net-put id change (m ∷ ms) n found same =
    let id_is : (change n).id ≡ id = same ∙ sym (id-found id (m ∷ ms) n found) in
    elim (cases_Bool (id == m.id)) as (λ _. with_net id change (m ∷ ms) ≡ put_net (change n) (m ∷ ms)) [
      | inl e ↦
          let here : ((change n).id == m.id) ≡ true = ap (λ i. i == m.id) id_is ∙ e in
          rw (e, here) (ap (λ x. change x ∷ ms) (same_Some m n (rw e at found)))
      | inr e ↦
          let other : ((change n).id == m.id) ≡ false = ap (λ i. i == m.id) id_is ∙ e in
          rw (e, other) (ap (λ xs. m ∷ xs) (with_net-put id change ms n (rw e at found) same))
    ]

-- where there is none of this id, nothing changes
pub with_net-none : (id : ℕ) (change : Network → Network) (ns : List Network) → find_id id ns ≡ None → with_net id change ns ≡ ns
with_net-none id change [] none = refl
with_net-none id change (n ∷ ns) none = elim (cases_Bool (id == n.id)) as (λ _. with_net id change (n ∷ ns) ≡ n ∷ ns) [
  | inl e ↦ absurd (none-some n (sym (rw e at none)))
  | inr e ↦ rw e (ap (λ xs. n ∷ xs) (with_net-none id change ns (rw e at none)))
]

others-stay : (id : ℕ) (change : Network → Network) (ns : List Network) → list_any (λ m. m == id) (map (λ n. n.id) ns) ≡ false → map (λ n. if id == n.id then change n else n) ns ≡ ns
others-stay id change [] absent = refl
others-stay id change (n ∷ ns) absent =
    let parts = or_parts (n.id == id) (list_any (λ m. m == id) (map (λ n. n.id) ns)) absent in
    elim (cases_Bool (id == n.id)) as (λ _. map (λ n. if id == n.id then change n else n) (n ∷ ns) ≡ n ∷ ns) [
      | inl e ↦ absurd (both_ways (n.id == id) parts.0 (eq-eqb n.id id (sym (eqb-true id n.id e))))
      | inr e ↦ rw e (ap (λ xs. n ∷ xs) (others-stay id change ns parts.1))
    ]

-- each network of this id is changed, since there is one
pub with_net-map : (id : ℕ) (change : Network → Network) (ns : List Network) → AreKeyed ns → with_net id change ns ≡ map (λ n. if id == n.id then change n else n) ns
with_net-map id change [] keyed = refl
with_net-map id change (n ∷ ns) keyed =
    let parts = and_parts (not (list_any (λ m. m == n.id) (map (λ n. n.id) ns))) (are_distinct (map (λ n. n.id) ns)) keyed in
    elim (cases_Bool (id == n.id)) as (λ _. with_net id change (n ∷ ns) ≡ map (λ n. if id == n.id then change n else n) (n ∷ ns)) [
      | inl e ↦ rw e (ap (λ xs. change n ∷ xs) (sym (others-stay id change ns (subst (λ i. list_any (λ m. m == i) (map (λ (n : Network). n.id) ns) ≡ false) (sym (eqb-true id n.id e)) (not-true _ parts.0)))))
      | inr e ↦ rw e (ap (λ xs. n ∷ xs) (with_net-map id change ns parts.1))
    ]
