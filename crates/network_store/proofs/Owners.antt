-- An index of owners, as one network comes, goes or is changed.
use Rattle.std.proofs.Common.{◌≡◌, ℕ, ◌==◌, ◌||◌, ◌&&◌, Bool, true, false, cond, not, List, [], ◌∷◌, ◌++◌, map, find, Option, Some, None, refl, sym, ap, subst, ◌∙◌, inl, inr}
use Rattle.std.specs.List.{list_any, AllByRecursion}
use Rattle.std.specs.Option.{option_map}
use Rattle.std.proofs.lemmas.Bool.{cases_Bool, and_parts, and_from, or_parts, or_from, not-true, not_from_false, both_ways, eqb-true, eq-eqb, false≢true}
use Rattle.std.proofs.lemmas.List.Folds.{list_any-append}
use Rattle.std.proofs.lemmas.Option.{none-some, same_Some}
use Rattle.list_lemmas.proofs.Alls.{all-push}
use Rattle.list_lemmas.proofs.Found.{find-none-any}
use Rattle.networks.specs.Lists.{find_id, drop_net, are_distinct, AreKeyed}
use Rattle.networks.specs.declared.network.Network.{Network}
use Rattle.network_store.specs.Owners.{LeadsToOwner}
use Rattle.network_store.specs.Store.{with_net}

pub id-found : (id : ℕ) (ns : List Network) (n : Network) → find_id id ns ≡ Some n → id ≡ n.id
id-found id [] n found = absurd (none-some n found)
id-found id (m ∷ ms) n found = elim (cases_Bool (id == m.id)) as (λ _. id ≡ n.id) [
  | inl e ↦ eqb-true id m.id e ∙ ap (λ (x : Network). x.id) (same_Some m n (rw e at found))
  | inr e ↦ id-found id ms n (rw e at found)
]

-- a change that keeps each id keeps them distinct
pub ids-changed : (id : ℕ) (change : Network → Network) → ((n : Network) → (change n).id ≡ n.id) → (ns : List Network) → map (λ n. n.id) (with_net id change ns) ≡ map (λ n. n.id) ns
ids-changed id change same [] = refl
ids-changed id change same (n ∷ ns) = elim (cases_Bool (id == n.id)) as (λ _. map (λ n. n.id) (with_net id change (n ∷ ns)) ≡ map (λ n. n.id) (n ∷ ns)) [
  | inl e ↦ rw e (ap (λ i. i ∷ map (λ (m : Network). m.id) ns) (same n))
  | inr e ↦ rw e (ap (λ is. n.id ∷ is) (ids-changed id change same ns))
]

pub id-absent : (id : ℕ) (ns : List Network) → find_id id ns ≡ None → list_any (λ m. m == id) (map (λ n. n.id) ns) ≡ false
id-absent id [] none = refl
id-absent id (n ∷ ns) none = elim (cases_Bool (id == n.id)) as (λ _. list_any (λ m. m == id) (map (λ n. n.id) (n ∷ ns)) ≡ false) [
  | inl e ↦ absurd (none-some n (sym (rw e at none)))
  | inr e ↦ or_from (n.id == id) (list_any (λ m. m == id) (map (λ n. n.id) ns)) (turned e) (id-absent id ns (rw e at none))
]
  where
    turned : (id == n.id) ≡ false → (n.id == id) ≡ false
    turned e = elim (cases_Bool (n.id == id)) as (λ _. (n.id == id) ≡ false) [
      | inl t ↦ absurd (both_ways (id == n.id) e (eq-eqb id n.id (sym (eqb-true n.id id t))))
      | inr f ↦ f
    ]

absent-drop : (i id : ℕ) (ns : List Network) → list_any (λ m. m == i) (map (λ n. n.id) ns) ≡ false → list_any (λ m. m == i) (map (λ n. n.id) (drop_net id ns)) ≡ false
absent-drop i id [] none = refl
absent-drop i id (n ∷ ns) none =
    let parts = or_parts (n.id == i) (list_any (λ m. m == i) (map (λ n. n.id) ns)) none in
    elim (cases_Bool (id == n.id)) as (λ _. list_any (λ m. m == i) (map (λ n. n.id) (drop_net id (n ∷ ns))) ≡ false) [
      | inl e ↦ rw e parts.1
      | inr e ↦ rw e (or_from (n.id == i) (list_any (λ m. m == i) (map (λ n. n.id) (drop_net id ns))) parts.0 (absent-drop i id ns parts.1))
    ]

pub keyed-drop : (id : ℕ) (ns : List Network) → AreKeyed ns → AreKeyed (drop_net id ns)
keyed-drop id [] keyed = refl
keyed-drop id (n ∷ ns) keyed =
    let parts = and_parts (not (list_any (λ m. m == n.id) (map (λ n. n.id) ns))) (are_distinct (map (λ n. n.id) ns)) keyed in
    elim (cases_Bool (id == n.id)) as (λ _. AreKeyed (drop_net id (n ∷ ns))) [
      | inl e ↦ rw e parts.1
      | inr e ↦ rw e (and_from (not (list_any (λ m. m == n.id) (map (λ n. n.id) (drop_net id ns)))) (are_distinct (map (λ n. n.id) (drop_net id ns))) (not_from_false _ (absent-drop n.id id ns (not-true _ parts.0))) (keyed-drop id ns parts.1))
    ]

or-false : (b : Bool) → (b || false) ≡ true → b ≡ true
or-false true h = refl
or-false false h = h

module _ {K : Type 0} (has : Network → K → Bool) where
  -- the network leads to its id
  abbrev pub IsOwned : (K → Option ℕ) → Network → Type 0
  IsOwned look n = (key : K) → has n key ≡ true → look key ≡ Some n.id

  found-first : (look : K → Option ℕ) (k : K) (ns : List Network) → AllByRecursion (IsOwned look) ns → list_any (λ n. has n k) ns ≡ true → option_map (λ n. n.id) (find (λ n. has n k) ns) ≡ look k
  found-first look k [] owned any = absurd (false≢true any)
  found-first look k (n ∷ ns) owned any = elim (cases_Bool (has n k)) as (λ _. option_map (λ n. n.id) (find (λ n. has n k) (n ∷ ns)) ≡ look k) [
    | inl e ↦ rw e (sym (owned.0 k e))
    | inr e ↦ rw e (found-first look k ns owned.1 (rw e at any))
  ]

  -- the index answers the id that a search would find
  pub owner-found : (look : K → Option ℕ) (ns : List Network) → LeadsToOwner has look ns → (k : K) → option_map (λ n. n.id) (find (λ n. has n k) ns) ≡ look k
  owner-found look ns leads k = elim (cases_Bool (list_any (λ n. has n k) ns)) as (λ _. option_map (λ n. n.id) (find (λ n. has n k) ns) ≡ look k) [
    | inl any ↦ found-first look k ns leads.owned any
    | inr none ↦ ap (option_map (λ (n : Network). n.id)) (find-none-any (λ n. has n k) ns none) ∙ sym (leads.unowned k none)
  ]

  pub owned-at : (look : K → Option ℕ) (id : ℕ) (ns : List Network) (n : Network) → AllByRecursion (IsOwned look) ns → find_id id ns ≡ Some n → IsOwned look n
  owned-at look id [] n owned found = absurd (none-some n found)
  owned-at look id (m ∷ ms) n owned found = elim (cases_Bool (id == m.id)) as (λ _. IsOwned look n) [
    | inl e ↦ subst (IsOwned look) (same_Some m n (rw e at found)) owned.0
    | inr e ↦ owned-at look id ms n owned.1 (rw e at found)
  ]

  -- a network that has nothing comes last
  pub owners-push : (look : K → Option ℕ) (ns : List Network) (n : Network) → LeadsToOwner has look ns → ((k : K) → has n k ≡ false) → LeadsToOwner has look (ns ++ n ∷ [])
  owners-push look ns n leads nothing =
      record {
        owned = all-push (IsOwned look) ns n leads.owned (λ k h. absurd (both_ways (has n k) (nothing k) h));
        unowned = λ k none. leads.unowned k (or_parts (list_any (λ m. has m k) ns) (list_any (λ m. has m k) (n ∷ [])) (sym (list_any-append (λ m. has m k) ns (n ∷ [])) ∙ none)).0;
      }

  module _ (id : ℕ) (change : Network → Network) (same_id : (n : Network) → (change n).id ≡ n.id) where
    module _ (same_has : (n : Network) (k : K) → has (change n) k ≡ has n k) (look : K → Option ℕ) where
      same-owned : (ns : List Network) → AllByRecursion (IsOwned look) ns → AllByRecursion (IsOwned look) (with_net id change ns)
      same-owned [] owned = tt
      same-owned (n ∷ ns) owned = elim (cases_Bool (id == n.id)) as (λ _. AllByRecursion (IsOwned look) (with_net id change (n ∷ ns))) [
        | inl e ↦ rw e (λ k h. owned.0 k (sym (same_has n k) ∙ h) ∙ ap (λ i. Some i) (sym (same_id n)), owned.1)
        | inr e ↦ rw e (owned.0, same-owned ns owned.1)
      ]

      any-same : (ns : List Network) (k : K) → list_any (λ n. has n k) (with_net id change ns) ≡ list_any (λ n. has n k) ns
      any-same [] k = refl
      any-same (n ∷ ns) k = elim (cases_Bool (id == n.id)) as (λ _. list_any (λ n. has n k) (with_net id change (n ∷ ns)) ≡ list_any (λ n. has n k) (n ∷ ns)) [
        | inl e ↦ rw e (ap (λ b. b || list_any (λ n. has n k) ns) (same_has n k))
        | inr e ↦ rw e (ap (λ b. has n k || b) (any-same ns k))
      ]

      -- the network has what it had
      pub owners-same : (ns : List Network) → LeadsToOwner has look ns → LeadsToOwner has look (with_net id change ns)
      owners-same ns leads = record { owned = same-owned ns leads.owned; unowned = λ k none. leads.unowned k (sym (any-same ns k) ∙ none) }

    module _ (n : Network) (more : K → Bool) (has_more : (k : K) → has (change n) k ≡ (has n k || more k)) (look look' : K → Option ℕ) (put : (k : K) → look' k ≡ cond (more k) (Some id) (look k)) where
      kept : (m : Network) → IsOwned look m → ((k : K) → more k ≡ true → has m k ≡ false) → IsOwned look' m
      kept m owned fresh k h = elim (cases_Bool (more k)) as (λ _. look' k ≡ Some m.id) [
        | inl e ↦ absurd (both_ways (has m k) (fresh k e) h)
        | inr e ↦ put k ∙ rw e (owned k h)
      ]

      all-kept : (ns : List Network) → AllByRecursion (IsOwned look) ns → ((k : K) → more k ≡ true → list_any (λ m. has m k) ns ≡ false) → AllByRecursion (IsOwned look') ns
      all-kept [] owned fresh = tt
      all-kept (m ∷ ms) owned fresh = (
        kept m owned.0 (λ k e. (or_parts (has m k) (list_any (λ m. has m k) ms) (fresh k e)).0),
        all-kept ms owned.1 (λ k e. (or_parts (has m k) (list_any (λ m. has m k) ms) (fresh k e)).1),
      )

      more-owned : (ns : List Network) → find_id id ns ≡ Some n → AllByRecursion (IsOwned look) ns → ((k : K) → more k ≡ true → list_any (λ m. has m k) ns ≡ false) → AllByRecursion (IsOwned look') (with_net id change ns)
      more-owned [] found owned fresh = absurd (none-some n found)
      more-owned (m ∷ ms) found owned fresh =
          let all = all-kept (m ∷ ms) owned fresh in
          elim (cases_Bool (id == m.id)) as (λ _. AllByRecursion (IsOwned look') (with_net id change (m ∷ ms))) [
            | inl e ↦ rw e (subst (λ x. IsOwned look' (change x)) (same_Some n m (sym (rw e at found))) (here (eqb-true id m.id e) (same_Some m n (rw e at found))), all.1)
            | inr e ↦ rw e (all.0, more-owned ms (rw e at found) owned.1 (λ k t. (or_parts (has m k) (list_any (λ m. has m k) ms) (fresh k t)).1))
          ]
        where
          here : id ≡ m.id → m ≡ n → IsOwned look' (change n)
          here is one k h = elim (cases_Bool (more k)) as (λ _. look' k ≡ Some (change n).id) [
            | inl e ↦ put k ∙ rw e (ap (λ i. Some i) (is ∙ ap (λ (x : Network). x.id) one ∙ sym (same_id n)))
            | inr e ↦
                let had : has n k ≡ true = let both = sym (has_more k) ∙ h in or-false (has n k) (rw e at both) in
                put k ∙ rw e (owned.0 k (ap (λ x. has x k) one ∙ had) ∙ ap (λ (x : Network). Some x.id) one ∙ ap (λ i. Some i) (sym (same_id n)))
          ]

      or-turned : (a b c : Bool) → ((a || c) || b) ≡ ((a || b) || c)
      or-turned true b c = refl
      or-turned false true true = refl
      or-turned false true false = refl
      or-turned false false true = refl
      or-turned false false false = refl

      or-within : (a b c : Bool) → (a || (b || c)) ≡ ((a || b) || c)
      or-within true b c = refl
      or-within false b c = refl

      any-more : (ns : List Network) → find_id id ns ≡ Some n → (k : K) → list_any (λ m. has m k) (with_net id change ns) ≡ (list_any (λ m. has m k) ns || more k)
      any-more [] found k = absurd (none-some n found)
      any-more (m ∷ ms) found k = elim (cases_Bool (id == m.id)) as (λ _. list_any (λ m. has m k) (with_net id change (m ∷ ms)) ≡ (list_any (λ m. has m k) (m ∷ ms) || more k)) [
        | inl e ↦
            let one : m ≡ n = same_Some m n (rw e at found) in
            rw e (ap (λ x. has (change x) k || list_any (λ m. has m k) ms) one ∙ ap (λ b. b || list_any (λ m. has m k) ms) (has_more k ∙ ap (λ x. has x k || more k) (sym one)) ∙ or-turned (has m k) (list_any (λ m. has m k) ms) (more k))
        | inr e ↦ rw e (ap (λ b. has m k || b) (any-more ms (rw e at found) k) ∙ or-within (has m k) (list_any (λ m. has m k) ms) (more k))
      ]

      -- the network has more, which none had
      pub owners-more : (ns : List Network) → find_id id ns ≡ Some n → ((k : K) → more k ≡ true → list_any (λ m. has m k) ns ≡ false) → LeadsToOwner has look ns → LeadsToOwner has look' (with_net id change ns)
      owners-more ns found fresh leads =
          record {
            owned = more-owned ns found leads.owned fresh;
            unowned = λ k none.
                let parts = or_parts (list_any (λ m. has m k) ns) (more k) (sym (any-more ns found k) ∙ none) in
                put k ∙ rw parts.1 (leads.unowned k parts.0);
          }

  -- what goes belongs to the network of this id
  module _ (id : ℕ) (less : K → Bool) (look look' : K → Option ℕ) (taken : (k : K) → look' k ≡ cond (less k) None (look k)) (mine : (k : K) → less k ≡ true → (i : ℕ) → look k ≡ Some i → i ≡ id) where
    other-kept : (m : Network) → (m.id == id) ≡ false → IsOwned look m → IsOwned look' m
    other-kept m other owned k h = elim (cases_Bool (less k)) as (λ _. look' k ≡ Some m.id) [
      | inl e ↦ absurd (both_ways (m.id == id) other (eq-eqb m.id id (mine k e m.id (owned k h))))
      | inr e ↦ taken k ∙ rw e (owned k h)
    ]

    others-kept : (ns : List Network) → list_any (λ m. m == id) (map (λ n. n.id) ns) ≡ false → AllByRecursion (IsOwned look) ns → AllByRecursion (IsOwned look') ns
    others-kept [] absent owned = tt
    others-kept (m ∷ ms) absent owned =
        let parts = or_parts (m.id == id) (list_any (λ m. m == id) (map (λ n. n.id) ms)) absent in
        (other-kept m parts.0 owned.0, others-kept ms parts.1 owned.1)

    turned : (m : Network) → (id == m.id) ≡ false → (m.id == id) ≡ false
    turned m e = elim (cases_Bool (m.id == id)) as (λ _. (m.id == id) ≡ false) [
      | inl t ↦ absurd (both_ways (id == m.id) e (eq-eqb id m.id (sym (eqb-true m.id id t))))
      | inr f ↦ f
    ]

    drop-owned : (ns : List Network) → AreKeyed ns → AllByRecursion (IsOwned look) ns → AllByRecursion (IsOwned look') (drop_net id ns)
    drop-owned [] keyed owned = tt
    drop-owned (m ∷ ms) keyed owned =
        let parts = and_parts (not (list_any (λ i. i == m.id) (map (λ n. n.id) ms))) (are_distinct (map (λ n. n.id) ms)) keyed in
        elim (cases_Bool (id == m.id)) as (λ _. AllByRecursion (IsOwned look') (drop_net id (m ∷ ms))) [
          | inl e ↦ rw e (others-kept ms (subst (λ j. list_any (λ i. i == j) (map (λ (n : Network). n.id) ms) ≡ false) (sym (eqb-true id m.id e)) (not-true _ parts.0)) owned.1)
          | inr e ↦ rw e (other-kept m (turned m e) owned.0, drop-owned ms parts.1 owned.1)
        ]

    any-drop : (n : Network) (k : K) → has n k ≡ false → (ns : List Network) → find_id id ns ≡ Some n → list_any (λ m. has m k) (drop_net id ns) ≡ list_any (λ m. has m k) ns
    any-drop n k lacks [] found = refl
    any-drop n k lacks (m ∷ ms) found = elim (cases_Bool (id == m.id)) as (λ _. list_any (λ m. has m k) (drop_net id (m ∷ ms)) ≡ list_any (λ m. has m k) (m ∷ ms)) [
      | inl e ↦
          let gone : has m k ≡ false = ap (λ x. has x k) (same_Some m n (rw e at found)) ∙ lacks in
          rw (e, gone) refl
      | inr e ↦ rw e (ap (λ b. has m k || b) (any-drop n k lacks ms (rw e at found)))
    ]

    -- the network goes with all that it has
    pub owners-drop : (n : Network) (ns : List Network) → find_id id ns ≡ Some n → ((k : K) → less k ≡ has n k) → AreKeyed ns → LeadsToOwner has look ns → LeadsToOwner has look' (drop_net id ns)
    owners-drop n ns found all keyed leads =
        record {
          owned = drop-owned ns keyed leads.owned;
          unowned = λ k none. elim (cases_Bool (has n k)) as (λ _. look' k ≡ None) [
            | inl e ↦ taken k ∙ rw (all k, e) refl
            | inr e ↦ taken k ∙ rw (all k, e) (leads.unowned k (sym (any-drop n k e ns found) ∙ none))
          ];
        }

    module _ (change : Network → Network) (same_id : (n : Network) → (change n).id ≡ n.id) (n : Network) (has_less : (k : K) → has (change n) k ≡ (has n k && not (less k))) where
      less-owned : (ns : List Network) → find_id id ns ≡ Some n → AreKeyed ns → AllByRecursion (IsOwned look) ns → AllByRecursion (IsOwned look') (with_net id change ns)
      less-owned [] found keyed owned = absurd (none-some n found)
      less-owned (m ∷ ms) found keyed owned =
          let parts = and_parts (not (list_any (λ i. i == m.id) (map (λ n. n.id) ms))) (are_distinct (map (λ n. n.id) ms)) keyed in
          elim (cases_Bool (id == m.id)) as (λ _. AllByRecursion (IsOwned look') (with_net id change (m ∷ ms))) [
            | inl e ↦
                rw e (
                  subst (λ x. IsOwned look' (change x)) (sym (same_Some m n (rw e at found))) (here (same_Some m n (rw e at found))),
                  others-kept ms (subst (λ j. list_any (λ i. i == j) (map (λ (n : Network). n.id) ms) ≡ false) (sym (eqb-true id m.id e)) (not-true _ parts.0)) owned.1,
                )
            | inr e ↦ rw e (other-kept m (turned m e) owned.0, less-owned ms (rw e at found) parts.1 owned.1)
          ]
        where
          here : m ≡ n → IsOwned look' (change n)
          here one k h =
              let both = and_parts (has n k) (not (less k)) (sym (has_less k) ∙ h) in
              taken k ∙ rw (not-true _ both.1) (owned.0 k (ap (λ x. has x k) one ∙ both.0) ∙ ap (λ (x : Network). Some x.id) one ∙ ap (λ i. Some i) (sym (same_id n)))

      any-less : (ns : List Network) → find_id id ns ≡ Some n → (k : K) → less k ≡ false → list_any (λ m. has m k) (with_net id change ns) ≡ list_any (λ m. has m k) ns
      any-less [] found k stays = absurd (none-some n found)
      any-less (m ∷ ms) found k stays = elim (cases_Bool (id == m.id)) as (λ _. list_any (λ m. has m k) (with_net id change (m ∷ ms)) ≡ list_any (λ m. has m k) (m ∷ ms)) [
        | inl e ↦
            let one : m ≡ n = same_Some m n (rw e at found) in
            rw e (ap (λ x. has (change x) k || list_any (λ m. has m k) ms) one ∙ ap (λ b. b || list_any (λ m. has m k) ms) (has_less k ∙ ap (λ b. has n k && not b) stays ∙ and-true (has n k) ∙ ap (λ x. has x k) (sym one)))
        | inr e ↦ rw e (ap (λ b. has m k || b) (any-less ms (rw e at found) k stays))
      ]
        where
          and-true : (b : Bool) → (b && true) ≡ b
          and-true true = refl
          and-true false = refl

      -- the network has less
      pub owners-less : (ns : List Network) → find_id id ns ≡ Some n → AreKeyed ns → LeadsToOwner has look ns → LeadsToOwner has look' (with_net id change ns)
      owners-less ns found keyed leads =
          record {
            owned = less-owned ns found keyed leads.owned;
            unowned = λ k none. elim (cases_Bool (less k)) as (λ _. look' k ≡ None) [
              | inl e ↦ taken k ∙ rw e refl
              | inr e ↦ taken k ∙ rw e (leads.unowned k (sym (any-less ns found k e) ∙ none))
            ];
          }

among : (p : Network → Bool) (id : ℕ) (ns : List Network) → option_map (λ n. n.id) (find p ns) ≡ Some id → list_any (λ m. m == id) (map (λ n. n.id) ns) ≡ true
among p id [] is = absurd (none-some id is)
among p id (n ∷ ns) is = elim (cases_Bool (p n)) as (λ _. list_any (λ m. m == id) (map (λ n. n.id) (n ∷ ns)) ≡ true) [
  | inl e ↦ let here : (n.id == id) ≡ true = eq-eqb n.id id (same_Some n.id id (rw e at is)) in rw here refl
  | inr e ↦ elim (cases_Bool (n.id == id)) as (λ _. list_any (λ m. m == id) (map (λ n. n.id) (n ∷ ns)) ≡ true) [
    | inl t ↦ rw t refl
    | inr t ↦ rw t (among p id ns (rw e at is))
  ]
]

-- the network that a test finds is found by its id
pub found-by-id : (p : Network → Bool) (id : ℕ) (ns : List Network) → AreKeyed ns → option_map (λ n. n.id) (find p ns) ≡ Some id → find_id id ns ≡ find p ns
found-by-id p id [] keyed is = absurd (none-some id is)
found-by-id p id (n ∷ ns) keyed is =
    let parts = and_parts (not (list_any (λ m. m == n.id) (map (λ n. n.id) ns))) (are_distinct (map (λ n. n.id) ns)) keyed in
    elim (cases_Bool (p n)) as (λ _. find_id id (n ∷ ns) ≡ find p (n ∷ ns)) [
      | inl e ↦ let here : (id == n.id) ≡ true = eq-eqb id n.id (sym (same_Some n.id id (rw e at is))) in rw (e, here) refl
      | inr e ↦
          let later : option_map (λ (m : Network). m.id) (find p ns) ≡ Some id = rw e at is in
          elim (cases_Bool (id == n.id)) as (λ _. find_id id (n ∷ ns) ≡ find p (n ∷ ns)) [
            | inl t ↦ absurd (both_ways (list_any (λ m. m == n.id) (map (λ n. n.id) ns)) (not-true _ parts.0) (subst (λ i. list_any (λ m. m == i) (map (λ (n : Network). n.id) ns) ≡ true) (eqb-true id n.id t) (among p id ns later)))
            | inr t ↦ rw (e, t) (found-by-id p id ns parts.1 later)
          ]
    ]

-- what a network has leads to it alone
pub mine-all : {K : Type 0} (has : Network → K → Bool) (look : K → Option ℕ) (id : ℕ) (ns : List Network) (n : Network) → LeadsToOwner has look ns → find_id id ns ≡ Some n
    → (less : K → Bool) → ((k : K) → less k ≡ has n k) → (k : K) → less k ≡ true → (i : ℕ) → look k ≡ Some i → i ≡ id
mine-all has look id ns n leads found less all k e i is =
    same_Some i id (sym is ∙ owned-at has look id ns n leads.owned found k (sym (all k) ∙ e) ∙ ap (λ j. Some j) (sym (id-found id ns n found)))
