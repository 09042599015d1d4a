-- How sums over networks, and the interfaces of the default one, change with the state.
use Rattle.std.proofs.Common.{◌≡◌, ◌∙◌, ◌≤◌, ◌+◌, ◌==◌, ℕ, Bool, true, false, not, List, [], ◌∷◌, ◌++◌, Option, Some, None, map, filter, refl, sym, ap, ap₂, inl, inr, arith}
use Rattle.std.specs.Prelude.{sum_by}
use Rattle.std.specs.List.{list_any}
use Rattle.std.specs.Option.{option_map, option_map_or}
use Rattle.std.proofs.lemmas.Bool.{cases_Bool, and_parts, or_parts, not-true, eqb-true, eq-eqb}
use Rattle.std.proofs.lemmas.Option.{none-some}
use Rattle.std.proofs.lemmas.List.Sums.{sum_by-cons, sum_by-append}
use Rattle.list_lemmas.proofs.Numbers.{eqb-turned}
use Rattle.networks.specs.Lists.{AreKeyed, are_distinct, find_id}
use Rattle.policy_state.specs.Tallies.{share}
use Rattle.policy_state.specs.View.{Network}
use Rattle.policy_state.proofs.NetworkChanges.{with_change, untouched}

-- sums

pub sum-filter-le : {A : Type 0} (f : A → ℕ) (p : A → Bool) (xs : List A) → sum_by f (filter p xs) ≤ sum_by f xs
sum-filter-le f p [] = omega arith
sum-filter-le f p (x ∷ xs) = elim (cases_Bool (p x)) as (λ _. sum_by f (filter p (x ∷ xs)) ≤ sum_by f (x ∷ xs)) [
  | inl e ↦ rw e (omega (arith, sum_by-cons f x (filter p xs), sum_by-cons f x xs, sum-filter-le f p xs))
  | inr e ↦ rw e (omega (arith, sum_by-cons f x xs, sum-filter-le f p xs))
]

-- the changes of a list of networks

abbrev pub without_id : ℕ → List Network → List Network
without_id net ns = filter (λ n. not (net == n.id)) ns

find-here : (net : ℕ) (n : Network) (ns : List Network) → (net == n.id) ≡ true → find_id net (n ∷ ns) ≡ Some n
find-here net n ns e = rw e refl

find-later : (net : ℕ) (n : Network) (ns : List Network) → (net == n.id) ≡ false → find_id net (n ∷ ns) ≡ find_id net ns
find-later net n ns e = rw e refl

pub share-at : (f : Network → ℕ) (net : ℕ) (ns : List Network) (o : Option Network) → find_id net ns ≡ o → share f net ns ≡ option_map_or f o 0
share-at f net ns o is = ap (λ (o : Option Network). option_map_or f o 0) is

module _ (f : Network → ℕ) (net : ℕ) where
  share-here : (n : Network) (ns : List Network) → (net == n.id) ≡ true → share f net (n ∷ ns) ≡ f n
  share-here n ns e = share-at f net (n ∷ ns) (Some n) (find-here net n ns e)

  share-later : (n : Network) (ns : List Network) → (net == n.id) ≡ false → share f net (n ∷ ns) ≡ share f net ns
  share-later n ns e = share-at f net (n ∷ ns) (find_id net ns) (find-later net n ns e)

  -- the network that comes has the id
  pub share-new : (ns : List Network) (n : Network) → n.id ≡ net → find_id net ns ≡ None → sum_by f (ns ++ n ∷ []) + share f net ns ≡ sum_by f ns + share f net (ns ++ n ∷ [])
  share-new ns n is none =
      let there : share f net (ns ++ n ∷ []) ≡ f n = at ns none in
      let nothing : share f net ns ≡ 0 = share-at f net ns None none in
      omega (arith, sum_by-append f ns (n ∷ []), sum_by-cons f n [], there, nothing)
    where
      at : (ms : List Network) → find_id net ms ≡ None → share f net (ms ++ n ∷ []) ≡ f n
      at [] h = share-here n [] (eq-eqb net n.id (sym is))
      at (m ∷ ms) h = elim (cases_Bool (net == m.id)) as (λ _. share f net ((m ∷ ms) ++ n ∷ []) ≡ f n) [
        | inl e ↦ absurd (none-some m (sym h ∙ find-here net m ms e))
        | inr e ↦ share-later m (ms ++ n ∷ []) e ∙ at ms (sym (find-later net m ms e) ∙ h)
      ]

  absent-none : (ns : List Network) → list_any (λ i. i == net) (map (λ n. n.id) ns) ≡ false → find_id net ns ≡ None
  absent-none [] h = refl
  absent-none (n ∷ ns) h =
      let parts = or_parts (n.id == net) (list_any (λ i. i == net) (map (λ m. m.id) ns)) h in
      rw (eqb-turned net n.id ∙ parts.0) (absent-none ns parts.1)

  -- no other network has the id of the first one
  absent-at : (n : Network) (ns : List Network) → AreKeyed (n ∷ ns) → (net == n.id) ≡ true → list_any (λ i. i == net) (map (λ m. m.id) ns) ≡ false
  absent-at n ns keyed e =
      let parts = and_parts (not (list_any (λ i. i == n.id) (map (λ m. m.id) ns))) (are_distinct (map (λ m. m.id) ns)) keyed in
      ap (λ k. list_any (λ i. i == k) (map (λ m. m.id) ns)) (eqb-true net n.id e) ∙ not-true _ parts.0

  rest-keyed : (n : Network) (ns : List Network) → AreKeyed (n ∷ ns) → AreKeyed ns
  rest-keyed n ns keyed = (and_parts (not (list_any (λ i. i == n.id) (map (λ m. m.id) ns))) (are_distinct (map (λ m. m.id) ns)) keyed).1

  without-absent : (ns : List Network) → list_any (λ i. i == net) (map (λ n. n.id) ns) ≡ false → without_id net ns ≡ ns
  without-absent [] h = refl
  without-absent (n ∷ ns) h =
      let parts = or_parts (n.id == net) (list_any (λ i. i == net) (map (λ m. m.id) ns)) h in
      rw (eqb-turned net n.id ∙ parts.0) (ap (λ rest. n ∷ rest) (without-absent ns parts.1))

  gone-here : (n : Network) (ns : List Network) → (net == n.id) ≡ true → without_id net (n ∷ ns) ≡ without_id net ns
  gone-here n ns e = rw e refl

  gone-later : (n : Network) (ns : List Network) → (net == n.id) ≡ false → without_id net (n ∷ ns) ≡ n ∷ without_id net ns
  gone-later n ns e = rw e refl

  -- the network of the id goes
  pub share-gone : (ns : List Network) → AreKeyed ns → sum_by f (without_id net ns) + share f net ns ≡ sum_by f ns
  share-gone [] keyed = refl
  share-gone (n ∷ ns) keyed = elim (cases_Bool (net == n.id)) as (λ _. sum_by f (without_id net (n ∷ ns)) + share f net (n ∷ ns) ≡ sum_by f (n ∷ ns)) [
    | inl e ↦ omega (arith, sum_by-cons f n ns, share-here n ns e, ap (sum_by f) (gone-here n ns e ∙ without-absent ns (absent-at n ns keyed e)))
    | inr e ↦ omega (arith, share-later n ns e, ap (sum_by f) (gone-later n ns e), sum_by-cons f n (without_id net ns), sum_by-cons f n ns, share-gone ns (rest-keyed n ns keyed))
  ]

  pub none-gone : (ns : List Network) → find_id net (without_id net ns) ≡ None
  none-gone [] = refl
  none-gone (n ∷ ns) = elim (cases_Bool (net == n.id)) as (λ _. find_id net (without_id net (n ∷ ns)) ≡ None) [
    | inl e ↦ rw e (none-gone ns)
    | inr e ↦ rw e (rw e (none-gone ns))
  ]

  module _ (change : Network → Network) (same_id : (n : Network) → (change n).id ≡ n.id) where
    pub find-changed : (ns : List Network) → find_id net (with_change net change ns) ≡ option_map change (find_id net ns)
    find-changed [] = refl
    find-changed (n ∷ ns) = elim (cases_Bool (net == n.id)) as (λ _. find_id net (with_change net change (n ∷ ns)) ≡ option_map change (find_id net (n ∷ ns))) [
      | inl e ↦ rw e (rw (ap (λ i. net == i) (same_id n) ∙ e) refl)
      | inr e ↦ rw e (rw e (find-changed ns))
    ]

    changed-here : (n : Network) (ns : List Network) → (net == n.id) ≡ true → with_change net change (n ∷ ns) ≡ change n ∷ with_change net change ns
    changed-here n ns e = rw e refl

    changed-later : (n : Network) (ns : List Network) → (net == n.id) ≡ false → with_change net change (n ∷ ns) ≡ n ∷ with_change net change ns
    changed-later n ns e = rw e refl

    -- the network of the id is changed, and no other
    pub share-changed : (ns : List Network) → AreKeyed ns → sum_by f (with_change net change ns) + share f net ns ≡ sum_by f ns + share (λ n. f (change n)) net ns
    share-changed [] keyed = refl
    share-changed (n ∷ ns) keyed = elim (cases_Bool (net == n.id)) as (λ _. sum_by f (with_change net change (n ∷ ns)) + share f net (n ∷ ns) ≡ sum_by f (n ∷ ns) + share (λ m. f (change m)) net (n ∷ ns)) [
      | inl e ↦ omega (
        arith,
        share-here n ns e,
        share-at (λ m. f (change m)) net (n ∷ ns) (Some n) (find-here net n ns e),
        ap (sum_by f) (changed-here n ns e),
        sum_by-cons f (change n) (with_change net change ns),
        sum_by-cons f n ns,
        ap (sum_by f) (untouched net change ns (absent-at n ns keyed e)),
      )
      | inr e ↦ omega (
        arith,
        share-later n ns e,
        share-at (λ m. f (change m)) net (n ∷ ns) (find_id net ns) (find-later net n ns e),
        ap (sum_by f) (changed-later n ns e),
        sum_by-cons f n (with_change net change ns),
        sum_by-cons f n ns,
        share-changed ns (rest-keyed n ns keyed),
      )
    ]

    -- no more, where it has no more
    pub sum-changed-le : ((n : Network) → f (change n) ≤ f n) → (ns : List Network) → sum_by f (with_change net change ns) ≤ sum_by f ns
    sum-changed-le less [] = omega arith
    sum-changed-le less (n ∷ ns) = elim (cases_Bool (net == n.id)) as (λ _. sum_by f (with_change net change (n ∷ ns)) ≤ sum_by f (n ∷ ns)) [
      | inl e ↦ omega (arith, ap (sum_by f) (changed-here n ns e), sum_by-cons f (change n) (with_change net change ns), sum_by-cons f n ns, less n, sum-changed-le less ns)
      | inr e ↦ omega (arith, ap (sum_by f) (changed-later n ns e), sum_by-cons f n (with_change net change ns), sum_by-cons f n ns, sum-changed-le less ns)
    ]

    pub ids-changed : (ns : List Network) → map (λ n. n.id) (with_change net change ns) ≡ map (λ n. n.id) ns
    ids-changed [] = refl
    ids-changed (n ∷ ns) = elim (cases_Bool (net == n.id)) as (λ _. map (λ m. m.id) (with_change net change (n ∷ ns)) ≡ map (λ m. m.id) (n ∷ ns)) [
      | inl e ↦ rw e (ap₂ (λ (i : ℕ) (is : List ℕ). i ∷ is) (same_id n) (ids-changed ns))
      | inr e ↦ rw e (ap (λ is. n.id ∷ is) (ids-changed ns))
    ]

    pub keyed-changed : (ns : List Network) → AreKeyed ns → AreKeyed (with_change net change ns)
    keyed-changed ns keyed = ap are_distinct (ids-changed ns) ∙ keyed
