-- The changes of stored networks are those of a state's networks.
use Rattle.std.proofs.Common.{◌≡◌, ◌∙◌, ℕ, ◌==◌, true, false, not, List, [], ◌∷◌, map, filter, Some, None, refl, sym, ap, subst, inl, inr}
use Rattle.std.specs.List.{list_any}
use Rattle.std.specs.Option.{option_map}
use Rattle.std.proofs.lemmas.Bool.{cases_Bool, and_parts, or_parts, not-true, eqb-true}
use Rattle.std.proofs.lemmas.Option.{none-some}
use Rattle.fwmark.specs.declared.permission.Permission.{Permission}
use Rattle.list_lemmas.proofs.Numbers.{unlike-sym}
use Rattle.network_store.specs.Store.{with_net as stored_with_net}
use Rattle.network_store.specs.Stored as stored
use Rattle.network_store.proofs.Owners.{found-by-id}
use Rattle.networks.specs.Lists.{find_id, find_link, drop_net, are_distinct, AreKeyed}
use Rattle.networks.specs.Network.{has_link}
use Rattle.networks.specs.declared.kind.Kind.{Kind}
use Rattle.networks.specs.declared.kind.Kind.TheVariants as kind
use Rattle.policy_state.specs.Good.{IsWellFormed}
use Rattle.policy_state.specs.Step.{with_net, with_link, with_permission, with_ranges, without_ranges, asking_for, is_in}
use Rattle.policy_state.specs.View.{StateView, Network}
use Rattle.policy_state.proofs.NetworkChanges.{with_change, untouched, ids-distinct}
use Rattle.policy_state.proofs.Owners.{Has}
use Rattle.uid_ranges.specs.declared.range.UidRange.{UidRange}

module _ (net : ℕ) where
  -- no other network has the id of one that has it
  absent-after : (n : Network) (ns : List Network) → AreKeyed (n ∷ ns) → (net == n.id) ≡ true → list_any (λ i. i == net) (map (λ m. m.id) ns) ≡ false
  absent-after n ns keyed here =
      let parts = and_parts (not (list_any (λ i. i == n.id) (map (λ m. m.id) ns))) (are_distinct (map (λ m. m.id) ns)) keyed in
      subst (λ i. list_any (λ j. j == i) (map (λ m. m.id) ns) ≡ false) (sym (eqb-true net n.id here)) (not-true _ parts.0)

  keyed-after : (n : Network) (ns : List Network) → AreKeyed (n ∷ ns) → AreKeyed ns
  keyed-after n ns keyed = (and_parts (not (list_any (λ i. i == n.id) (map (λ m. m.id) ns))) (are_distinct (map (λ m. m.id) ns)) keyed).1

  pub first-is-each : (f g : Network → Network) (ns : List Network) → AreKeyed ns → ((n : Network) → Has ns n → f n ≡ g n) → stored_with_net net f ns ≡ with_change net g ns
  first-is-each f g [] keyed alike = refl
  first-is-each f g (n ∷ ns) keyed alike = elim (cases_Bool (net == n.id)) as (λ _. stored_with_net net f (n ∷ ns) ≡ with_change net g (n ∷ ns)) [
    | inl here ↦ rw here (ap (λ m. m ∷ ns) (alike n (inl refl)) ∙ ap (λ rest. g n ∷ rest) (sym (untouched net g ns (absent-after n ns keyed here))))
    | inr other ↦ rw other (ap (λ rest. n ∷ rest) (first-is-each f g ns (keyed-after n ns keyed) (λ m h. alike m (inr h))))
  ]

  untaken : (ns : List Network) → list_any (λ i. i == net) (map (λ m. m.id) ns) ≡ false → filter (λ n. not (net == n.id)) ns ≡ ns
  untaken [] absent = refl
  untaken (n ∷ ns) absent =
      let parts = or_parts (n.id == net) (list_any (λ i. i == net) (map (λ m. m.id) ns)) absent in
      let other : (net == n.id) ≡ false = unlike-sym n.id net parts.0 in
      rw other (ap (λ rest. n ∷ rest) (untaken ns parts.1))

  pub first-dropped : (ns : List Network) → AreKeyed ns → drop_net net ns ≡ filter (λ n. not (net == n.id)) ns
  first-dropped [] keyed = refl
  first-dropped (n ∷ ns) keyed = elim (cases_Bool (net == n.id)) as (λ _. drop_net net (n ∷ ns) ≡ filter (λ m. not (net == m.id)) (n ∷ ns)) [
    | inl here ↦ rw here (sym (untaken ns (absent-after n ns keyed here)))
    | inr other ↦ rw other (ap (λ rest. n ∷ rest) (first-dropped ns (keyed-after n ns keyed)))
  ]

-- a link that is an interface of no network
lacks : (link : ℕ) (ns : List Network) → find_link link ns ≡ None → (n : Network) → Has ns n → has_link n link ≡ false
lacks link [] none n there = absurd there
lacks link (m ∷ ms) none n there = elim (cases_Bool (has_link m link)) as (λ _. has_link n link ≡ false) [
  | inl has ↦ absurd (none-some m (sym (rw has at none)))
  | inr not_here ↦ elim there [
    | inl is ↦ subst (λ k. has_link k link ≡ false) is not_here
    | inr later ↦ lacks link ms (rw not_here at none) n later
  ]
]

linked : (link : ℕ) (n : Network) → has_link n link ≡ false → stored.with_link link n ≡ with_link link n
linked link n lacking = rw lacking refl

permitted : (permission : Permission) (k : Kind) → stored.kind_needing permission k ≡ asking_for permission k
permitted permission kind.Local = refl
permitted permission (kind.Physical old apps) = refl
permitted permission (kind.Virtual secure users) = refl

module _ (s : StateView) (formed : IsWellFormed s) (net : ℕ) where
  changed-by : (f g : Network → Network) → ((n : Network) → Has s.networks n → f n ≡ g n) → record s { networks = stored_with_net net f s.networks } ≡ with_net net g s
  changed-by f g alike = ap (λ ns. record s { networks = ns }) (first-is-each net f g s.networks (ids-distinct s formed) alike)

  pub nets-alike : (f : Network → Network) → stored_with_net net f s.networks ≡ with_change net f s.networks
  nets-alike f = first-is-each net f f s.networks (ids-distinct s formed) (λ n there. refl)

  pub changed-alike : (f : Network → Network) → record s { networks = stored_with_net net f s.networks } ≡ with_net net f s
  changed-alike f = ap (λ ns. record s { networks = ns }) (nets-alike f)

  pub changed-link : (link : ℕ) → find_link link s.networks ≡ None → record s { networks = stored_with_net net (stored.with_link link) s.networks } ≡ with_net net (with_link link) s
  changed-link link free = changed-by (stored.with_link link) (with_link link) (λ n there. linked link n (lacks link s.networks free n there))

  pub changed-permission : (permission : Permission) → record s { networks = stored_with_net net (stored.with_permission permission) s.networks } ≡ with_net net (with_permission permission) s
  changed-permission permission = changed-by (stored.with_permission permission) (with_permission permission) (λ n there. ap (λ k. record n { kind = k }) (permitted permission n.kind))

  pub changed-ranges : (rank : ℕ) (more : List UidRange) → record s { networks = stored_with_net net (with_ranges rank more) s.networks } ≡ with_net net (with_ranges rank more) s
  changed-ranges rank more = changed-alike (with_ranges rank more)

  pub changed-gone : (gone : List UidRange) → record s { networks = stored_with_net net (without_ranges gone) s.networks } ≡ with_net net (without_ranges gone) s
  changed-gone gone = changed-alike (without_ranges gone)

  pub dropped : drop_net net s.networks ≡ filter (λ n. not (net == n.id)) s.networks
  dropped = first-dropped net s.networks (ids-distinct s formed)

  -- the network of which the link is an interface has it
  pub is-in : (link : ℕ) → option_map (λ n. n.id) (find_link link s.networks) ≡ Some net → is_in s net link ≡ true
  is-in link owner =
      let by : find_id net s.networks ≡ find_link link s.networks = found-by-id (λ n. has_link n link) net s.networks (ids-distinct s formed) owner in
      ap (λ o. elim o [ Some n ↦ has_link n link | None ↦ false ]) by ∙ found-has s.networks owner
    where
      found-has : (ns : List Network) → option_map (λ n. n.id) (find_link link ns) ≡ Some net → (elim (find_link link ns) [ Some n ↦ has_link n link | None ↦ false ]) ≡ true
      found-has [] owner = absurd (none-some net owner)
      found-has (n ∷ ns) owner = elim (cases_Bool (has_link n link)) as (λ _. (elim (find_link link (n ∷ ns)) [ Some m ↦ has_link m link | None ↦ false ]) ≡ true) [
        | inl has ↦ rw has has
        | inr lacks ↦ rw lacks (found-has ns (rw lacks at owner))
      ]
