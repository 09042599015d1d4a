-- The entries of a map of stored networks by id, as the list of what they stand for.
use Rattle.std.proofs.Common.{◌≡◌, ℕ, zero, suc, ◌==◌, ◌∙◌, List, [], ◌∷◌, ◌++◌, map, find, slice_get, Option, Some, None, nat_eq, refl, sym, ap, subst, inl, inr}
use Rattle.std.specs.List.{AllZip}
use Rattle.std.specs.Map.{values_of, lookup, set_value}
use Rattle.std.specs.Option.{option_map, IfSome}
use Rattle.std.proofs.lemmas.Bool.{cases_Bool}
use Rattle.std.proofs.lemmas.Option.{none-some, same_Some}
use Rattle.indexmap.specs.IndexMap.{shift_remove_entry}
use Rattle.list_lemmas.proofs.Alls.{all-push}
use Rattle.networks.proofs.Distinct.{are_distinct-push}
use Rattle.networks.specs.Lists.{find_id, drop_net, are_distinct}
use Rattle.networks.specs.declared.network.Network.{Network}
use Rattle.network_store.specs.Store.{with_net, nets_in, StandAtIds, FindOwners, AreIndexed}
use Rattle.network_store.specs.Stored.{net_of}
use Rattle.network_store.specs.declared.network.StoredNetwork.{StoredNetwork}
use Rattle.network_store.specs.declared.rank_index.OwnedRange.{OwnedRange}
use Rattle.network_store.proofs.Owners.{ids-changed, id-absent, keyed-drop}

abbrev pub Entry : Type 0
Entry = ℕ × StoredNetwork

module _ (id : ℕ) where
  at_key : (e : Entry) → e.0 ≡ e.1.id → (id == e.1.id) ≡ nat_eq id e.0
  at_key e is = ap (λ k. nat_eq id k) (sym is)

  pub find-lookup : (es : List Entry) → StandAtIds es → find_id id (nets_in es) ≡ option_map net_of (lookup (nat_eq id) es)
  find-lookup [] at = refl
  find-lookup (e ∷ es) at = elim (cases_Bool (nat_eq id e.0)) as (λ _. find_id id (nets_in (e ∷ es)) ≡ option_map net_of (lookup (nat_eq id) (e ∷ es))) [
    | inl b ↦ rw (at_key e at.0, b) refl
    | inr b ↦ rw (at_key e at.0, b) (find-lookup es at.1)
  ]

  pub whole-lookup : (es : List Entry) → StandAtIds es → find (λ n. id == n.id) (values_of es) ≡ lookup (nat_eq id) es
  whole-lookup [] at = refl
  whole-lookup (e ∷ es) at = elim (cases_Bool (nat_eq id e.0)) as (λ _. find (λ n. id == n.id) (values_of (e ∷ es)) ≡ lookup (nat_eq id) (e ∷ es)) [
    | inl b ↦ rw (at_key e at.0, b) refl
    | inr b ↦ rw (at_key e at.0, b) (whole-lookup es at.1)
  ]

  pub none-net : (change : Network → Network) (es : List Entry) → StandAtIds es → lookup (nat_eq id) es ≡ None → nets_in es ≡ with_net id change (nets_in es)
  none-net change [] at none = refl
  none-net change (e ∷ es) at none = elim (cases_Bool (nat_eq id e.0)) as (λ _. nets_in (e ∷ es) ≡ with_net id change (nets_in (e ∷ es))) [
    | inl b ↦ absurd (none-some e.1 (sym (rw b at none)))
    | inr b ↦ rw (at_key e at.0, b) (ap (λ ns. net_of e.1 ∷ ns) (none-net change es at.1 (rw b at none)))
  ]

  pub set-net : (change : Network → Network) (es : List Entry) (n w : StoredNetwork) → StandAtIds es → Some n ≡ lookup (nat_eq id) es → net_of w ≡ change (net_of n) → nets_in (set_value (nat_eq id) es w) ≡ with_net id change (nets_in es)
  set-net change [] n w at found is = absurd (none-some n (sym found))
  set-net change (e ∷ es) n w at found is = elim (cases_Bool (nat_eq id e.0)) as (λ _. nets_in (set_value (nat_eq id) (e ∷ es) w) ≡ with_net id change (nets_in (e ∷ es))) [
    | inl b ↦
        let one : Some n ≡ Some e.1 = rw b at found in
        rw (at_key e at.0, b) (ap (λ m. m ∷ nets_in es) (is ∙ ap (λ m. change (net_of m)) (same_Some n e.1 one)))
    | inr b ↦ rw (at_key e at.0, b) (ap (λ ns. net_of e.1 ∷ ns) (set-net change es n w at.1 (rw b at found) is))
  ]

  pub set-ids : (es : List Entry) (n w : StoredNetwork) → StandAtIds es → Some n ≡ lookup (nat_eq id) es → w.id ≡ n.id → StandAtIds (set_value (nat_eq id) es w)
  set-ids [] n w at found same = tt
  set-ids (e ∷ es) n w at found same = elim (cases_Bool (nat_eq id e.0)) as (λ _. StandAtIds (set_value (nat_eq id) (e ∷ es) w)) [
    | inl b ↦
        let one : Some n ≡ Some e.1 = rw b at found in
        rw b (at.0 ∙ ap (λ (m : StoredNetwork). m.id) (sym (same_Some n e.1 one)) ∙ sym same, at.1)
    | inr b ↦ rw b (at.0, set-ids es n w at.1 (rw b at found) same)
  ]

  pub set-lookup : (es : List Entry) (n w : StoredNetwork) → Some n ≡ lookup (nat_eq id) es → lookup (nat_eq id) (set_value (nat_eq id) es w) ≡ Some w
  set-lookup [] n w found = absurd (none-some n (sym found))
  set-lookup (e ∷ es) n w found = elim (cases_Bool (nat_eq id e.0)) as (λ _. lookup (nat_eq id) (set_value (nat_eq id) (e ∷ es) w) ≡ Some w) [
    | inl b ↦ rw (b, b) refl
    | inr b ↦ rw (b, b) (set-lookup es n w (rw b at found))
  ]

  -- the memory of a network changed, and no more
  pub set-same : (es : List Entry) (n w : StoredNetwork) → Some n ≡ lookup (nat_eq id) es → net_of w ≡ net_of n → nets_in (set_value (nat_eq id) es w) ≡ nets_in es
  set-same [] n w found same = refl
  set-same (e ∷ es) n w found same = elim (cases_Bool (nat_eq id e.0)) as (λ _. nets_in (set_value (nat_eq id) (e ∷ es) w) ≡ nets_in (e ∷ es)) [
    | inl b ↦
        let one : Some n ≡ Some e.1 = rw b at found in
        rw b (ap (λ m. m ∷ nets_in es) (same ∙ ap (λ m. net_of m) (same_Some n e.1 one)))
    | inr b ↦ rw b (ap (λ ns. net_of e.1 ∷ ns) (set-same es n w (rw b at found) same))
  ]

  pub room-set : (HasRoom : StoredNetwork → Type 0) (es : List Entry) (n w : StoredNetwork) → StandAtIds es → Some n ≡ lookup (nat_eq id) es → w.id ≡ n.id → HasRoom w
      → IfSome (find (λ n. id == n.id) (values_of (set_value (nat_eq id) es w))) HasRoom
  room-set HasRoom es n w at found same has =
      subst (λ o. IfSome o HasRoom) (sym (whole-lookup (set_value (nat_eq id) es w) (set-ids es n w at found same) ∙ set-lookup es n w found)) has

  pub room-none : (HasRoom : StoredNetwork → Type 0) (es : List Entry) → StandAtIds es → lookup (nat_eq id) es ≡ None → IfSome (find (λ n. id == n.id) (values_of es)) HasRoom
  room-none HasRoom es at none = subst (λ o. IfSome o HasRoom) (sym (whole-lookup es at ∙ none)) tt

  pub absent-lookup : (es : List Entry) → StandAtIds es → find_id id (nets_in es) ≡ None → lookup (nat_eq id) es ≡ None
  absent-lookup es at none = by (lookup (nat_eq id) es) (sym (find-lookup es at) ∙ none)
    where
      by : (o : Option StoredNetwork) → option_map net_of o ≡ None → o ≡ None
      by None is = refl
      by (Some n) is = absurd (none-some (net_of n) (sym is))

  pub push-nets : (es : List Entry) (n : StoredNetwork) → nets_in (es ++ (id, n) ∷ []) ≡ nets_in es ++ net_of n ∷ []
  push-nets [] n = refl
  push-nets (e ∷ es) n = ap (λ ns. net_of e.1 ∷ ns) (push-nets es n)

  pub drop-nets : (es : List Entry) → StandAtIds es → nets_in (shift_remove_entry (nat_eq id) es) ≡ drop_net id (nets_in es)
  drop-nets [] at = refl
  drop-nets (e ∷ es) at = elim (cases_Bool (nat_eq id e.0)) as (λ _. nets_in (shift_remove_entry (nat_eq id) (e ∷ es)) ≡ drop_net id (nets_in (e ∷ es))) [
    | inl b ↦ rw (at_key e at.0, b) refl
    | inr b ↦ rw (at_key e at.0, b) (ap (λ ns. net_of e.1 ∷ ns) (drop-nets es at.1))
  ]

  drop-ids : (es : List Entry) → StandAtIds es → StandAtIds (shift_remove_entry (nat_eq id) es)
  drop-ids [] at = tt
  drop-ids (e ∷ es) at = elim (cases_Bool (nat_eq id e.0)) as (λ _. StandAtIds (shift_remove_entry (nat_eq id) (e ∷ es))) [
    | inl b ↦ rw b at.1
    | inr b ↦ rw b (at.0, drop-ids es at.1)
  ]

  -- how the entries stay indexed: by links that lead to the owners in the list that they stand for now

  pub indexed-changed : (change : Network → Network) → ((n : Network) → (change n).id ≡ n.id) → (es : List Entry) (links links' : List (ℕ × ℕ)) (users users' apps apps' : List OwnedRange) (n w : StoredNetwork)
      → AreIndexed es links users apps → Some n ≡ lookup (nat_eq id) es → net_of w ≡ change (net_of n) → w.id ≡ n.id
      → FindOwners links' users' apps' (with_net id change (nets_in es)) → AreIndexed (set_value (nat_eq id) es w) links' users' apps'
  indexed-changed change same_id es links links' users users' apps apps' n w old found is same owners =
      let nets = set-net change es n w old.at_ids found is in
      record {
        at_ids = set-ids es n w old.at_ids found same;
        keyed = ap are_distinct (ap (map (λ (m : Network). m.id)) nets ∙ ids-changed id change same_id (nets_in es)) ∙ old.keyed;
        owners = subst (FindOwners links' users' apps') (sym nets) owners;
      }

  -- the room of a network changed, and no more
  pub indexed-same : (es : List Entry) (links : List (ℕ × ℕ)) (users apps : List OwnedRange) (n w : StoredNetwork) → AreIndexed es links users apps → Some n ≡ lookup (nat_eq id) es → net_of w ≡ net_of n → w.id ≡ n.id → AreIndexed (set_value (nat_eq id) es w) links users apps
  indexed-same es links users apps n w old found is same =
      let nets = set-same es n w found is in
      record {
        at_ids = set-ids es n w old.at_ids found same;
        keyed = ap (λ ns. are_distinct (map (λ (m : Network). m.id) ns)) nets ∙ old.keyed;
        owners = subst (FindOwners links users apps) (sym nets) old.owners;
      }

  pub indexed-push : (es : List Entry) (links : List (ℕ × ℕ)) (users apps : List OwnedRange) (n : StoredNetwork) → AreIndexed es links users apps → n.id ≡ id → find_id id (nets_in es) ≡ None
      → FindOwners links users apps (nets_in es ++ net_of n ∷ []) → AreIndexed (es ++ (id, n) ∷ []) links users apps
  indexed-push es links users apps n old same fresh owners =
      let nets = push-nets es n in
      record {
        at_ids = all-push (λ (e : Entry). e.0 ≡ e.1.id) es (id, n) old.at_ids (sym same);
        keyed =
            ap (λ ns. are_distinct (map (λ (m : Network). m.id) ns)) nets ∙ ap are_distinct (map-push (nets_in es) (net_of n) ∙ ap (λ i. map (λ (m : Network). m.id) (nets_in es) ++ i ∷ []) same)
            ∙ are_distinct-push (map (λ (m : Network). m.id) (nets_in es)) id old.keyed (id-absent id (nets_in es) fresh);
        owners = subst (FindOwners links users apps) (sym nets) owners;
      }
    where
      map-push : (ns : List Network) (m : Network) → map (λ (m : Network). m.id) (ns ++ m ∷ []) ≡ map (λ (m : Network). m.id) ns ++ m.id ∷ []
      map-push [] m = refl
      map-push (x ∷ xs) m = ap (λ is. x.id ∷ is) (map-push xs m)

  pub indexed-drop : (es : List Entry) (links links' : List (ℕ × ℕ)) (users users' apps apps' : List OwnedRange) → AreIndexed es links users apps → FindOwners links' users' apps' (drop_net id (nets_in es))
      → AreIndexed (shift_remove_entry (nat_eq id) es) links' users' apps'
  indexed-drop es links links' users users' apps apps' old owners =
      let nets = drop-nets es old.at_ids in
      record {
        at_ids = drop-ids es old.at_ids;
        keyed = ap (λ ns. are_distinct (map (λ (m : Network). m.id) ns)) nets ∙ keyed-drop id (nets_in es) old.keyed;
        owners = subst (FindOwners links' users' apps') (sym nets) owners;
      }

pub at-place : (es : List Entry) (place : ℕ) → slice_get (nets_in es) place ≡ option_map (λ (e : Entry). net_of e.1) (slice_get es place)
at-place [] place = refl
at-place (e ∷ es) zero = refl
at-place (e ∷ es) (suc place) = at-place es place

abbrev pub IsCopy : Entry → Entry → Type 0
IsCopy e f = (f.0 ≡ e.0) × (net_of f.1 ≡ net_of e.1)

-- copies of networks, at the same ids
pub copied-nets : (es fs : List Entry) → AllZip IsCopy es fs → nets_in fs ≡ nets_in es
copied-nets [] [] copied = refl
copied-nets [] (f ∷ fs) copied = absurd copied
copied-nets (e ∷ es) [] copied = absurd copied
copied-nets (e ∷ es) (f ∷ fs) copied = λ i. copied.0.1 i ∷ copied-nets es fs copied.1 i

copied-ids : (es fs : List Entry) → AllZip IsCopy es fs → StandAtIds es → StandAtIds fs
copied-ids [] [] copied at = tt
copied-ids [] (f ∷ fs) copied at = absurd copied
copied-ids (e ∷ es) [] copied at = absurd copied
copied-ids (e ∷ es) (f ∷ fs) copied at = (copied.0.0 ∙ at.0 ∙ sym (ap (λ (n : Network). n.id) copied.0.1), copied-ids es fs copied.1 at.1)

pub indexed-copied : (es fs : List Entry) (links links' : List (ℕ × ℕ)) (users users' apps apps' : List OwnedRange) → AreIndexed es links users apps → AllZip IsCopy es fs → links' ≡ links → users' ≡ users → apps' ≡ apps
    → AreIndexed fs links' users' apps'
indexed-copied es fs links links' users users' apps apps' old copied same_links same_users same_apps =
    let nets = copied-nets es fs copied in
    record {
      at_ids = copied-ids es fs copied old.at_ids;
      keyed = ap (λ ns. are_distinct (map (λ (m : Network). m.id) ns)) nets ∙ old.keyed;
      owners = subst (λ ns. FindOwners links' users' apps' ns) (sym nets)
          (subst (λ ls. FindOwners ls users' apps' (nets_in es)) (sym same_links)
          (subst (λ owned. FindOwners links owned apps' (nets_in es)) (sym same_users)
          (subst (λ owned. FindOwners links users owned (nets_in es)) (sym same_apps) old.owners)));
    }
