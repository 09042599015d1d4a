-- The networks that hold a user, by the ranges in their order.
use Rattle.std.proofs.Common.{Bor, ◌≡◌, ℕ, ◌==◌, ◌<◌, ◌&&◌, ◌||◌, Bool, true, false, not, List, [], ◌∷◌, find, map, nat_le, Option, Some, None, if◌then◌else◌, refl, sym, ap, subst, ◌∙◌, arith, inl, inr}
use Rattle.std.specs.List.{list_any, list_all, AllByRecursion}
use Rattle.std.specs.Option.{option_map, IfSome, IfNone}
use Rattle.std.proofs.lemmas.Bool.{cases_Bool, and_parts, and_from, or_parts, not-true, both_ways, eq-eqb, false≢true}
use Rattle.std.proofs.lemmas.Bool.Decides.{nat_tests}
use Rattle.std.proofs.lemmas.Option.{none-some, same_Some}
use Rattle.list_lemmas.proofs.Alls.{all-weaker}
use Rattle.list_lemmas.proofs.Anys.{none-weaker}
use Rattle.list_lemmas.proofs.Found.{find-none-any}
use Rattle.networks.specs.Kinds.{class_of, ranges_of, is_physical, is_virtual}
use Rattle.networks.specs.Lists.{find_id, are_distinct, AreKeyed}
use Rattle.networks.specs.declared.kind.Kind.{Kind}
use Rattle.networks.specs.declared.kind.Kind.TheVariants as kind
use Rattle.networks.specs.declared.network.Network.{Network}
use Rattle.uid_ranges.specs.Ranks.{last_rank}
use Rattle.uid_ranges.specs.declared.ranked.Ranked.{Ranked}
use Rattle.network_store.specs.Holders.{holds_rank, is_vpn, user_at, holder_at, preferred_at, IsVpnOf}
use Rattle.network_store.specs.Owners.{LeadsToOwner}
use Rattle.network_store.specs.RankIndex.{ends_before, holds_at, same_ranked, comes_before, rise, are_low, owner_of, owner_at, has_ranked}
use Rattle.network_store.specs.Store.{has_range}
use Rattle.network_store.specs.Stored.{net_of}
use Rattle.network_store.specs.declared.network.StoredNetwork.{StoredNetwork}
use Rattle.network_store.specs.declared.rank_index.OwnedRange.{OwnedRange}
use Rattle.network_store.proofs.Owned.{same_ranked-Decides, any-owned}
use Rattle.network_store.proofs.Owners.{IsOwned, owner-found, found-by-id}

-- no rank past the last one holds a UID
pub none-past : (rank uid : ℕ) (xs : List OwnedRange) → last_rank < rank → are_low xs ≡ true → owner_at rank uid xs ≡ None
none-past rank uid xs past low = ap (option_map (λ (e : OwnedRange). e.owner)) (find-none-any (λ e. holds_at rank uid e.range) xs (none xs low))
  where
    one : (r : Ranked) → nat_le r.rank 99 ≡ true → holds_at rank uid r ≡ false
    one r h = grind (arith, nat_tests)

    none : (ys : List OwnedRange) → are_low ys ≡ true → list_any (λ e. holds_at rank uid e.range) ys ≡ false
    none [] h = refl
    none (y ∷ ys) h = let parts = and_parts (nat_le y.range.rank 99) (are_low ys) h in rw (one y.range parts.0) (none ys parts.1)

-- two ranges of one rank that hold one UID don't come one after the other
never-both : (a b : Ranked) (rank uid : ℕ) → holds_at rank uid a ≡ true → holds_at rank uid b ≡ true → ends_before b.rank b.users.first.number a ≡ true → ⊥
never-both a b rank uid h k l = grind (arith, nat_tests)

after-owned : (x : OwnedRange) (r : Ranked) (i : ℕ) (xs : List OwnedRange) → list_all (comes_before x) xs ≡ true → owner_of xs r ≡ Some i → ends_before r.rank r.users.first.number x.range ≡ true
after-owned x r i [] all is = absurd (none-some i is)
after-owned x r i (y ∷ ys) all is =
    let parts = and_parts (comes_before x y) (list_all (comes_before x) ys) all in
    elim (cases_Bool (same_ranked y.range r)) as (λ _. ends_before r.rank r.users.first.number x.range ≡ true) [
      | inl s ↦ subst (λ (q : Ranked). ends_before q.rank q.users.first.number x.range ≡ true) ((same_ranked-Decides y.range r).0 s) parts.0
      | inr s ↦ after-owned x r i ys parts.1 (rw s at is)
    ]

-- the range that holds the UID is found
held-owner : (rank uid i : ℕ) (r : Ranked) (xs : List OwnedRange) → rise xs ≡ true → owner_of xs r ≡ Some i → holds_at rank uid r ≡ true → owner_at rank uid xs ≡ Some i
held-owner rank uid i r [] rises is holds = absurd (none-some i is)
held-owner rank uid i r (x ∷ xs) rises is holds =
    let parts = and_parts (list_all (comes_before x) xs) (rise xs) rises in
    elim (cases_Bool (same_ranked x.range r)) as (λ _. owner_at rank uid (x ∷ xs) ≡ Some i) [
      | inl s ↦
          let here : holds_at rank uid x.range ≡ true = ap (holds_at rank uid) ((same_ranked-Decides x.range r).0 s) ∙ holds in
          let mine : Some x.owner ≡ Some i = rw s at is in
          rw here mine
      | inr s ↦
          let later : owner_of xs r ≡ Some i = rw s at is in
          elim (cases_Bool (holds_at rank uid x.range)) as (λ _. owner_at rank uid (x ∷ xs) ≡ Some i) [
            | inl h ↦ absurd (never-both x.range r rank uid h holds (after-owned x r i xs parts.0 later))
            | inr h ↦ rw h (held-owner rank uid i r xs parts.1 later holds)
          ]
    ]

-- a network of the class has a range of the rank that holds the UID
abbrev pub has_user : ℕ → Network → ℕ × ℕ → Bool
has_user class n k = (class_of n.kind == class) && holds_rank k.0 k.1 (ranges_of n.kind)

pub record IsHeld (rank uid : ℕ) (list : List Ranked) : Type 0 where
  pub range : Ranked
  pub holds : holds_at rank uid range ≡ true
  pub there : has_ranked list range ≡ true

some-held : (rank uid : ℕ) (list : List Ranked) → holds_rank rank uid list ≡ true → IsHeld rank uid list
some-held rank uid [] any = absurd (false≢true any)
some-held rank uid (x ∷ xs) any = elim (cases_Bool (holds_at rank uid x)) as (λ _. IsHeld rank uid (x ∷ xs)) [
  | inl h ↦ record { range = x; holds = h; there = rw ((same_ranked-Decides x x).1 refl) refl }
  | inr h ↦ later (some-held rank uid xs (rw h at any))
]
  where
    or-second : (a b : Bool) → b ≡ true → (a || b) ≡ true
    or-second true b t = refl
    or-second false b t = t

    later : IsHeld rank uid xs → IsHeld rank uid (x ∷ xs)
    later rest = record { range = rest.range; holds = rest.holds; there = or-second (same_ranked x rest.range) (has_ranked xs rest.range) rest.there }

lacks-held : (rank uid : ℕ) (r : Ranked) (list : List Ranked) → holds_at rank uid r ≡ true → holds_rank rank uid list ≡ false → has_ranked list r ≡ false
lacks-held rank uid r list holds none = none-weaker (λ x. same_ranked x r) (holds_at rank uid) less list none
  where
    less : (x : Ranked) → holds_at rank uid x ≡ false → same_ranked x r ≡ false
    less x free = elim (cases_Bool (same_ranked x r)) as (λ _. same_ranked x r ≡ false) [
      | inl s ↦ absurd (both_ways (holds_at rank uid x) free (ap (holds_at rank uid) ((same_ranked-Decides x r).0 s) ∙ holds))
      | inr s ↦ s
    ]

-- where each range leads to its network, each user does
pub users-lead : (class : ℕ) (index : List OwnedRange) (ns : List Network) → rise index ≡ true → LeadsToOwner (has_range class) (owner_of index) ns
    → LeadsToOwner (has_user class) (λ k. owner_at k.0 k.1 index) ns
users-lead class index ns rises leads =
    record {
      owned = all-weaker (IsOwned (has_range class) (owner_of index)) (IsOwned (has_user class) (λ k. owner_at k.0 k.1 index)) owned ns leads.owned;
      unowned = λ k none. elim (cases_Bool (list_any (λ e. holds_at k.0 k.1 e.range) index)) as (λ _. owner_at k.0 k.1 index ≡ None) [
        | inl any ↦
            let it = any-owned (holds_at k.0 k.1) index any in
            absurd (none-some it.owner (sym (leads.unowned it.range (none-weaker (λ m. has_range class m it.range) (λ m. has_user class m k) (less k it.range it.passes) ns none)) ∙ it.owned))
        | inr free ↦ ap (option_map (λ (e : OwnedRange). e.owner)) (find-none-any (λ e. holds_at k.0 k.1 e.range) index free)
      ];
    }
  where
    owned : (n : Network) → IsOwned (has_range class) (owner_of index) n → IsOwned (has_user class) (λ k. owner_at k.0 k.1 index) n
    owned n h k e =
        let parts = and_parts (class_of n.kind == class) (holds_rank k.0 k.1 (ranges_of n.kind)) e in
        let it = some-held k.0 k.1 (ranges_of n.kind) parts.1 in
        held-owner k.0 k.1 n.id it.range index rises (h it.range (and_from (class_of n.kind == class) (has_ranked (ranges_of n.kind) it.range) parts.0 it.there)) it.holds

    less : (k : ℕ × ℕ) (r : Ranked) → holds_at k.0 k.1 r ≡ true → (m : Network) → has_user class m k ≡ false → has_range class m r ≡ false
    less k r holds m free = elim (cases_Bool (class_of m.kind == class)) as (λ _. has_range class m r ≡ false) [
      | inl e ↦
          let apart : holds_rank k.0 k.1 (ranges_of m.kind) ≡ false = rw e at free in
          rw (e, lacks-held k.0 k.1 r (ranges_of m.kind) holds apart) refl
      | inr e ↦ rw e refl
    ]

find-same : (p q : Network → Bool) → ((n : Network) → p n ≡ q n) → (ns : List Network) → find p ns ≡ find q ns
find-same p q same [] = refl
find-same p q same (n ∷ ns) = elim (cases_Bool (q n)) as (λ _. find p (n ∷ ns) ≡ find q (n ∷ ns)) [
  | inl e ↦ rw (same n, e) refl
  | inr e ↦ rw (same n, e) (find-same p q same ns)
]

class-virtual : (k : Kind) → (class_of k == 2) ≡ is_virtual k
class-virtual kind.Local = refl
class-virtual (kind.Physical needed apps) = refl
class-virtual (kind.Virtual secure users) = refl

class-physical : (k : Kind) → (class_of k == 1) ≡ is_physical k
class-physical kind.Local = refl
class-physical (kind.Physical needed apps) = refl
class-physical (kind.Virtual secure users) = refl

pub user_at-is : (rank uid : ℕ) (ns : List Network) → find (λ n. has_user 2 n (rank, uid)) ns ≡ user_at rank uid ns
user_at-is rank uid ns = find-same (λ n. has_user 2 n (rank, uid)) (λ n. is_virtual n.kind && holds_rank rank uid (ranges_of n.kind)) (λ n. ap (λ b. b && holds_rank rank uid (ranges_of n.kind)) (class-virtual n.kind)) ns

pub preferred_at-is : (rank uid : ℕ) (ns : List Network) → find (λ n. has_user 1 n (rank, uid)) ns ≡ preferred_at rank uid ns
preferred_at-is rank uid ns = find-same (λ n. has_user 1 n (rank, uid)) (λ n. is_physical n.kind && holds_rank rank uid (ranges_of n.kind)) (λ n. ap (λ b. b && holds_rank rank uid (ranges_of n.kind)) (class-physical n.kind)) ns

-- what the order answers is the id of the network that a search finds
pub owner-at : (class rank uid : ℕ) (index : List OwnedRange) (ns : List Network) → rise index ≡ true → LeadsToOwner (has_range class) (owner_of index) ns
    → option_map (λ n. n.id) (find (λ n. has_user class n (rank, uid)) ns) ≡ owner_at rank uid index
owner-at class rank uid index ns rises leads = owner-found (has_user class) (λ k. owner_at k.0 k.1 index) ns (users-lead class index ns rises leads) (rank, uid)

pub found-at : (class rank uid id : ℕ) (index : List OwnedRange) (ns : List Network) → rise index ≡ true → LeadsToOwner (has_range class) (owner_of index) ns → AreKeyed ns → owner_at rank uid index ≡ Some id
    → find_id id ns ≡ find (λ n. has_user class n (rank, uid)) ns
found-at class rank uid id index ns rises leads keyed is = found-by-id (λ n. has_user class n (rank, uid)) id ns keyed (owner-at class rank uid index ns rises leads ∙ is)

pub none-at : (class rank uid : ℕ) (index : List OwnedRange) (ns : List Network) → rise index ≡ true → LeadsToOwner (has_range class) (owner_of index) ns → owner_at rank uid index ≡ None
    → find (λ n. has_user class n (rank, uid)) ns ≡ None
none-at class rank uid index ns rises leads is = none-id (find (λ n. has_user class n (rank, uid)) ns) (owner-at class rank uid index ns rises leads ∙ is)
  where
    none-id : (o : Option Network) → option_map (λ (n : Network). n.id) o ≡ None → o ≡ None
    none-id None h = refl
    none-id (Some n) h = absurd (none-some n.id (sym h))

-- the holder of a kind is the one holder at the rank, where it is of the kind

vpn-virtual : (secure : Bool) (k : Kind) (b : Bool) → (is_vpn secure k && (is_virtual k && b)) ≡ (is_vpn secure k && b)
vpn-virtual true kind.Local b = refl
vpn-virtual true (kind.Physical needed apps) b = refl
vpn-virtual true (kind.Virtual secure users) b = refl
vpn-virtual false kind.Local b = refl
vpn-virtual false (kind.Physical needed apps) b = refl
vpn-virtual false (kind.Virtual secure users) b = refl

abbrev pub kept_if : (Network → Bool) → Option Network → Option Network
kept_if q None = None
kept_if q (Some n) = if q n then Some n else None

module _ (p q : Network → Bool) where
  -- all that pass have one id
  abbrev pub IsAtOne : Option ℕ → List Network → Type 0
  IsAtOne o ns = AllByRecursion (λ (n : Network). p n ≡ true → o ≡ Some n.id) ns

  none-else : (id : ℕ) (ns : List Network) → list_any (λ m. m == id) (map (λ n. n.id) ns) ≡ false → IsAtOne (Some id) ns → find (λ n. q n && p n) ns ≡ None
  none-else id [] absent one = refl
  none-else id (n ∷ ns) absent one =
      let parts = or_parts (n.id == id) (list_any (λ m. m == id) (map (λ n. n.id) ns)) absent in
      elim (cases_Bool (p n)) as (λ _. find (λ n. q n && p n) (n ∷ ns) ≡ None) [
        | inl e ↦ absurd (both_ways (n.id == id) parts.0 (eq-eqb n.id id (sym (same_Some id n.id (one.0 e)))))
        | inr e ↦ rw (e, and-none (q n)) (none-else id ns parts.1 one.1)
      ]
    where
      and-none : (b : Bool) → (b && false) ≡ false
      and-none true = refl
      and-none false = refl

  pub find-both : (o : Option ℕ) (ns : List Network) → AreKeyed ns → IsAtOne o ns → find (λ n. q n && p n) ns ≡ kept_if q (find p ns)
  find-both o [] keyed one = refl
  find-both o (n ∷ ns) keyed one =
      let parts = and_parts (not (list_any (λ m. m == n.id) (map (λ n. n.id) ns))) (are_distinct (map (λ n. n.id) ns)) keyed in
      let Goal : Type 0 = find (λ n. q n && p n) (n ∷ ns) ≡ kept_if q (find p (n ∷ ns)) in
      elim (cases_Bool (p n)) as (λ _. Goal) [
        | inl e ↦ elim (cases_Bool (q n)) as (λ _. Goal) [
          | inl t ↦ rw (e, t) refl
          | inr t ↦ rw (e, t) (none-else n.id ns (not-true _ parts.0) (subst (λ o. IsAtOne o ns) (one.0 e) one.1))
        ]
        | inr e ↦ rw (e, and-none (q n)) (find-both o ns parts.1 one.1)
      ]
    where
      and-none : (b : Bool) → (b && false) ≡ false
      and-none true = refl
      and-none false = refl

pub holder_at-is : (secure : Bool) (rank uid : ℕ) (index : List OwnedRange) (ns : List Network) → rise index ≡ true → LeadsToOwner (has_range 2) (owner_of index) ns → AreKeyed ns
    → holder_at secure rank uid ns ≡ kept_if (λ n. is_vpn secure n.kind) (user_at rank uid ns)
holder_at-is secure rank uid index ns rises leads keyed =
    let p = λ (n : Network). is_virtual n.kind && holds_rank rank uid (ranges_of n.kind) in
    let q = λ (n : Network). is_vpn secure n.kind in
    let lead = users-lead 2 index ns rises leads in
    find-same (λ n. q n && holds_rank rank uid (ranges_of n.kind)) (λ n. q n && p n) (λ n. sym (vpn-virtual secure n.kind (holds_rank rank uid (ranges_of n.kind)))) ns
    ∙ find-both p q (owner_at rank uid index) ns keyed
    (all-weaker (IsOwned (has_user 2) (λ k. owner_at k.0 k.1 index)) (λ n. p n ≡ true → owner_at rank uid index ≡ Some n.id) (λ n h e. h (rank, uid) (ap (λ b. b && holds_rank rank uid (ranges_of n.kind)) (class-virtual n.kind) ∙ e)) ns lead.owned)

module _ (uid rank : ℕ) (ns : List Network) (o : Option (Bor StoredNetwork)) (is : option_map (λ (n : Bor StoredNetwork). net_of n.now) o ≡ user_at rank uid ns) where
  pub some-vpn : ((lower : ℕ) → lower < rank → user_at lower uid ns ≡ None) → IfSome o (λ n. IsVpnOf uid ns (net_of n.now))
  some-vpn lowest = by o is
    where
      by : (o : Option (Bor StoredNetwork)) → option_map (λ (n : Bor StoredNetwork). net_of n.now) o ≡ user_at rank uid ns → IfSome o (λ n. IsVpnOf uid ns (net_of n.now))
      by None is = tt
      by (Some n) is = record { rank = rank; at = sym is; lowest = lowest }

  pub not-none : (id : ℕ) → option_map (λ (n : Network). n.id) (user_at rank uid ns) ≡ Some id → (P : Type 0) → IfNone o P
  not-none id there P = by o is
    where
      by : (o : Option (Bor StoredNetwork)) → option_map (λ (n : Bor StoredNetwork). net_of n.now) o ≡ user_at rank uid ns → IfNone o P
      by None is = absurd (none-some id (ap (option_map (λ (n : Network). n.id)) is ∙ there))
      by (Some n) is = tt
