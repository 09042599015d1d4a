-- The ranges of networks, and to which of them they belong, as one network comes, goes or is changed.
use Rattle.std.proofs.Common.{◌≡◌, ℕ, ◌==◌, ◌||◌, ◌&&◌, Bool, true, false, cond, not, List, [], ◌∷◌, ◌++◌, Some, None, refl, sym, ap, subst, ◌∙◌, inl, inr}
use Rattle.std.specs.List.{list_any, AllByRecursion}
use Rattle.std.proofs.lemmas.Bool.{cases_Bool, and_parts, and_from, both_ways, eqb-true, eq-eqb, false≢true, or_from}
use Rattle.std.proofs.lemmas.List.Folds.{list_any-append}
use Rattle.std.proofs.lemmas.Option.{none-some, same_Some}
use Rattle.list_lemmas.proofs.Anys.{none-weaker}
use Rattle.fwmark.specs.declared.permission.Permission.{Permission}
use Rattle.networks.specs.Kinds.{class_of, ranges_of}
use Rattle.networks.specs.Lists.{find_id, drop_net, AreKeyed}
use Rattle.networks.specs.Network.{has_link, local_network}
use Rattle.networks.specs.declared.kind.Kind.{Kind}
use Rattle.networks.specs.declared.kind.Kind.TheVariants as kind
use Rattle.networks.specs.declared.network.Network.{Network}
use Rattle.uid_ranges.specs.Range.{meets}
use Rattle.uid_ranges.specs.Ranges.{has, meets_any}
use Rattle.uid_ranges.specs.Ranks.{all_at, ranked_without, users_meet_at}
use Rattle.uid_ranges.specs.declared.range.UidRange.{UidRange}
use Rattle.uid_ranges.specs.declared.ranked.Ranked.{Ranked}
use Rattle.network_store.specs.Kin.{class_meets, kin_meet}
use Rattle.network_store.specs.Owners.{LeadsToOwner}
use Rattle.network_store.specs.RankIndex.{any_meets, has_among, has_ranked, owner_of, same_ranked}
use Rattle.network_store.specs.Store.{with_net, has_range, FindOwners, AreIndexed}
use Rattle.network_store.specs.Stored.{net_of, kind_with, kind_without, kind_needing, with_permission, with_ranges, without_ranges}
use Rattle.network_store.specs.declared.network.StoredNetwork.{StoredNetwork}
use Rattle.network_store.specs.declared.rank_index.OwnedRange.{OwnedRange}
use Rattle.network_store.proofs.Owned.{same_ranked-Decides, at_rank, clash-self, any-owned}
use Rattle.list_lemmas.proofs.Numbers.{eqb-refl}
use Rattle.network_store.proofs.Owners.{IsOwned, owners-same, owners-push, owners-more, owners-less, owners-drop, owned-at, id-found, mine-all}

-- the network keeps its interfaces and ranges
pub owners-kept : (id : ℕ) (change : Network → Network) → ((n : Network) → (change n).id ≡ n.id) → ((n : Network) (link : ℕ) → has_link (change n) link ≡ has_link n link)
    → ((class : ℕ) (n : Network) (r : Ranked) → has_range class (change n) r ≡ has_range class n r)
    → (by_link : List (ℕ × ℕ)) (users apps : List OwnedRange) (ns : List Network) → FindOwners by_link users apps ns → FindOwners by_link users apps (with_net id change ns)
owners-kept id change same_id same_links same_ranges by_link users apps ns owners =
    record {
      of_link = owners-same has_link id change same_id same_links _ ns owners.of_link;
      of_users = owners-same (has_range 2) id change same_id (same_ranges 2) _ ns owners.of_users;
      of_apps = owners-same (has_range 1) id change same_id (same_ranges 1) _ ns owners.of_apps;
    }

needing : (permission : Permission) (class : ℕ) (k : Kind) (r : Ranked) → ((class_of (kind_needing permission k) == class) && has_ranked (ranges_of (kind_needing permission k)) r) ≡ ((class_of k == class) && has_ranked (ranges_of k) r)
needing permission class kind.Local r = refl
needing permission class (kind.Physical needed apps) r = refl
needing permission class (kind.Virtual secure users) r = refl

pub has_range-needing : (permission : Permission) (class : ℕ) (n : Network) (r : Ranked) → has_range class (with_permission permission n) r ≡ has_range class n r
has_range-needing permission class n r = needing permission class n.kind r

and-none : (b : Bool) → (b && false) ≡ false
and-none true = refl
and-none false = refl

-- a network without interfaces and ranges comes
pub owners-come : (by_link : List (ℕ × ℕ)) (users apps : List OwnedRange) (ns : List Network) (n : Network) → n.interfaces ≡ [] → ranges_of n.kind ≡ [] → FindOwners by_link users apps ns → FindOwners by_link users apps (ns ++ n ∷ [])
owners-come by_link users apps ns n no_links no_ranges owners =
    record {
      of_link = owners-push has_link _ ns n owners.of_link (λ link. ap (list_any (λ i. i == link)) no_links);
      of_users = owners-push (has_range 2) _ ns n owners.of_users (λ r. ap (λ l. (class_of n.kind == 2) && has_ranked l r) no_ranges ∙ and-none (class_of n.kind == 2));
      of_apps = owners-push (has_range 1) _ ns n owners.of_apps (λ r. ap (λ l. (class_of n.kind == 1) && has_ranked l r) no_ranges ∙ and-none (class_of n.kind == 1));
    }

-- a network goes with its ranges
pub owners-gone : (class id : ℕ) (n : Network) (ns : List Network) (index index' : List OwnedRange) → find_id id ns ≡ Some n → ((r : Ranked) → owner_of index' r ≡ cond (has_range class n r) None (owner_of index r))
    → AreKeyed ns → LeadsToOwner (has_range class) (owner_of index) ns → LeadsToOwner (has_range class) (owner_of index') (drop_net id ns)
owners-gone class id n ns index index' found taken keyed leads =
    owners-drop (has_range class) id (has_range class n) (owner_of index) (owner_of index') taken (mine-all (has_range class) (owner_of index) id ns n leads found (has_range class n) (λ r. refl)) n ns found (λ r. refl) keyed leads

fewer : (c h g : Bool) → (c && (h && not g)) ≡ ((c && h) && not (c && (g && h)))
fewer true true true = refl
fewer true true false = refl
fewer true false true = refl
fewer true false false = refl
fewer false h g = refl

and-or : (a b c : Bool) → (a && (b || c)) ≡ ((a && b) || (a && c))
and-or true b c = refl
and-or false b c = refl

-- ranges come to a network

with-more : (class rank : ℕ) (more : List UidRange) (k : Kind) (r : Ranked) → (class == 0) ≡ false
    → ((class_of (kind_with rank more k) == class) && has_ranked (ranges_of (kind_with rank more k)) r) ≡ (((class_of k == class) && has_ranked (ranges_of k) r) || ((class_of k == class) && has_ranked (all_at rank more) r))
with-more class rank more kind.Local r some = by (0 == class) (zero-other class some)
  where
    zero-other : (c : ℕ) → (c == 0) ≡ false → (0 == c) ≡ false
    zero-other c h = elim (cases_Bool (0 == c)) as (λ _. (0 == c) ≡ false) [ inl t ↦ absurd (both_ways (c == 0) h (eq-eqb c 0 (sym (eqb-true 0 c t)))) | inr f ↦ f ]

    by : (b : Bool) → b ≡ false → (b && false) ≡ ((b && false) || (b && has_ranked (all_at rank more) r))
    by b is = rw is refl
with-more class rank more (kind.Physical needed apps) r some = ap (λ b. (1 == class) && b) (list_any-append (λ one. same_ranked one r) apps (all_at rank more)) ∙ and-or (1 == class) (has_ranked apps r) (has_ranked (all_at rank more) r)
with-more class rank more (kind.Virtual secure users) r some = ap (λ b. (2 == class) && b) (list_any-append (λ one. same_ranked one r) users (all_at rank more)) ∙ and-or (2 == class) (has_ranked users r) (has_ranked (all_at rank more) r)

abbrev pub crowded : ℕ → List UidRange → Ranked → Bool
crowded rank more r = (r.rank == rank) && meets_any r.users more

lacks : (rank : ℕ) (more : List UidRange) (r : Ranked) (list : List Ranked) → crowded rank more r ≡ true → users_meet_at rank list more ≡ false → has_ranked list r ≡ false
lacks rank more r list crowd none = none-weaker (λ x. same_ranked x r) (crowded rank more) less list none
  where
    less : (x : Ranked) → crowded rank more x ≡ false → same_ranked x r ≡ false
    less x free = elim (cases_Bool (same_ranked x r)) as (λ _. same_ranked x r ≡ false) [
      | inl s ↦ absurd (both_ways (crowded rank more x) free (ap (crowded rank more) ((same_ranked-Decides x r).0 s) ∙ crowd))
      | inr s ↦ s
    ]

-- no network of the class has a range that meets one of these
kin-some : (class rank : ℕ) (more : List UidRange) (ns : List Network) (r : Ranked) → crowded rank more r ≡ true → class_meets class rank more ns ≡ false → list_any (λ m. has_range class m r) ns ≡ false
kin-some class rank more ns r crowd none = none-weaker (λ m. has_range class m r) (λ m. (class_of m.kind == class) && users_meet_at rank (ranges_of m.kind) more) less ns none
  where
    less : (m : Network) → ((class_of m.kind == class) && users_meet_at rank (ranges_of m.kind) more) ≡ false → has_range class m r ≡ false
    less m free = elim (cases_Bool (class_of m.kind == class)) as (λ _. has_range class m r ≡ false) [
      | inl e ↦
          let apart : users_meet_at rank (ranges_of m.kind) more ≡ false = rw e at free in
          rw (e, lacks rank more r (ranges_of m.kind) crowd apart) refl
      | inr e ↦ rw e refl
    ]

kin-lacks : (class rank : ℕ) (more : List UidRange) (n : Network) (ns : List Network) (r : Ranked) → class_of n.kind ≡ class → crowded rank more r ≡ true → kin_meet rank more n ns ≡ false
    → list_any (λ m. has_range class m r) ns ≡ false
kin-lacks class rank more n ns r same crowd none = kin-some class rank more ns r crowd (subst (λ c. class_meets c rank more ns ≡ false) same none)

in-all : (rank : ℕ) (more : List UidRange) (r : Ranked) → has_ranked (all_at rank more) r ≡ true → crowded rank more r ≡ true
in-all rank [] r there = absurd (false≢true there)
in-all rank (u ∷ us) r there = elim (cases_Bool (same_ranked (at_rank rank u) r)) as (λ _. crowded rank (u ∷ us) r ≡ true) [
  | inl s ↦
      let is : at_rank rank u ≡ r = (same_ranked-Decides (at_rank rank u) r).0 s in
      subst (λ x. crowded rank (u ∷ us) x ≡ true) is (and_from (rank == rank) (meets_any u (u ∷ us)) (eqb-refl rank) (or-first (meets u u) (meets_any u us) (and_parts (rank == rank) (meets u u) (clash-self (at_rank rank u))).1))
  | inr s ↦
      let rest = and_parts (r.rank == rank) (meets_any r.users us) (in-all rank us r (rw s at there)) in
      and_from (r.rank == rank) (meets_any r.users (u ∷ us)) rest.0 (or-second (meets r.users u) (meets_any r.users us) rest.1)
]
  where
    or-first : (a b : Bool) → a ≡ true → (a || b) ≡ true
    or-first a b h = rw h refl

    or-second : (a b : Bool) → b ≡ true → (a || b) ≡ true
    or-second true b h = refl
    or-second false b h = h

-- ranges come to a network of the class, or of another
pub enter-more : (class id rank : ℕ) (more : List UidRange) (n : Network) (ns : List Network) (index index' : List OwnedRange) → (class == 0) ≡ false → find_id id ns ≡ Some n → kin_meet rank more n ns ≡ false
    → ((r : Ranked) → owner_of index' r ≡ cond ((class_of n.kind == class) && has_ranked (all_at rank more) r) (Some id) (owner_of index r))
    → LeadsToOwner (has_range class) (owner_of index) ns → LeadsToOwner (has_range class) (owner_of index') (with_net id (with_ranges rank more) ns)
enter-more class id rank more n ns index index' some found none put leads =
    owners-more (has_range class) id (with_ranges rank more) (λ m. refl) n (λ r. (class_of n.kind == class) && has_ranked (all_at rank more) r) (λ r. with-more class rank more n.kind r some) (owner_of index) (owner_of index') put ns found
    (λ r e.
    let parts = and_parts (class_of n.kind == class) (has_ranked (all_at rank more) r) e in
    kin-lacks class rank more n ns r (eqb-true (class_of n.kind) class parts.0) (in-all rank more r parts.1) none)
    leads

-- and meet none of the ranges that are there
pub index-apart : (class rank : ℕ) (more : List UidRange) (n : Network) (ns : List Network) (index : List OwnedRange) → class_of n.kind ≡ class → kin_meet rank more n ns ≡ false
    → LeadsToOwner (has_range class) (owner_of index) ns → any_meets rank more index ≡ false
index-apart class rank more n ns index same none leads = elim (cases_Bool (any_meets rank more index)) as (λ _. any_meets rank more index ≡ false) [
  | inl any ↦
      let it = any-owned (crowded rank more) index any in
      absurd (none-some it.owner (sym (leads.unowned it.range (kin-lacks class rank more n ns it.range same it.passes none)) ∙ it.owned))
  | inr free ↦ free
]

-- ranges go

among-is : (gone : List UidRange) (list : List Ranked) (r : Ranked) → has_among gone list r ≡ (has gone r.users && has_ranked list r)
among-is gone [] r = sym (and-none (has gone r.users))
among-is gone (one ∷ list) r = elim (cases_Bool (same_ranked one r)) as (λ _. has_among gone (one ∷ list) r ≡ (has gone r.users && has_ranked (one ∷ list) r)) [
  | inl s ↦
      let same_users : has gone one.users ≡ has gone r.users = ap (λ (x : Ranked). has gone x.users) ((same_ranked-Decides one r).0 s) in
      rw s (ap (λ b. (b && true) || has_among gone list r) same_users ∙ ap (λ b. (has gone r.users && true) || b) (among-is gone list r) ∙ absorbed (has gone r.users) (has_ranked list r))
  | inr s ↦ rw s (ap (λ b. b || has_among gone list r) (and-none (has gone one.users)) ∙ among-is gone list r)
]
  where
    absorbed : (a b : Bool) → ((a && true) || (a && b)) ≡ (a && true)
    absorbed true b = refl
    absorbed false b = refl

without-is : (gone : List UidRange) (list : List Ranked) (r : Ranked) → has_ranked (ranked_without list gone) r ≡ (has_ranked list r && not (has gone r.users))
without-is gone [] r = refl
without-is gone (one ∷ list) r =
    let rest = without-is gone list r in
    let Goal : Type 0 = has_ranked (ranked_without (one ∷ list) gone) r ≡ (has_ranked (one ∷ list) r && not (has gone r.users)) in
    elim (cases_Bool (has gone one.users)) as (λ _. Goal) [
      | inl g ↦ elim (cases_Bool (same_ranked one r)) as (λ _. Goal) [
        | inl s ↦
            let too : has gone r.users ≡ true = ap (λ (x : Ranked). has gone x.users) (sym ((same_ranked-Decides one r).0 s)) ∙ g in
            rw (g, s) (rest ∙ ap (λ b. has_ranked list r && not b) too ∙ and-none (has_ranked list r) ∙ ap not (sym too))
        | inr s ↦ rw (g, s) rest
      ]
      | inr g ↦ elim (cases_Bool (same_ranked one r)) as (λ _. Goal) [
        | inl s ↦
            let too : has gone r.users ≡ false = ap (λ (x : Ranked). has gone x.users) (sym ((same_ranked-Decides one r).0 s)) ∙ g in
            rw (g, s) (ap not (sym too))
        | inr s ↦ rw (g, s) rest
      ]
    ]

with-less : (class : ℕ) (gone : List UidRange) (k : Kind) (r : Ranked)
    → ((class_of (kind_without gone k) == class) && has_ranked (ranges_of (kind_without gone k)) r) ≡ (((class_of k == class) && has_ranked (ranges_of k) r) && not ((class_of k == class) && has_among gone (ranges_of k) r))
with-less class gone kind.Local r = by (0 == class)
  where
    by : (b : Bool) → (b && false) ≡ ((b && false) && not (b && false))
    by true = refl
    by false = refl
with-less class gone (kind.Physical needed apps) r =
    ap (λ b. (1 == class) && b) (without-is gone apps r) ∙ fewer (1 == class) (has_ranked apps r) (has gone r.users) ∙ ap (λ b. ((1 == class) && has_ranked apps r) && not ((1 == class) && b)) (sym (among-is gone apps r))
with-less class gone (kind.Virtual secure users) r =
    ap (λ b. (2 == class) && b) (without-is gone users r) ∙ fewer (2 == class) (has_ranked users r) (has gone r.users) ∙ ap (λ b. ((2 == class) && has_ranked users r) && not ((2 == class) && b)) (sym (among-is gone users r))

pub leave-less : (class id : ℕ) (gone : List UidRange) (n : Network) (ns : List Network) (index index' : List OwnedRange) → find_id id ns ≡ Some n
    → ((r : Ranked) → owner_of index' r ≡ cond ((class_of n.kind == class) && has_among gone (ranges_of n.kind) r) None (owner_of index r))
    → AreKeyed ns → LeadsToOwner (has_range class) (owner_of index) ns → LeadsToOwner (has_range class) (owner_of index') (with_net id (without_ranges gone) ns)
leave-less class id gone n ns index index' found taken keyed leads =
    owners-less (has_range class) id (λ r. (class_of n.kind == class) && has_among gone (ranges_of n.kind) r) (owner_of index) (owner_of index') taken mine (without_ranges gone) (λ m. refl) n (with-less class gone n.kind) ns found keyed leads
  where
    mine : (r : Ranked) → ((class_of n.kind == class) && has_among gone (ranges_of n.kind) r) ≡ true → (i : ℕ) → owner_of index r ≡ Some i → i ≡ id
    mine r e i is =
        let parts = and_parts (class_of n.kind == class) (has_among gone (ranges_of n.kind) r) e in
        let there = and_parts (has gone r.users) (has_ranked (ranges_of n.kind) r) (sym (among-is gone (ranges_of n.kind) r) ∙ parts.1) in
        let owned = owned-at (has_range class) (owner_of index) id ns n leads.owned found r (and_from (class_of n.kind == class) (has_ranked (ranges_of n.kind) r) parts.0 there.1) in
        same_Some i id (sym is ∙ owned ∙ ap (λ j. Some j) (sym (id-found id ns n found)))

-- the local network alone
pub indexed-start : (es : List (ℕ × StoredNetwork)) (by_link : List (ℕ × ℕ)) (users apps : List OwnedRange) (n : StoredNetwork) → es ≡ (99, n) ∷ [] → by_link ≡ [] → users ≡ [] → apps ≡ [] → n.id ≡ 99 → net_of n ≡ local_network
    → AreIndexed es by_link users apps
indexed-start es by_link users apps n entries no_links no_users no_apps id local =
    subst (λ xs. AreIndexed xs by_link users apps) (sym entries)
    (subst (λ xs. AreIndexed ((99, n) ∷ []) xs users apps) (sym no_links)
    (subst (λ xs. AreIndexed ((99, n) ∷ []) [] xs apps) (sym no_users)
    (subst (λ xs. AreIndexed ((99, n) ∷ []) [] [] xs) (sym no_apps) whole)))
  where
    nothing : FindOwners [] [] [] []
    nothing = record {
      of_link = record { owned = tt; unowned = λ k none. refl };
      of_users = record { owned = tt; unowned = λ k none. refl };
      of_apps = record { owned = tt; unowned = λ k none. refl };
    }

    whole : AreIndexed ((99, n) ∷ []) [] [] []
    whole = record {
      at_ids = (sym id, tt);
      keyed = refl;
      owners = owners-come [] [] [] [] (net_of n) (ap (λ (m : Network). m.interfaces) local) (ap (λ (m : Network). ranges_of m.kind) local) nothing;
    }

-- some network of the class has a range of this rank that meets one of these, exactly where the order has one

owned-any : (q : Ranked → Bool) (r : Ranked) (i : ℕ) (xs : List OwnedRange) → q r ≡ true → owner_of xs r ≡ Some i → list_any (λ e. q e.range) xs ≡ true
owned-any q r i [] passes is = absurd (none-some i is)
owned-any q r i (x ∷ xs) passes is = elim (cases_Bool (same_ranked x.range r)) as (λ _. list_any (λ e. q e.range) (x ∷ xs) ≡ true) [
  | inl s ↦ let here : q x.range ≡ true = ap q ((same_ranked-Decides x.range r).0 s) ∙ passes in rw here refl
  | inr s ↦ or-later (q x.range) (list_any (λ e. q e.range) xs) (owned-any q r i xs passes (rw s at is))
]
  where
    or-later : (a b : Bool) → b ≡ true → (a || b) ≡ true
    or-later true b h = refl
    or-later false b h = h

-- where the order has none, no network that leads there has
list-lacks : (q : Ranked → Bool) (list : List Ranked) → ((r : Ranked) → has_ranked list r ≡ true → q r ≡ false) → list_any q list ≡ false
list-lacks q [] none = refl
list-lacks q (x ∷ xs) none =
    or_from (q x) (list_any q xs) (none x (rw ((same_ranked-Decides x x).1 refl) refl)) (list-lacks q xs (λ r there. none r (or-later (same_ranked x r) (has_ranked xs r) there)))
  where
    or-later : (a b : Bool) → b ≡ true → (a || b) ≡ true
    or-later true b h = refl
    or-later false b h = h

kin-none : (class rank : ℕ) (more : List UidRange) (index : List OwnedRange) (ns : List Network) → any_meets rank more index ≡ false → AllByRecursion (IsOwned (has_range class) (owner_of index)) ns
    → list_any (λ m. (class_of m.kind == class) && users_meet_at rank (ranges_of m.kind) more) ns ≡ false
kin-none class rank more index [] none owned = refl
kin-none class rank more index (m ∷ ms) none owned =
    or_from ((class_of m.kind == class) && users_meet_at rank (ranges_of m.kind) more) (list_any (λ m. (class_of m.kind == class) && users_meet_at rank (ranges_of m.kind) more) ms) here (kin-none class rank more index ms none owned.1)
  where
    lacks-one : (class_of m.kind == class) ≡ true → (r : Ranked) → has_ranked (ranges_of m.kind) r ≡ true → crowded rank more r ≡ false
    lacks-one e r there = elim (cases_Bool (crowded rank more r)) as (λ _. crowded rank more r ≡ false) [
      | inl c ↦ absurd (both_ways (any_meets rank more index) none (owned-any (crowded rank more) r m.id index c (owned.0 r (and_from (class_of m.kind == class) (has_ranked (ranges_of m.kind) r) e there))))
      | inr f ↦ f
    ]

    here : ((class_of m.kind == class) && users_meet_at rank (ranges_of m.kind) more) ≡ false
    here = elim (cases_Bool (class_of m.kind == class)) as (λ _. ((class_of m.kind == class) && users_meet_at rank (ranges_of m.kind) more) ≡ false) [
      | inl e ↦ rw e (list-lacks (crowded rank more) (ranges_of m.kind) (λ r there. lacks-one e r there))
      | inr e ↦ rw e refl
    ]

pub kin-is : (class rank : ℕ) (more : List UidRange) (index : List OwnedRange) (ns : List Network) → LeadsToOwner (has_range class) (owner_of index) ns
    → any_meets rank more index ≡ class_meets class rank more ns
kin-is class rank more index ns leads =
    let kin = class_meets class rank more ns in
    elim (cases_Bool (any_meets rank more index)) as (λ _. any_meets rank more index ≡ kin) [
      | inl any ↦ elim (cases_Bool kin) as (λ _. any_meets rank more index ≡ kin) [
        | inl t ↦ any ∙ sym t
        | inr f ↦
            let it = any-owned (crowded rank more) index any in
            absurd (none-some it.owner (sym (leads.unowned it.range (kin-some class rank more ns it.range it.passes f)) ∙ it.owned))
      ]
      | inr none ↦ none ∙ sym (kin-none class rank more index ns none leads.owned)
    ]

-- the local network has no ranges
pub local-apart : (rank : ℕ) (more : List UidRange) (ns : List Network) → class_meets 0 rank more ns ≡ false
local-apart rank more [] = refl
local-apart rank more (n ∷ ns) = or_from ((class_of n.kind == 0) && users_meet_at rank (ranges_of n.kind) more) (class_meets 0 rank more ns) (here n.kind) (local-apart rank more ns)
  where
    here : (k : Kind) → ((class_of k == 0) && users_meet_at rank (ranges_of k) more) ≡ false
    here kind.Local = refl
    here (kind.Physical needed apps) = refl
    here (kind.Virtual secure users) = refl

-- what the order of the class answers
pub kin-class : (rank : ℕ) (more : List UidRange) (users apps : List OwnedRange) (ns : List Network) (k : Kind) (answer : Bool) → (class_of k ≡ 0 → answer ≡ false) → (class_of k ≡ 1 → answer ≡ any_meets rank more apps) → (class_of k ≡ 2 → answer ≡ any_meets rank more users)
    → LeadsToOwner (has_range 2) (owner_of users) ns → LeadsToOwner (has_range 1) (owner_of apps) ns → answer ≡ class_meets (class_of k) rank more ns
kin-class rank more users apps ns kind.Local answer local by_apps by_users of_users of_apps = local refl ∙ sym (local-apart rank more ns)
kin-class rank more users apps ns (kind.Physical needed list) answer local by_apps by_users of_users of_apps = by_apps refl ∙ kin-is 1 rank more apps ns of_apps
kin-class rank more users apps ns (kind.Virtual secure list) answer local by_apps by_users of_users of_apps = by_users refl ∙ kin-is 2 rank more users ns of_users
