-- Two items of a row whose rules meet are of one network, where the row tells it.
use Rattle.std.proofs.Common.{◌≡◌, ◌∙◌, ◌+◌, true, Some, refl, sym, ap, subst, inl, inr, arith, ◌<◌, ◌≤◌, Bool, false}
use Rattle.std.specs.Prelude.{◌&&◌, ◌||◌, Option, if◌then◌else◌, ◌==◌, not}
use Rattle.std.proofs.lemmas.Bool.{false≢true, and_parts, cases_Bool, ltb-true, eq-eqb}
use Rattle.uid_ranges.specs.declared.range.UidRange.{UidRange}
use Rattle.policy_state.specs.View.{Ranked, Network, StateView}
use Rattle.policy_state.specs.Rows.{Item, Row, NetworkSet, NetworkPart, Selector, Unstated, OfItem, OfRow, OnlyUser, Root, class_of, ranges_of, OnePer, Once, EachLockdown, EachPair, EachOf, items, nothing, range_item, pair_item}
use Rattle.policy_state.specs.Table.{stated, stated_users, priority_at}
use Rattle.policy_state.proofs.RowTests.{is_own, is_linked, is_ranged, is_of_default, shows_link, knows_net, network_class, is_below, are_apart}
use Rattle.policy_state.proofs.Owners.{Has, Owners, AreOwners, or_cases, of_map}
use Rattle.policy_state.proofs.SharedPackets.{Overlap, Shared}
use Rattle.policy_state.proofs.RowItems.{Comes, Linked, OfUsers, item-net, item-link, item-users, picked-family, picked-default, comes, item-nobody}

pub own-stated : {A : Type 0} (f : Selector A) (x : A) → is_own f ≡ true → stated f x ≡ Some x
own-stated Unstated x h = absurd (false≢true h)
own-stated OfItem x h = refl
own-stated (OfRow value) x h = absurd (false≢true h)

pub own-users : (f : Selector OnlyUser) (x : Option UidRange) → is_own f ≡ true → stated_users f x ≡ x
own-users Unstated x h = absurd (false≢true h)
own-users OfItem x h = refl
own-users (OfRow Root) x h = absurd (false≢true h)

rank-at : (row : Row) (i j : Item) → row.ranked ≡ true → priority_at row i ≡ priority_at row j → i.rank ≡ j.rank
rank-at row i j ranked same =
    let sums : row.base + i.rank ≡ row.base + j.rank = subst (λ b. row.base + (if b then i.rank else 0) ≡ row.base + (if b then j.rank else 0)) ranked same in
    omega arith

module _ (o : Owners) (s t : StateView) (own_s : AreOwners o s) (own_t : AreOwners o t) where
  -- one link is of one network
  pub one_owner : (m n : Network) (i j : Item) → Has s.networks m → Has t.networks n → Linked m i → Linked n j → i.link ≡ j.link → m.id ≡ n.id
  one_owner m n i j in_s in_t one other same =
      sym ((own_s m in_s).links i.link one.link) ∙ (ap o.of_link same ∙ (own_t n in_t).links j.link other.link)

  -- one user is of one network
  one_holder : (m n : Network) (r q : Ranked) → Has s.networks m → Has t.networks n → class_of m.kind ≡ class_of n.kind
      → Has (ranges_of m.kind) r → Has (ranges_of n.kind) q → r.rank ≡ q.rank → Shared r.users q.users → m.id ≡ n.id
  one_holder m n r q in_s in_t kinds one other ranks shared =
      sym ((own_s m in_s).users r shared.uid one shared.one)
      ∙ (ap (λ k. o.of_user k r.rank shared.uid) kinds ∙ (ap (λ k. o.of_user (class_of n.kind) k shared.uid) ranks
      ∙ (own_t n in_t).users q shared.uid other shared.other))

  module _ (row : Row) (pick : NetworkSet) (spread : NetworkPart) (i j : Item) (one : Comes s pick spread i) (other : Comes t pick spread j) (meets : Overlap row row i j) where
    by_link : shows_link spread row ≡ true → one.net.id ≡ other.net.id
    by_link h =
        let both = and_parts (is_linked spread) (row.bound || is_own row.incoming) h in
        let in_i : Linked one.net i = item-link spread both.0 s one.net i one.item in
        let in_j : Linked other.net j = item-link spread both.0 t other.net j other.item in
        let same : i.link ≡ j.link = elim (or_cases row.bound (is_own row.incoming) both.1) [
          | inl bound ↦ meets.bound bound bound
          | inr incoming ↦ sym in_i.incoming ∙ (meets.incoming i.incoming j.incoming (own-stated row.incoming i.incoming incoming) (own-stated row.incoming j.incoming incoming) ∙ in_j.incoming)
        ] in
        one_owner one.net other.net i j one.there other.there in_i in_j same

    by_user : (is_ranged spread && (row.ranked && is_own row.users)) ≡ true → one.net.id ≡ other.net.id
    by_user h =
        let both = and_parts (is_ranged spread) (row.ranked && is_own row.users) h in
        let more = and_parts row.ranked (is_own row.users) both.1 in
        let in_i : OfUsers one.net i = item-users spread both.0 s one.net i one.item in
        let in_j : OfUsers other.net j = item-users spread both.0 t other.net j other.item in
        one_holder one.net other.net in_i.r in_j.r one.there other.there
        (picked-family pick s one.net one.picked ∙ sym (picked-family pick t other.net other.picked))
        in_i.ranged in_j.ranged
        (sym (ap (λ (i : Item). i.rank) in_i.is) ∙ (rank-at row i j more.0 meets.priority ∙ ap (λ (i : Item). i.rank) in_j.is))
        (meets.users in_i.r.users in_j.r.users (own-users row.users i.users more.1 ∙ ap (λ (i : Item). i.users) in_i.is) (own-users row.users j.users more.1 ∙ ap (λ (i : Item). i.users) in_j.is))

    pub one-net : (is_of_default pick ≡ true → s.default ≡ t.default) → knows_net pick spread row ≡ true → one.net.id ≡ other.net.id
    one-net same h = elim (or_cases (is_own row.net) (shows_link spread row || (is_ranged spread && (row.ranked && is_own row.users) || is_of_default pick)) h) [
      | inl net ↦ sym (item-net spread s one.net i one.item) ∙ (meets.net i.net j.net (own-stated row.net i.net net) (own-stated row.net j.net net) ∙ item-net spread t other.net j other.item)
      | inr rest ↦ elim (or_cases (shows_link spread row) (is_ranged spread && (row.ranked && is_own row.users) || is_of_default pick) rest) [
        | inl link ↦ by_link link
        | inr rest' ↦ elim (or_cases (is_ranged spread && (row.ranked && is_own row.users)) (is_of_default pick) rest') [
          | inl user ↦ by_user user
          | inr default ↦ picked-default pick default s t (same default) one.net other.net one.picked other.picked
        ]
      ]
    ]

-- Rules of two rows don't meet.

-- ranks are at most 99
pub rank-few : (o : Owners) (s : StateView) → AreOwners o s → (per : OnePer) (i : Item) → Has (items per s) i → i.rank ≤ 99
rank-few o s own Once i h = let e : nothing ≡ i = elim h [ inl e ↦ e | inr f ↦ absurd f ] in subst (λ (i : Item). i.rank ≤ 99) e (omega arith)
rank-few o s own EachLockdown i h = subst (λ (i : Item). i.rank ≤ 99) (sym (of_map range_item s.lockdown i h).is) (omega arith)
rank-few o s own EachPair i h = subst (λ (i : Item). i.rank ≤ 99) (sym (of_map pair_item s.pairs i h).is) (omega arith)
rank-few o s own (EachOf pick spread) i h =
    let it : Comes s pick spread i = comes s pick spread i h in
    elim (cases_Bool (is_ranged spread)) [
      | inl ranged ↦
          let users : OfUsers it.net i = item-users spread ranged s it.net i it.item in
          subst (λ (i : Item). i.rank ≤ 99) (sym users.is) ((own it.net it.there).ranks users.r users.ranged)
      | inr nobody ↦ let none : i.rank ≡ 0 = (item-nobody spread nobody s it.net i it.item).1 in omega arith
    ]

pub below : (a b : Row) (i j : Item) → is_below a b ≡ true → i.rank ≤ 99 → priority_at a i < priority_at b j
below a b i j h few = by a.ranked b.ranked (ltb-true (a.base + (if a.ranked then 99 else 0)) b.base h)
  where
    by : (c d : Bool) → a.base + (if c then 99 else 0) < b.base → a.base + (if c then i.rank else 0) < b.base + (if d then j.rank else 0)
    by true true h = omega arith
    by true false h = omega arith
    by false true h = omega arith
    by false false h = omega arith

module _ (o : Owners) (s t : StateView) (own_s : AreOwners o s) (own_t : AreOwners o t) where
  each-apart : (a b : Row) (pick pick' : NetworkSet) (spread spread' : NetworkPart) (i j : Item) → are_apart (EachOf pick spread) a (EachOf pick' spread') b ≡ true
      → Comes s pick spread i → Comes t pick' spread' j → Overlap a b i j → ⊥
  each-apart a b pick pick' spread spread' i j h one other meets =
      let both = and_parts (not (network_class pick == network_class pick')) ((is_own a.net && is_own b.net) || (is_linked spread && a.bound && (is_linked spread' && b.bound))) h in
      let id : one.net.id ≡ other.net.id = elim (or_cases (is_own a.net && is_own b.net) (is_linked spread && a.bound && (is_linked spread' && b.bound)) both.1) [
        | inl nets ↦
            let own = and_parts (is_own a.net) (is_own b.net) nets in
            sym (item-net spread s one.net i one.item) ∙ (meets.net i.net j.net (own-stated a.net i.net own.0) (own-stated b.net j.net own.1) ∙ item-net spread' t other.net j other.item)
        | inr links ↦
            let two = and_parts (is_linked spread && a.bound) (is_linked spread' && b.bound) links in
            let first = and_parts (is_linked spread) a.bound two.0 in
            let second = and_parts (is_linked spread') b.bound two.1 in
            one_owner o s t own_s own_t one.net other.net i j one.there other.there
            (item-link spread first.0 s one.net i one.item) (item-link spread' second.0 t other.net j other.item) (meets.bound first.1 second.1)
      ] in
      let kinds : network_class pick ≡ network_class pick' =
      sym (picked-family pick s one.net one.picked)
      ∙ (sym (own_s one.net one.there).network_class ∙ (ap o.network_class id ∙ ((own_t other.net other.there).network_class ∙ picked-family pick' t other.net other.picked))) in
      false≢true (ap not (sym (eq-eqb (network_class pick) (network_class pick') kinds)) ∙ both.0)

  apart : (a b : Row) (p q : OnePer) (i j : Item) → are_apart p a q b ≡ true → Has (items p s) i → Has (items q t) j → Overlap a b i j → ⊥
  apart a b Once q i j h in_i in_j meets = false≢true h
  apart a b EachLockdown q i j h in_i in_j meets = false≢true h
  apart a b EachPair q i j h in_i in_j meets = false≢true h
  apart a b (EachOf pick spread) Once i j h in_i in_j meets = false≢true h
  apart a b (EachOf pick spread) EachLockdown i j h in_i in_j meets = false≢true h
  apart a b (EachOf pick spread) EachPair i j h in_i in_j meets = false≢true h
  apart a b (EachOf pick spread) (EachOf pick' spread') i j h in_i in_j meets =
      each-apart a b pick pick' spread spread' i j h (comes s pick spread i in_i) (comes t pick' spread' j in_j) meets

  pub rows-apart : (a b : Row) (i j : Item) → (is_below a b || are_apart a.per a b.per b) ≡ true → Has (items a.per s) i → Has (items b.per t) j → Overlap a b i j → ⊥
  rows-apart a b i j h in_i in_j meets = elim (or_cases (is_below a b) (are_apart a.per a b.per b) h) [
    | inl lower ↦ let less : priority_at a i < priority_at b j = below a b i j lower (rank-few o s own_s a.per i in_i) in omega (arith, less, meets.priority)
    | inr apart' ↦ apart a b a.per b.per i j apart' in_i in_j meets
  ]
