-- No rule stands twice in a table.
use Rattle.std.proofs.Common.{◌≡◌, ◌∙◌, ℕ, ◌+◌, true, Some, List, [], ◌∷◌, refl, sym, ap, ap₂, subst, inl, inr, arith, map}
use Rattle.std.specs.Prelude.{◌&&◌, ◌||◌, Option, flat_map}
use Rattle.std.specs.List.{list_all}
use Rattle.std.proofs.lemmas.Bool.{false≢true, and_parts}
use Rattle.rule_law.specs.Rules.{HasEachOnce}
use Rattle.rule_match.specs.declared.rule.Rule.{Rule}
use Rattle.rule_kinds.specs.Kind.{rule_kind}
use Rattle.uid_ranges.specs.Range.{holds}
use Rattle.uid_ranges.specs.declared.range.UidRange.{UidRange}
use Rattle.policy_state.specs.View.{Ranked, TetherPair, Network, StateView}
use Rattle.policy_state.specs.Rows.{Item, Row, NetworkSet, NetworkPart, Whole, EachInterface, EachRange, EachDefault, OnePer, Once as OncePer, EachLockdown, EachPair, EachOf, Target, ToLink, ToLocal, Prohibits, Refuses, items, items_in, items_at, picks, nothing, link_item, user_item, split_item, range_item, pair_item, default_of, needs_of, links_of, ranges_of}
use Rattle.policy_state.specs.Table.{rule_of, rules_in, rows, table_by_rows, leads_to}
use Rattle.policy_state.proofs.RowTests.{is_own, is_linked, shows_link, knows_net, are_told_apart, is_told_apart, is_below, are_apart, is_fit, is_single, is_to_link, tells_item, rows_told, each_single_fit}
use Rattle.policy_state.proofs.Owners.{Has, Once, Owners, IsOwned, AreOnce, OfMap, of_map, of_test, or_cases}
use Rattle.policy_state.proofs.Sorted.{once-in_order}
use Rattle.policy_state.proofs.RowItems.{once-append, once-map, once-flat, once-test, once-has, Comes, comes, Linked, OfUsers, of_users, of_links, of_split, of_whole, item-net, item-link, part, has_at}
use Rattle.policy_state.proofs.SharedPackets.{Overlap, meets-by_selectors, holds_first}
use Rattle.policy_state.proofs.OneNetwork.{own-stated, own-users, one-net, rows-apart}
use Rattle.policy_state.proofs.AlikeRules.{all-has, fits, item-fits, OfSomeRow, of_row}

same-link : (n : Network) (x y : ℕ) → link_item n x ≡ link_item n y → x ≡ y
same-link n x y e = ap (λ (i : Item). i.link) e

same-ranged : (r q : Ranked) → r.users ≡ q.users → r.rank ≡ q.rank → r ≡ q
same-ranged r q e f = ap₂ (λ (u : UidRange) (k : ℕ). let it : Ranked = record { users = u; rank = k } in it) e f

module _ (o : Owners) (s : StateView) (good : IsOwned o s) (once : AreOnce s) where
  pub in-once : (spread : NetworkPart) (n : Network) → Has s.networks n → Once (items_in spread (default_of s) n)
  in-once Whole n there = ((λ h. h), tt)
  in-once EachInterface n there = once-map (link_item n) n.interfaces (once.interfaces n there) (λ x y g h e. ap (λ (i : Item). i.link) e)
  in-once EachRange n there =
      once-flat (λ link. map (user_item n link) (ranges_of n.kind)) n.interfaces (once.interfaces n there)
      (λ link h. once-map (user_item n link) (ranges_of n.kind) (once.ranges n there) (λ r q g h e.
      let users : Some r.users ≡ Some q.users = ap (λ (i : Item). i.users) e in
      let same : r.users ≡ q.users = cc in
      same-ranged r q same (ap (λ (i : Item). i.rank) e)))
      (λ x y i g h in_x in_y.
      let one : OfMap (user_item n x) (ranges_of n.kind) i = of_map (user_item n x) (ranges_of n.kind) i in_x in
      let other : OfMap (user_item n y) (ranges_of n.kind) i = of_map (user_item n y) (ranges_of n.kind) i in_y in
      sym (ap (λ (i : Item). i.link) one.is) ∙ ap (λ (i : Item). i.link) other.is)
  in-once EachDefault n there = once-map (split_item n (needs_of (default_of s))) (links_of (default_of s)) once.default (λ x y g h e. ap (λ (i : Item). i.link) e)

  pub items-once : (per : OnePer) → Once (items per s)
  items-once OncePer = ((λ h. h), tt)
  items-once EachLockdown = once-map range_item s.lockdown once.lockdown (λ x y g h e. let both : Some x ≡ Some y = ap (λ (i : Item). i.users) e in cc)
  items-once EachPair = once-map pair_item s.pairs once.pairs (λ x y g h e. ap₂ (λ (a b : ℕ). let it : TetherPair = record { input = a; out = b } in it) (ap (λ (i : Item). i.incoming) e) (ap (λ (i : Item). i.link) e))
  items-once (EachOf pick spread) =
      once-flat (items_at pick spread s.default (default_of s)) s.networks once.networks (λ n there. once-test (picks pick s.default n) (items_in spread (default_of s) n) (in-once spread n there))
      (λ m n i in_m in_n one other.
      good.one_id m n in_m in_n
      (sym (item-net spread s m i (of_test (picks pick s.default m) (items_in spread (default_of s) m) i one).1) ∙ item-net spread s n i (of_test (picks pick s.default n) (items_in spread (default_of s) n) i other).1))

pub link-led : (target : Target) (i j : Item) → is_to_link target ≡ true → leads_to target i.link ≡ leads_to target j.link → i.link ≡ j.link
link-led ToLink i j is e = let same : 1000 + i.link ≡ 1000 + j.link = cc in omega (arith, same)
link-led ToLocal i j is e = absurd (false≢true is)
link-led Prohibits i j is e = absurd (false≢true is)
link-led Refuses i j is e = absurd (false≢true is)

module _ (o : Owners) (s : StateView) (good : IsOwned o s) (row : Row) (i j : Item) (same : rule_of row i ≡ rule_of row j) (meets : Overlap row row i j) where
  led : is_to_link row.target ≡ true → i.link ≡ j.link
  led h = link-led row.target i j h (ap (λ (x : Rule). x.action) same)

  incoming : is_own row.incoming ≡ true → i.incoming ≡ j.incoming
  incoming h = meets.incoming i.incoming j.incoming (own-stated row.incoming i.incoming h) (own-stated row.incoming j.incoming h)

  users : is_own row.users ≡ true → i.users ≡ j.users
  users h = sym (own-users row.users i.users h) ∙ (ap (λ (x : Rule). x.uids) same ∙ own-users row.users j.users h)

  links : (spread : NetworkPart) (n : Network) → (shows_link spread row || is_to_link row.target) ≡ true → Linked n i → Linked n j → i.link ≡ j.link
  links spread n h one other = elim (or_cases (shows_link spread row) (is_to_link row.target) h) [
    | inl shows ↦ elim (or_cases row.bound (is_own row.incoming) (and_parts (is_linked spread) (row.bound || is_own row.incoming) shows).1) [
      | inl bound ↦ meets.bound bound bound
      | inr own ↦ sym one.incoming ∙ (incoming own ∙ other.incoming)
    ]
    | inr to ↦ led to
  ]

  within : (spread : NetworkPart) (n : Network) → Has s.networks n → tells_item spread row ≡ true → Has (items_in spread (default_of s) n) i → Has (items_in spread (default_of s) n) j → i ≡ j
  within Whole n there tells in_i in_j = of_whole s n i in_i ∙ sym (of_whole s n j in_j)
  within EachInterface n there tells in_i in_j =
      let one : OfMap (link_item n) n.interfaces i = of_links s n i in_i in
      let other : OfMap (link_item n) n.interfaces j = of_links s n j in_j in
      let link : i.link ≡ j.link = links EachInterface n tells (item-link EachInterface refl s n i in_i) (item-link EachInterface refl s n j in_j) in
      one.is ∙ (ap (link_item n) (sym (ap (λ (i : Item). i.link) one.is) ∙ (link ∙ ap (λ (i : Item). i.link) other.is)) ∙ sym other.is)
  within EachRange n there tells in_i in_j =
      let one : OfUsers n i = of_users s n i in_i in
      let other : OfUsers n j = of_users s n j in_j in
      let both = and_parts (shows_link EachRange row || is_to_link row.target) (is_own row.users) tells in
      let link : i.link ≡ j.link = links EachRange n both.0 (item-link EachRange refl s n i in_i) (item-link EachRange refl s n j in_j) in
      let ranges : Some one.r.users ≡ Some other.r.users = sym (ap (λ (i : Item). i.users) one.is) ∙ (users both.1 ∙ ap (λ (i : Item). i.users) other.is) in
      let range : one.r.users ≡ other.r.users = cc in
      let r : one.r ≡ other.r = (good.owns n there).disjoint one.r other.r one.r.users.first.number one.ranged other.ranged (holds_first one.r.users)
      (subst (λ (u : UidRange). holds u one.r.users.first.number ≡ true) range (holds_first one.r.users)) in
      one.is ∙ (ap₂ (user_item n) (sym (ap (λ (i : Item). i.link) one.is) ∙ (link ∙ ap (λ (i : Item). i.link) other.is)) r ∙ sym other.is)
  within EachDefault n there tells in_i in_j =
      let one = of_split s n i in_i in
      let other = of_split s n j in_j in
      one.is ∙ (ap (split_item n (needs_of (default_of s))) (sym (ap (λ (i : Item). i.link) one.is) ∙ (led tells ∙ ap (λ (i : Item). i.link) other.is)) ∙ sym other.is)

  pub tells : (per : OnePer) → is_single per row ≡ true → Has (items per s) i → Has (items per s) j → i ≡ j
  tells OncePer h in_i in_j = elim in_i [ inl e ↦ elim in_j [ inl f ↦ sym e ∙ f | inr f ↦ absurd f ] | inr f ↦ absurd f ]
  tells EachLockdown h in_i in_j =
      let one : OfMap range_item s.lockdown i = of_map range_item s.lockdown i in_i in
      let other : OfMap range_item s.lockdown j = of_map range_item s.lockdown j in_j in
      one.is ∙ (ap (λ (u : Option UidRange). record nothing { users = u }) (sym (ap (λ (i : Item). i.users) one.is) ∙ (users h ∙ ap (λ (i : Item). i.users) other.is)) ∙ sym other.is)
  tells EachPair h in_i in_j =
      let both = and_parts (is_own row.incoming) (is_to_link row.target) h in
      let one : OfMap pair_item s.pairs i = of_map pair_item s.pairs i in_i in
      let other : OfMap pair_item s.pairs j = of_map pair_item s.pairs j in_j in
      one.is ∙ (ap₂ (λ (a b : ℕ). record nothing { incoming = a; link = b })
      (sym (ap (λ (i : Item). i.incoming) one.is) ∙ (incoming both.0 ∙ ap (λ (i : Item). i.incoming) other.is))
      (sym (ap (λ (i : Item). i.link) one.is) ∙ (led both.1 ∙ ap (λ (i : Item). i.link) other.is)) ∙ sym other.is)
  tells (EachOf pick spread) h in_i in_j =
      let both = and_parts (knows_net pick spread row) (tells_item spread row) h in
      let one : Comes s pick spread i = comes s pick spread i in_i in
      let other : Comes s pick spread j = comes s pick spread j in_j in
      let net : one.net ≡ other.net = good.one_id one.net other.net one.there other.there (one-net o s s good.owns good.owns row pick spread i j one other meets (λ is. refl) both.0) in
      within spread other.net other.there both.1 (subst (λ (n : Network). Has (items_in spread (default_of s) n) i) net one.item) other.item

module _ (o : Owners) (s : StateView) (good : IsOwned o s) (once : AreOnce s) where
  equal-meets : (a b : Row) (i j : Item) → is_fit a ≡ true → is_fit b ≡ true → Has (items a.per s) i → Has (items b.per s) j → rule_of a i ≡ rule_of b j → Overlap a b i j
  equal-meets a b i j fit fit' in_i in_j same =
      meets-by_selectors a b i j (fits a i fit (item-fits o s good.owns a.per i in_i)) (fits b j fit' (item-fits o s good.owns b.per j in_j))
      (record {
        mark = ap (λ (x : Rule). x.mark) same;
        mask = ap (λ (x : Rule). x.mask) same;
        incoming = ap (λ (x : Rule). x.incoming) same;
        outgoing = ap (λ (x : Rule). x.outgoing) same;
        uids = ap (λ (x : Rule). x.uids) same;
      })
      (ap (λ (x : Rule). x.priority) same)

  pub row-once : (row : Row) → is_single row.per row ≡ true → is_fit row ≡ true → Once (rules_in s row)
  row-once row single fit =
      once-map (rule_of row) (items row.per s) (items-once o s good once row.per) (λ i j in_i in_j same.
      tells o s good row i j same (equal-meets row row i j fit fit in_i in_j same) row.per single in_i in_j)

  -- in a part of a row too
  pub part-once : (row : Row) (pick : NetworkSet) (spread : NetworkPart) → row.per ≡ EachOf pick spread → is_single row.per row ≡ true → is_fit row ≡ true → (n : Network) → Has s.networks n → Once (part row pick spread s n)
  part-once row pick spread is single fit n there =
      once-map (rule_of row) (items_at pick spread s.default (default_of s) n) (once-test (picks pick s.default n) (items_in spread (default_of s) n) (in-once o s good once spread n there)) (λ i j in_i in_j same.
      let has_i : Has (items row.per s) i = subst (λ per. Has (items per s) i) (sym is) (has_at pick spread s n i there in_i) in
      let has_j : Has (items row.per s) j = subst (λ per. Has (items per s) j) (sym is) (has_at pick spread s n j there in_j) in
      tells o s good row i j same (equal-meets row row i j fit fit has_i has_j same) row.per single has_i has_j)

  pub rows-once : (some : List Row) → are_told_apart some ≡ true → list_all (λ (row : Row). is_single row.per row && is_fit row) some ≡ true → Once (flat_map (rules_in s) some)
  rows-once [] told single = tt
  rows-once (r ∷ rest) told single =
      let one = and_parts (is_told_apart r.per r) (list_all (λ b. is_below r b || are_apart r.per r b.per b) rest && are_told_apart rest) told in
      let two = and_parts (list_all (λ b. is_below r b || are_apart r.per r b.per b) rest) (are_told_apart rest) one.1 in
      let three = and_parts (is_single r.per r && is_fit r) (list_all (λ (row : Row). is_single row.per row && is_fit row) rest) single in
      let four = and_parts (is_single r.per r) (is_fit r) three.0 in
      once-append (rules_in s r) (flat_map (rules_in s) rest) (row-once r four.0 four.1) (rows-once rest two.1 three.1) (λ x in_one in_rest.
      let here : OfMap (rule_of r) (items r.per s) x = of_map (rule_of r) (items r.per s) x in_one in
      let there : OfSomeRow s rest x = of_row s rest x in_rest in
      let fit : is_fit there.row ≡ true = (and_parts (is_single there.row.per there.row) (is_fit there.row) (all-has (λ (row : Row). is_single row.per row && is_fit row) rest there.row three.1 there.there)).1 in
      rows-apart o s s good.owns good.owns r there.row here.one there.item (all-has (λ b. is_below r b || are_apart r.per r b.per b) rest there.row two.0 there.there) here.there there.comes
      (equal-meets r there.row here.one there.item four.1 fit here.there there.comes (sym here.is ∙ there.is)))

  pub table-once : HasEachOnce rule_kind (table_by_rows s)
  table-once = once-in_order rule_kind (flat_map (rules_in s) rows) (once-has (flat_map (rules_in s) rows) (rows-once rows rows_told each_single_fit))
